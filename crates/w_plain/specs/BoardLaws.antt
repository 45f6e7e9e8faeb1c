-- A Board obeys the laws of clients.
-- These proofs are in specs/ because an impl may cite nothing else of its crate. No contract cites them.
use Rattle.std.proofs.Common.{◌≡◌, [], true, refl, ap}
use Rattle.std.specs.Prelude.{◌-ℤ◌, IfSome}
use Rattle.tr_base.specs.declared.Point.{Point}
use Rattle.tr_base.specs.declared.Size.{Size}
use Rattle.tr_base.specs.declared.Event.{Event}
use Rattle.tr_base.specs.Ops.{IsPixel}
use Rattle.tr_base.specs.Rects.{Edges, whole_of}
use Rattle.tr_base.specs.Tiles.{tile_bit}
use Rattle.tr_paint.specs.declared.Paint.TheVariants.{Texture}
use Rattle.tr_paint.specs.Traces.{Look}
use Rattle.tr_paint.specs.Patches.{IsPatch}
use Rattle.tr_paint.specs.Paintings.{IsPainting}
use Rattle.tr_paint.proofs.PaintingLemmas.{painting_alone, painting_is_patch}
use Rattle.tr_client.specs.Laws.{IsWindowSize, is_flat, IsEvent, Survives}
use Rattle.tr_client.specs.Plain.{plain}
use Rattle.tr_client.proofs.KeepingLemmas.{survives-meet}
use Rattle.tr_client.proofs.FlatLemmas.{flat-whole}
use Rattle.tr_client.proofs.PlainLemmas.{tile-gives, pixel-colour_of}
use Rattle.w_plain.specs.declared.boards.Board.{Board}
use Rattle.w_plain.specs.declared.boards.BoardCmd.{BoardCmd}
use Rattle.w_plain.specs.declared.boards.BoardCmd.TheVariants.{Tile, Shift}
use Rattle.w_plain.specs.Boards.{IsBoard, IsBoardCmd, board_pic, board_next, board_paints, board_patch, board_answer, board_keeps}

pub board_painting : (look : Look) (size : Size) (part : Edges) (x : Board) →
    IsPainting look part (board_paints part x) (board_pic look size x)
board_painting look size part x =
    painting_alone look part (Texture plain part x.tile x.shift) (board_pic look size x) (tile-gives look part x.tile x.shift) (λ q h. h)

pub board_contents : (x : Board) (cmd : BoardCmd) → IsBoard x → IsBoardCmd cmd → IsBoard (board_next x cmd)
board_contents x (Tile tile) valid known = record { shift = valid.shift }
board_contents x (Shift shift) valid known = record { shift = known }

pub board_answers : (x : Board) (event : Event) → IsBoard x → IsEvent event → IfSome (board_answer x event) (λ cmd. IsBoardCmd cmd)
board_answers x event valid known = tt

pub board_patches : (look : Look) (size : Size) (x : Board) (cmd : BoardCmd) → IsBoard x → IsBoardCmd cmd → IsWindowSize size →
    IsPatch look size (board_patch look size x cmd) (board_pic look size x) (board_pic look size (board_next x cmd))
board_patches look size x cmd valid known small =
    painting_is_patch look size (board_patch look size x cmd) (board_pic look size x) (board_pic look size (board_next x cmd))
    (board_painting look size (whole_of size) (board_next x cmd))

pub board_empty_patches : (look : Look) (size : Size) (x : Board) (cmd : BoardCmd) → IsBoard x → IsBoardCmd cmd → IsWindowSize size →
    is_flat size ≡ true → board_patch look size x cmd ≡ []
board_empty_patches look size x cmd valid known small flat = ap (λ part. board_paints part (board_next x cmd)) (flat-whole size flat)

pub board_keeping : (look : Look) (from to : Size) (x : Board) → IsBoard x → IsWindowSize from → IsWindowSize to →
    Survives (board_keeps x from to) from to (board_pic look from x) (board_pic look to x)
board_keeping look from to x valid small small' = survives-meet from to (board_pic look from x) (board_pic look to x) (λ q h k. refl)

pub board_kinds : (look : Look) (size : Size) (x : Board) (p : Point) → IsBoard x → IsWindowSize size →
    IsPixel look.kind (board_pic look size x p)
board_kinds look size x p valid small = pixel-colour_of look.kind (tile_bit x.tile (p.h -ℤ x.shift.h) (p.v -ℤ x.shift.v))
