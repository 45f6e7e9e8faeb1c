-- Windows of one tile, repeated in all directions.
use Rattle.std.specs.Prelude.{ℕ, ◌-ℤ◌, List, [], ◌∷◌, ◌++◌, Option, None, codes}
use Rattle.std.specs.Fmt.{signed_decimal}
use Rattle.hex.specs.Hex.{encode_lower}
use Rattle.tr_base.specs.declared.Point.{Point}
use Rattle.tr_base.specs.declared.Size.{Size}
use Rattle.tr_base.specs.declared.Event.{Event}
use Rattle.tr_base.specs.Rects.{Edges, meet_of, whole_of}
use Rattle.tr_base.specs.Tiles.{tile_bit}
use Rattle.tr_paint.specs.declared.Paint.{Paint}
use Rattle.tr_paint.specs.declared.Paint.TheVariants.{Texture}
use Rattle.tr_paint.specs.Traces.{Look}
use Rattle.tr_paint.specs.Batches.{batch_of}
use Rattle.tr_client.specs.Plain.{plain, colour_of}
use Rattle.w_plain.specs.Shifts.{IsShift}
use Rattle.w_plain.specs.declared.boards.Board.{Board}
use Rattle.w_plain.specs.declared.boards.BoardCmd.{BoardCmd}
use Rattle.w_plain.specs.declared.boards.BoardCmd.TheVariants.{Tile, Shift}

-- the shift is in range
pub record IsBoard (x : Board) : Type 0 where
  pub shift : IsShift x.shift

-- the shift of a command is in range
abbrev pub IsBoardCmd : BoardCmd → Type 0
IsBoardCmd (Tile tile) = Unit {0}
IsBoardCmd (Shift shift) = IsShift shift

-- the words of a command in a script: a tile as 16 hex digits, a shift as two numbers
abbrev pub board_words : BoardCmd → List ℕ
board_words (Tile tile) = codes "tile " ++ encode_lower tile.rows
board_words (Shift shift) = codes "shift " ++ signed_decimal shift.h ++ codes " " ++ signed_decimal shift.v

-- the colour is the bit of the tile, which begins at the shift
abbrev pub board_pic : Look → Size → Board → Point → ℕ
board_pic look size x q = colour_of (tile_bit x.tile (q.h -ℤ x.shift.h) (q.v -ℤ x.shift.v))

-- a command sets the tile or the shift
abbrev pub board_next : Board → BoardCmd → Board
board_next x (Tile tile) = record x { tile = tile }
board_next x (Shift shift) = record x { shift = shift }

-- the commands that paint a part of the picture
abbrev pub board_paints : Edges → Board → List Paint
board_paints part x = batch_of (Texture plain part x.tile x.shift ∷ [])

-- all of the window is painted with the new tile at the new shift
abbrev pub board_patch : Look → Size → Board → BoardCmd → List Paint
board_patch look size x cmd = board_paints (whole_of size) (board_next x cmd)

-- no event asks for a command
abbrev pub board_answer : Board → Event → Option BoardCmd
board_answer x event = None

-- the tile as 16 hex digits
abbrev pub board_value : Board → List ℕ
board_value x = encode_lower x.tile.rows

-- the points in both windows
abbrev pub board_keeps : Board → Size → Size → Edges
board_keeps x from to = meet_of (whole_of from) (whole_of to)
