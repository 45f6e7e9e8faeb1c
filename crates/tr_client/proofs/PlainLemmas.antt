-- Texts and tiles in two colours.
use Rattle.std.proofs.Common.{◌≡◌, ℕ, Bool, true, false, cond, List, length, refl, sym, ap, ◌∙◌, arith}
use Rattle.tr_base.specs.declared.Point.{Point}
use Rattle.tr_base.specs.declared.Kind.{Kind}
use Rattle.tr_base.specs.declared.Tile.{Tile}
use Rattle.tr_base.specs.Ops.{eff, IsPixel}
use Rattle.tr_base.specs.Tiles.{tile_bit}
use Rattle.std.specs.Prelude.{◌-ℤ◌}
use Rattle.std.proofs.lemmas.Bool.{and_parts}
use Rattle.tr_base.specs.Rects.{Edges, has_point, meet_of}
use Rattle.tr_base.proofs.RectLemmas.{has_point-meet_of}
use Rattle.tr_base.proofs.OpLemmas.{pixel-bit}
use Rattle.tr_paint.specs.declared.Paint.TheVariants.{Text, Texture}
use Rattle.tr_paint.specs.Paints.{cells_of, text_bit, chosen}
use Rattle.tr_paint.specs.Traces.{Look, Keep, Value, deed}
use Rattle.tr_paint.proofs.PaintingLemmas.{Makes}
use Rattle.tr_client.specs.Plain.{plain, colour_of}

-- the operation for a bit gives its colour
pub plain-colour : (kind : Kind) (bit : Bool) → eff kind (chosen plain bit) 0 ≡ colour_of bit
plain-colour kind true = refl
plain-colour kind false = refl

-- each kind has the colour of a bit
pub pixel-colour_of : (kind : Kind) (bit : Bool) → IsPixel kind (colour_of bit)
pixel-colour_of kind true = pixel-bit kind 1 (omega arith)
pixel-colour_of kind false = pixel-bit kind 0 (omega arith)

-- and so it has that of a point by a text: in its cells the bit's, and beside them background
pub pixel-text : (kind : Kind) (inside bit : Bool) → IsPixel kind (cond inside (colour_of bit) 0)
pixel-text kind true bit = pixel-colour_of kind bit
pixel-text kind false bit = pixel-bit kind 0 (omega arith)

-- a tile gives each point the colour of its bit
pub tile-gives : (look : Look) (part : Edges) (tile : Tile) (at : Point) (q : Point) → has_point part q ≡ true →
    deed look (Texture plain part tile at) q ≡ Value (colour_of (tile_bit tile (q.h -ℤ at.h) (q.v -ℤ at.v)))
tile-gives look part tile at q here = rw here (ap (λ n. Value n) (plain-colour look.kind (tile_bit tile (q.h -ℤ at.h) (q.v -ℤ at.v))))

-- a text gives each point of its cells the colour of its bit, and leaves the others
pub text-makes : (look : Look) (part : Edges) (at : Point) (text : List ℕ) (q : Point) (old : ℕ) → has_point part q ≡ true →
    Makes look.kind (deed look (Text plain part at text) q) old
    (cond (has_point (cells_of at (length text)) q) (colour_of (text_bit look.font at text q)) old)
text-makes look part at text q old here =
    rw (has_point-meet_of part (cells_of at (length text)) q, here) (by_cell (has_point (cells_of at (length text)) q))
  where
    by_cell : (b : Bool) →
        Makes look.kind (cond b (Value (eff look.kind (chosen plain (text_bit look.font at text q)) 0)) Keep) old
        (cond b (colour_of (text_bit look.font at text q)) old)
    by_cell true = plain-colour look.kind (text_bit look.font at text q)
    by_cell false = refl

-- what lies in a common part lies in the first
pub meet-inside : (part e : Edges) (q : Point) → has_point (meet_of part e) q ≡ true → has_point part q ≡ true
meet-inside part e q h = (and_parts _ _ (sym (has_point-meet_of part e q) ∙ h)).0
