-- Private contracts alone cite this file.
-- The effects of a command, and of a batch, on a screen.
use Rattle.std.specs.Prelude.{◌≡◌, ℕ, Bool, true, false, ◌&&◌, List, Some}
use Rattle.tr_base.specs.declared.Point.{Point}
use Rattle.tr_base.specs.Ops.{eff}
use Rattle.tr_base.specs.Rects.{Edges, before_shift, has_point}
use Rattle.tr_screen.specs.Pictures.{Picture, pixel_of}
use Rattle.tr_screen.specs.Runs.{Repaints, IsOn}
use Rattle.tr_region.specs.Points.{holds}
use Rattle.tr_paint.specs.declared.Paint.{Paint}
use Rattle.tr_paint.specs.declared.Paint.TheVariants.{Scroll, Spoil}
use Rattle.tr_paint.specs.Paints.{area, op_at}
use Rattle.tr_paint.specs.Batches.{touches}
use Rattle.tr_paint.specs.Traces.{Look, Base, after}
use Rattle.tr_exec.specs.Unknown.{moved_of}

-- a visible point of a command's area
abbrev pub in_sight : Paint → Point → List Edges → Point → Bool
in_sight c origin visible p = holds visible p && has_point (area c) (before_shift p origin)

-- a command moves pixels, or leaves all unchanged, or applies its operation to each visible point of its area
abbrev pub IsPainted : Look → Paint → Point → List Edges → Picture → Picture → Type 0
IsPainted look (Scroll clip delta) origin visible old new =
    Repaints (moved_of (Scroll clip delta) origin visible) (λ p. pixel_of old (before_shift p delta)) old new
IsPainted look (Spoil clip) origin visible old new = new ≡ old
IsPainted look c origin visible old new =
    Repaints (in_sight c origin visible) (λ p. eff look.kind (op_at look.font c (before_shift p origin)) (pixel_of old p)) old new

-- after a batch each visible point whose colour is known has it;
-- a visible point that no command touches keeps its pixel, and so do all points that aren't visible
pub record ShowsBatch (look : Look) (base : Base) (batch : List Paint)
    (origin : Point) (visible : List Edges) (old new : Picture) : Type 0 where
  pub size : new.size ≡ old.size
  pub kind : new.kind ≡ old.kind
  pub shown : (p : Point) (x : ℕ) → holds visible p ≡ true → after look base batch (before_shift p origin) ≡ Some x → pixel_of new p ≡ x
  pub untouched : (p : Point) → holds visible p ≡ true → touches batch (before_shift p origin) ≡ false → pixel_of new p ≡ pixel_of old p
  pub others : (p : Point) → IsOn old.size p → holds visible p ≡ false → pixel_of new p ≡ pixel_of old p
