-- Paintings: batches that paint a part of a picture, whatever was there before.
use Rattle.std.specs.Prelude.{◌≡◌, ℕ, true, List, Some}
use Rattle.tr_base.specs.declared.Point.{Point}
use Rattle.tr_base.specs.Rects.{Edges, has_point}
use Rattle.tr_paint.specs.declared.paints.Paint.{Paint}
use Rattle.tr_paint.specs.Traces.{Look, Base, after}
use Rattle.tr_paint.specs.Batches.{touches}

-- over any base, each visible point of the part has its colour in the picture after the batch,
-- and no command's area has a point outside the part
pub record IsPainting (look : Look) (part : Edges) (batch : List Paint) (picture : Point → ℕ) : Type 0 where
  pub shows : (base : Base) (q : Point) → base.visible q ≡ true → has_point part q ≡ true → after look base batch q ≡ Some (picture q)
  pub within : (q : Point) → touches batch q ≡ true → has_point part q ≡ true
