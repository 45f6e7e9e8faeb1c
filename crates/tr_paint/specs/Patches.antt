-- Patches: batches that lead from one picture of a window to another, even if only a part of the first is known.
use Rattle.std.specs.Prelude.{◌≡◌, ℕ, true, List, IfSome}
use Rattle.tr_base.specs.declared.Point.{Point}
use Rattle.tr_base.specs.declared.Size.{Size}
use Rattle.tr_base.specs.Rects.{has_point, whole_of}
use Rattle.tr_paint.specs.declared.paints.Paint.{Paint}
use Rattle.tr_paint.specs.Traces.{Look, Base, after}

-- the visible points of a base lie in the window
abbrev pub LiesIn : Size → Base → Type 0
LiesIn size base = (q : Point) → base.visible q ≡ true → has_point (whole_of size) q ≡ true

-- each visible point is unknown or has its colour in the picture
abbrev pub Shows : (Point → ℕ) → Base → Type 0
Shows picture base = (q : Point) → base.visible q ≡ true → IfSome (base.known q) (λ x. x ≡ picture q)

-- over any base in the window that shows the old picture, each visible point is unknown after the batch or has its colour in the new one
abbrev pub IsPatch : Look → Size → List Paint → (Point → ℕ) → (Point → ℕ) → Type 0
IsPatch look size batch old new =
    (base : Base) → LiesIn size base → Shows old base →
    (q : Point) → base.visible q ≡ true → IfSome (after look base batch q) (λ x. x ≡ new q)
