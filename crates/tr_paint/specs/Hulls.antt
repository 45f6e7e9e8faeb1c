-- Rectangles that contain points.
use Rattle.std.specs.Prelude.{◌≡◌, Bool, true}
use Rattle.tr_base.specs.declared.Point.{Point}
use Rattle.tr_base.specs.Rects.{Edges, has_point}

-- the rectangle has all of these points
abbrev pub HasAll : Edges → (Point → Bool) → Type 0
HasAll e test = (q : Point) → test q ≡ true → has_point e q ≡ true
