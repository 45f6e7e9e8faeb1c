-- The order of the points of rectangles in one list: rectangle by rectangle, and row by row in each.
use Rattle.std.specs.Prelude.{ℕ, ◌+◌, ◌*◌, ◌-ℤ◌, if◌then◌else◌, List, [], ◌∷◌, unsigned_abs}
use Rattle.tr_base.specs.declared.Point.{Point}
use Rattle.tr_base.specs.Rects.{Edges, sides_of}
use Rattle.tr_region.specs.Points.{holds}
use Rattle.tr_region.specs.Areas.{area_of}

-- the index of a point among those of its rectangle, row by row
abbrev pub place_within : Edges → Point → ℕ
place_within r p = unsigned_abs (p.v -ℤ r.north) * (sides_of r).0 + unsigned_abs (p.h -ℤ r.west)

-- the index of a point among those of rectangles, one rectangle after another; no two rectangles of a region have a common point
abbrev pub place_in : List Edges → Point → ℕ
place_in [] p = 0
place_in (r ∷ rs) p = if holds rs p then area_of r + place_in rs p else place_within r p
