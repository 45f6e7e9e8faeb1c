-- Private contracts alone cite this file.
-- The order of a region's rectangles, and those of one row.
use Rattle.std.specs.Prelude.{◌≡◌, ℕ, ◌≤◌, ℤ, ◌⊎◌, ◌≤ℤ◌, ◌<ℤ◌, false, ◌&&◌, List, [], ◌∷◌, length, slice_index_or}
use Rattle.std.specs.List.{AllByRecursion, AllWithin}
use Rattle.tr_base.specs.declared.Point.{Point}
use Rattle.tr_base.specs.Rects.{Edges, InReach}
use Rattle.tr_region.specs.declared.rows.Band.{Band}
use Rattle.tr_region.specs.Points.{holds}
use Rattle.tr_region.specs.Rows.{HoldsRow, IsNearest}

-- the rectangle holds points
abbrev pub HoldsPoints : Edges → Type 0
HoldsPoints r = (r.west <ℤ r.east) × (r.north <ℤ r.south)

-- a rectangle lies north of another, or west of it in the same rows
abbrev pub ComesBefore : Edges → Edges → Type 0
ComesBefore a b = (a.south ≤ℤ b.north) ⊎ ((a.north ≡ b.north) × (a.south ≡ b.south) × (a.east <ℤ b.west))

-- each rectangle holds points, and comes before all that follow it
abbrev pub AreInOrder : List Edges → Type 0
AreInOrder [] = Unit {0}
AreInOrder (r ∷ rects) = HoldsPoints r × AllByRecursion (ComesBefore r) rects × AreInOrder rects

-- the rectangles from start on and before end have row v, those before them lie north of it, and those after them south
pub record IsRowPart (v : ℤ) (rects : List Edges) (start end : ℕ) : Type 0 where
  pub order : start ≤ end
  pub fits : end ≤ length rects
  pub before : AllWithin (λ r. r.south ≤ℤ v) rects 0 start
  pub within : AllWithin (λ r. (r.north ≤ℤ v) × (v <ℤ r.south)) rects start end
  pub after : AllWithin (λ r. v <ℤ r.north) rects end (length rects)

-- the band has the rows of the rectangle that lie from low on and before high,
-- and in the rows of the rectangle it holds the points of the region
pub record IsBandOf (r : Edges) (region : List Edges) (low high : ℕ) (b : Band) : Type 0 where
  pub north : IsNearest r.north low high b.north
  pub south : IsNearest r.south low high b.south
  pub rows : (y : ℤ) → r.north ≤ℤ y → y <ℤ r.south → HoldsRow region b.rects.now y

-- north of a row two lists have no point in common, and at the row the first rectangle of one of them has ended
pub record AreApartUntil (row : ℤ) (first second : List Edges) : Type 0 where
  pub reach : InReach row
  pub apart : (p : Point) → p.v <ℤ row → holds first p && holds second p ≡ false
  pub ended : (d : Edges) → ((slice_index_or first 0 d).south ≤ℤ row) ⊎ ((slice_index_or second 0 d).south ≤ℤ row)
