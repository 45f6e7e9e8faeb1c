-- The points of a region in one row, and in rows with the same points.
use Rattle.std.specs.Prelude.{◌≡◌, ℕ, ℤ, pos, ◌≤◌, ◌↔◌, ◌≤ℤ◌, ◌<ℤ◌, Bool, ◌&&◌, List}
use Rattle.tr_base.specs.declared.Point.{Point}
use Rattle.tr_base.specs.Rects.{Edges, between}
use Rattle.tr_region.specs.Points.{holds}
use Rattle.tr_region.specs.Bands.{in_spans, spans_of}

-- in row y the region holds the points in the columns of these rectangles, and no others
abbrev pub HoldsRow : List Edges → List Edges → ℤ → Type 0
HoldsRow region row y = (p : Point) → p.v ≡ y → holds region p ≡ in_spans (spans_of row) p.h

-- the point lies in one of the rows `north <= v < south`, and in a column of one of the rectangles
abbrev pub in_band : ℕ → ℕ → List Edges → Point → Bool
in_band north south row p = between (pos north) (pos south) p.v && in_spans (spans_of row) p.h

-- Row n is the one from north to south, both included, that is nearest to v: a row of `north <= y < south` is at n or
-- south of it exactly if it is at v or south of it.
pub record IsNearest (v : ℤ) (north south n : ℕ) : Type 0 where
  pub from : north ≤ n
  pub to : n ≤ south
  pub same : (y : ℤ) → pos north ≤ℤ y → y <ℤ pos south → (v ≤ℤ y ↔ pos n ≤ℤ y)
