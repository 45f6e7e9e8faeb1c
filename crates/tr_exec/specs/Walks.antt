-- The points that a walk paints.
use Rattle.std.specs.Prelude.{◌≡◌, ℕ, ℤ, pos, ◌≤ℤ◌, ◌<ℤ◌, Bool, true, ◌&&◌, List, All}
use Rattle.std.specs.Int.{int_min, int_max}
use Rattle.tr_base.specs.declared.Point.{Point}
use Rattle.tr_base.specs.declared.Size.{Size}
use Rattle.tr_base.specs.Rects.{Edges, has_point}
use Rattle.tr_region.specs.Bands.{AreApart, in_spans, spans_of}
use Rattle.tr_screen.specs.Runs.{IsOn}

-- the point passes the test, and lies in the area
abbrev pub in_area : (Point → Bool) → Edges → Point → Bool
in_area test area p = test p && has_point area p

-- each point that passes the test is on the screen
abbrev pub AreOn : Size → (Point → Bool) → Type 0
AreOn size test = (p : Point) → test p ≡ true → IsOn size p

-- the area has points in row v
abbrev pub HasRow : Edges → ℕ → Type 0
HasRow area v = (area.north ≤ℤ pos v) × (pos v <ℤ area.south) × (area.west <ℤ area.east)

-- the rectangle has all columns of a screen of this width
abbrev pub HasColumns : ℕ → Edges → Type 0
HasColumns wide r = (r.west ≤ℤ pos 0) × (pos wide ≤ℤ r.east)

-- the rectangle, cut to the columns of the area
abbrev pub in_columns_of : Edges → Edges → Edges
in_columns_of area r = record { west = int_max r.west area.west; east = int_min r.east area.east; north = r.north; south = r.south }

-- the rectangle has columns of the area
abbrev pub Meets : Edges → Edges → Type 0
Meets area r = (area.west <ℤ r.east) × (r.west <ℤ area.east)

-- within the area's columns, a row of rectangles has the columns of a band's rectangles; each rectangle has columns of the area
pub record IsRowOf (area : Edges) (rects row : List Edges) : Type 0 where
  pub columns : (x : ℤ) → area.west ≤ℤ x → x <ℤ area.east → in_spans (spans_of row) x ≡ in_spans (spans_of rects) x
  pub apart : AreApart (spans_of row)
  pub meet : All (Meets area) row
