-- The points of a screen that can be moved, and the order of moving them.
use Rattle.std.specs.Prelude.{◌≡◌, ℤ, pos, ◌≤ℤ◌, ◌<ℤ◌, ◌⊎◌, Bool, true, List}
use Rattle.tr_base.specs.declared.points.Point.{Point}
use Rattle.tr_base.specs.declared.sizes.Size.{Size}
use Rattle.tr_base.specs.Rects.{Edges, before_shift}
use Rattle.tr_region.specs.Bands.{in_spans, spans_of}
use Rattle.tr_screen.specs.Runs.{IsOn}

-- each point that passes the test, and the point that lies delta before it, is on the screen
abbrev pub MovesOn : Size → Point → (Point → Bool) → Type 0
MovesOn size delta test = (p : Point) → test p ≡ true → IsOn size p × IsOn size (before_shift p delta)

-- delta leads to the north, or along a row to the west: each pixel is read before it is overwritten, if rows are moved
-- from north to south, and a row from west to east
abbrev pub IsForth : Point → Type 0
IsForth delta = (delta.v <ℤ pos 0) ⊎ ((delta.v ≡ pos 0) × (delta.h ≤ℤ pos 0))

-- delta leads to the south, or along a row to the east
abbrev pub IsBack : Point → Type 0
IsBack delta = (pos 0 <ℤ delta.v) ⊎ ((delta.v ≡ pos 0) × (pos 0 ≤ℤ delta.h))

-- the rectangles have each column of the screen
abbrev pub HasAllColumns : Size → List Edges → Type 0
HasAllColumns size rects = (x : ℤ) → pos 0 ≤ℤ x → x <ℤ pos size.wide → in_spans (spans_of rects) x ≡ true
