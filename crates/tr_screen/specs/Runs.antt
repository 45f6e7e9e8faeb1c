-- Points side by side in a row of a screen, and the changes from one picture to the next.
use Rattle.std.specs.Prelude.{◌≡◌, ℕ, ◌+◌, ◌*◌, pos, unsigned_abs, ◌+ℤ◌, ◌-ℤ◌, ◌≤ℤ◌, ◌<ℤ◌, Bool, ◌&&◌, IsTrue, if◌then◌else◌}
use Rattle.std.specs.Ordering.{int_eq}
use Rattle.tr_base.specs.declared.points.Point.{Point}
use Rattle.tr_base.specs.declared.sizes.Size.{Size}
use Rattle.tr_base.specs.Rects.{between, has_point, whole_of}
use Rattle.tr_screen.specs.declared.runs.Run.{Run}
use Rattle.tr_screen.specs.Pictures.{Picture, pixel_of}

-- the run holds the point
abbrev pub in_run : Run → Point → Bool
in_run r p = int_eq p.v r.v && between r.west r.east p.h

-- the point lies in one of the rows from north on and before south
abbrev pub in_rows : ℕ → ℕ → Point → Bool
in_rows north south p = between (pos north) (pos south) p.v

-- the run that a move of delta brings to r
abbrev pub run_before : Run → Point → Run
run_before r delta = record { v = r.v -ℤ delta.v; west = r.west -ℤ delta.h; east = r.east -ℤ delta.h }

-- the first points of row v
abbrev pub row_start : ℕ → ℕ → Run
row_start v wide = record { v = pos v; west = pos 0; east = pos wide }

-- the number of points of the run
abbrev pub width_of : Run → ℕ
width_of r = unsigned_abs (r.east -ℤ r.west)

-- the place of a point among those of its run
abbrev pub column_in : Run → Point → ℕ
column_in r p = unsigned_abs (p.h -ℤ r.west)

-- a point of a run, from its place there
abbrev pub point_in : Run → ℕ → Point
point_in r k = record { h = r.west +ℤ pos k; v = r.v }

-- the run holds points, and all of them are on the screen
pub record IsRun (size : Size) (r : Run) : Type 0 where
  pub north : pos 0 ≤ℤ r.v
  pub south : r.v <ℤ pos size.high
  pub west : pos 0 ≤ℤ r.west
  pub some : r.west <ℤ r.east
  pub east : r.east ≤ℤ pos size.wide

-- the point is on the screen
abbrev pub IsOn : Size → Point → Type 0
IsOn size p = IsTrue (has_point (whole_of size) p)

-- from one picture to the next, the points that pass the test get the pixels of f, and all others keep theirs
pub record Repaints (test : Point → Bool) (f : Point → ℕ) (old new : Picture) : Type 0 where
  pub size : new.size ≡ old.size
  pub kind : new.kind ≡ old.kind
  pub points : (p : Point) → IsOn old.size p → pixel_of new p ≡ (if test p then f p else pixel_of old p)

-- the place of a point among the pixels of a screen, row by row
abbrev pub pixel_index : Size → Point → ℕ
pixel_index size p = unsigned_abs p.v * size.wide + unsigned_abs p.h

-- the place of the run's first point
abbrev pub start_of : Size → Run → ℕ
start_of size r = pixel_index size (record { h = r.west; v = r.v })
