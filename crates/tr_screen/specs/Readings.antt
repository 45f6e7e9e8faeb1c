-- The pixels at the points of rectangles, as one list.
use Rattle.std.specs.Prelude.{◌≡◌, ℕ, pos, ◌+ℤ◌, true, List, map, flat_map}
use Rattle.std.specs.List.{range_with_len}
use Rattle.tr_base.specs.declared.points.Point.{Point}
use Rattle.tr_base.specs.declared.sizes.Size.{Size}
use Rattle.tr_base.specs.Rects.{Edges, has_point, sides_of}
use Rattle.tr_screen.specs.declared.runs.Run.{Run}
use Rattle.tr_screen.specs.Runs.{IsOn, point_in, width_of}

-- each point of the rectangle is on a screen of this size
abbrev pub LiesOn : Size → Edges → Type 0
LiesOn size r = (p : Point) → has_point r p ≡ true → IsOn size p

-- row n of a rectangle, counted from its north
abbrev pub row_in : Edges → ℕ → Run
row_in r n = record { v = r.north +ℤ pos n; west = r.west; east = r.east }

-- the pixels of a run from west to east, from the pixel at each point
abbrev pub run_by : (Point → ℕ) → Run → List ℕ
run_by pixel run = map (λ k. pixel (point_in run k)) (range_with_len 0 (width_of run))

-- the pixels of a rectangle, row by row
abbrev pub rect_by : (Point → ℕ) → Edges → List ℕ
rect_by pixel r = flat_map (λ n. run_by pixel (row_in r n)) (range_with_len 0 (sides_of r).1)

-- the pixels of rectangles, one rectangle after another
abbrev pub rects_by : (Point → ℕ) → List Edges → List ℕ
rects_by pixel rects = flat_map (rect_by pixel) rects
