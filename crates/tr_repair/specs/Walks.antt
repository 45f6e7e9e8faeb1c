-- Private contracts alone cite this file.
-- The points that a walk over the rows of a region has met.
use Rattle.std.specs.Prelude.{ℕ, pos, Bool, ◌&&◌, List}
use Rattle.std.specs.Ordering.{int_eq}
use Rattle.tr_base.specs.declared.points.Point.{Point}
use Rattle.tr_base.specs.Rects.{Edges}
use Rattle.tr_region.specs.Bands.{in_spans, spans_of}
use Rattle.tr_screen.specs.declared.Run.{Run}
use Rattle.tr_screen.specs.Runs.{in_rows}

-- the point lies in a column of one of the rectangles
abbrev pub in_columns : List Edges → Point → Bool
in_columns rects p = in_spans (spans_of rects) p.h

-- the point passes the test, and lies in one of the rows from north on and before south
abbrev pub in_part : ℕ → ℕ → (Point → Bool) → Point → Bool
in_part north south test p = in_rows north south p && test p

-- the point lies in row v, in a column of one of the rectangles
abbrev pub in_row : ℕ → List Edges → Point → Bool
in_row v rects p = int_eq p.v (pos v) && in_columns rects p

-- a rectangle's columns in row v
abbrev pub run_of : ℕ → Edges → Run
run_of v r = record { v = pos v; west = r.west; east = r.east }
