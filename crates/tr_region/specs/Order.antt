-- Private contracts alone cite this file.
-- The places of rectangles and points in a canonical list.
use Rattle.std.specs.Prelude.{Bool, int_le, ◌&&◌, ◌||◌}
use Rattle.tr_base.specs.declared.Point.{Point}
use Rattle.tr_base.specs.Rects.{Edges}

-- the rectangle lies north of the point's row, or it lies west of the point and begins in its row or north of it
abbrev pub lies_before : Edges → Point → Bool
lies_before r p = int_le r.south p.v || (int_le r.north p.v && int_le r.east p.h)
