-- The least rectangle that contains the rectangles of a list.
use Rattle.std.specs.Prelude.{List, [], ◌∷◌}
use Rattle.std.specs.Int.{int_min, int_max}
use Rattle.tr_base.specs.Rects.{Edges, empty_rect}

-- the least rectangle that contains two rectangles with points
abbrev pub hull_of : Edges → Edges → Edges
hull_of a b =
    record {
      west = int_min a.west b.west;
      east = int_max a.east b.east;
      north = int_min a.north b.north;
      south = int_max a.south b.south;
    }

-- the least rectangle that contains those of a list, if each of them holds points; the empty one for no rectangles
abbrev pub extents_of : List Edges → Edges
extents_of [] = empty_rect
extents_of (r ∷ []) = r
extents_of (r ∷ s ∷ rects) = hull_of r (extents_of (s ∷ rects))
