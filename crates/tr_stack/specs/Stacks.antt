-- The shapes of the nodes whose children lie over one another or on pages, and the places of the children.
use Rattle.std.specs.Prelude.{ℕ, ◌*◌, ◌/◌, ◌%◌, pos, List, [], ◌∷◌, true, false, map, ◌==◌, if◌then◌else◌}
use Rattle.tr_base.specs.declared.points.Point.{Point}
use Rattle.tr_base.specs.declared.shapes.Shapes.{Shapes}
use Rattle.tr_base.specs.Rects.{Edges, empty_rect, sides_of}
use Rattle.tr_base.specs.Shapes.{Lengths}
use Rattle.tr_base.specs.Layouts.{stopped, maxima_of, along, placed, places_by, preferred_place}

-- children that lie over one another want the greatest lengths of all
abbrev pub max_shape : List Shapes → Shapes
max_shape cs = record { across = maxima_of (map (along false) cs); down = maxima_of (map (along true) cs) }

-- lengths, multiplied by a number
abbrev pub repeated : ℕ → Lengths → Lengths
repeated n l = record { lo = stopped (n * l.lo); pref = stopped (n * l.pref); hi = stopped (n * l.hi) }

-- a page has `per` strips of one height, one above the other
abbrev pub page_shape : ℕ → List Shapes → Shapes
page_shape per cs = record { across = (max_shape cs).across; down = repeated per (max_shape cs).down }

-- each child of a Z has its preferred size, and its corner is the node's, moved by the child's own offset
abbrev pub z_places : Edges → List Point → List Shapes → List Edges
z_places e [] cs = []
z_places e (at ∷ ats) [] = []
z_places e (at ∷ ats) (c ∷ cs) = preferred_place e at c ∷ z_places e ats cs

-- the child that a T shows has the whole rectangle, and all others are empty
abbrev pub t_place : Edges → ℕ → ℕ → Edges
t_place e shown k = if k == shown then e else empty_rect

-- the rectangles of the children of a T
abbrev pub t_places : Edges → ℕ → ℕ → List Edges
t_places e shown count = places_by (t_place e shown) count

-- a strip has the node's whole width, and an equal part of its height, rounded down
abbrev pub strip_size : Edges → ℕ → ℕ × ℕ
strip_size e per = ((sides_of e).0, (sides_of e).1 / per)

-- the k-th strip from the north, counted from 0
abbrev pub page_strip : Edges → ℕ → ℕ → Edges
page_strip e per k = placed e (pos 0) (pos (k * (strip_size e per).1)) (strip_size e per)

-- a page has the next `per` children, each in its strip; the children of other pages are empty
abbrev pub page_place : Edges → ℕ → ℕ → ℕ → Edges
page_place e per page k = if k / per == page then page_strip e per (k % per) else empty_rect

-- the rectangles of the children of a Page
abbrev pub page_places : Edges → ℕ → ℕ → ℕ → List Edges
page_places e per page count = places_by (page_place e per page) count
