-- The shape of a node whose children lie side by side, and the places of the children.
use Rattle.std.specs.Prelude.{ℕ, ◌+◌, ◌-◌, min, pos, Bool, not, List, ◌++◌, map, take, length, get_or, sum, sum_by}
use Rattle.std.specs.List.{range_with_len}
use Rattle.tr_base.specs.declared.shapes.Shapes.{Shapes}
use Rattle.tr_base.specs.Rects.{Edges, sides_of}
use Rattle.tr_base.specs.Shapes.{Lengths}
use Rattle.tr_base.specs.Layouts.{sums_of, maxima_of, along, shapes_of, turned, placed, places_by}

-- along the node the children's lengths add up, and across it the greatest one counts
abbrev pub hv_shape : Bool → List Shapes → Shapes
hv_shape vertical cs =
    shapes_of vertical (sums_of (map (along vertical) cs)) (maxima_of (map (along (not vertical)) cs))

-- the wishes in order: each child's lo, then the rest of each one's pref, then the rest of each one's hi
abbrev pub wishes : List Lengths → List ℕ
wishes cs = map (λ c. c.lo) cs ++ map (λ c. c.pref - c.lo) cs ++ map (λ c. c.hi - c.pref) cs

-- a wish gets all that it asks for, or all the room that the wishes before it leave
unfoldable pub granted : ℕ → List ℕ → ℕ → ℕ
granted room ws i = min (get_or ws i 0) (room - sum (take i ws))

-- a child's length is the sum of the lengths granted to its three wishes
abbrev pub length_of : ℕ → List Lengths → ℕ → ℕ
length_of room cs k =
    granted room (wishes cs) k + granted room (wishes cs) (length cs + k)
    + granted room (wishes cs) (length cs + length cs + k)

-- a child begins after all children before it
abbrev pub child_start : ℕ → List Lengths → ℕ → ℕ
child_start room cs k = sum_by (length_of room cs) (range_with_len 0 k)

-- the k-th child of an H lies east of the children before it, and has the node's whole height
abbrev pub place_across : Edges → List Lengths → ℕ → Edges
place_across e cs k =
    placed e (pos (child_start (sides_of e).0 cs k)) (pos 0) (length_of (sides_of e).0 cs k, (sides_of e).1)

-- the k-th child of an H or a V: a V is an H with across and down exchanged
abbrev pub place_of : Bool → Edges → List Shapes → ℕ → Edges
place_of vertical e cs k = turned vertical (place_across (turned vertical e) (map (along vertical) cs) k)

-- the rectangles of the children of an H or a V
abbrev pub places : Bool → Edges → List Shapes → List Edges
places vertical e cs = places_by (place_of vertical e cs) (length cs)
