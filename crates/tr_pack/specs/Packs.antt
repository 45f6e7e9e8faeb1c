-- The shape of a node that packs its children in rows, and the places of the children.
use Rattle.std.specs.Prelude.{ℕ, ◌+◌, ◌*◌, min, pos, Bool, not, List, [], ◌∷◌, ◌++◌, map, length, sum_by}
use Rattle.tr_base.specs.declared.shapes.Shapes.{Shapes}
use Rattle.tr_base.specs.Rects.{Edges, meet_of, sides_of}
use Rattle.tr_base.specs.Shapes.{Lengths}
use Rattle.tr_base.specs.Layouts.{longest, stopped, no_lengths, greatest_by, maxima_of, along, shapes_of, turned, placed}
use Rattle.tr_pack.specs.Cuts.{Extent, extents, cut}

-- along the rows the children's greatest lo counts, and the preferred length is that of one row, without a limit
abbrev pub lengths_along : ℕ → List Lengths → Lengths
lengths_along gap [] = no_lengths
lengths_along gap (c ∷ cs) = record {
  lo = (maxima_of (c ∷ cs)).lo;
  pref = stopped (sum_by (λ x. x.pref) (c ∷ cs) + gap * length cs);
  hi = longest;
}

-- across the rows the children's greatest lo and greatest pref count, without a limit
abbrev pub lengths_beside : List Lengths → Lengths
lengths_beside [] = no_lengths
lengths_beside (c ∷ cs) = record {
  lo = (maxima_of (c ∷ cs)).lo;
  pref = (maxima_of (c ∷ cs)).pref;
  hi = longest;
}

-- the shape of a packing node, whose rows go across or down
abbrev pub pack_shape : Bool → ℕ → List Shapes → Shapes
pack_shape down gap cs =
    shapes_of down (lengths_along gap (map (along down) cs)) (lengths_beside (map (along (not down)) cs))

-- a row is as deep as its deepest child
abbrev pub depth_of : List Extent → ℕ
depth_of row = greatest_by (λ x. x.deep) row

-- a row begins after the rows before it and a gap after each, or at the node's far side if that is nearer
abbrev pub start_of_row : ℕ → ℕ → List (List Extent) → ℕ
start_of_row gap side rows = min (sum_by (λ row. depth_of row + gap) rows) side

-- a child begins after the children before it in its row, with a gap after each
abbrev pub start_in_row : ℕ → List Extent → ℕ
start_in_row gap row = sum_by (λ x. x.long + gap) row

-- the place of a child, from the rows before its own and the children before it in its row
abbrev pub PlaceOf : Type 0
PlaceOf = List (List Extent) → List Extent → Extent → Edges

-- a child has its length and its depth, and is cut by the node
abbrev pub place_in_row_across : Edges → ℕ → PlaceOf
place_in_row_across e gap rows row x =
    let start = start_of_row gap (sides_of e).1 rows in
    meet_of e (placed e (pos (start_in_row gap row)) (pos start) (x.long, x.deep))

-- the same; if the rows go down, across and down are exchanged
abbrev pub place_in_row : Bool → Edges → ℕ → PlaceOf
place_in_row down e gap rows row x = turned down (place_in_row_across (turned down e) gap rows row x)

-- the places of the children of a row, from the rows before it and the children already placed
abbrev pub row_places : PlaceOf → List (List Extent) → List Extent → List Extent → List Edges
row_places place rows row [] = []
row_places place rows row (x ∷ xs) = place rows row x ∷ row_places place rows (row ++ x ∷ []) xs

-- the places of the children of all rows, from the rows already placed
abbrev pub all_places : PlaceOf → List (List Extent) → List (List Extent) → List Edges
all_places place passed [] = []
all_places place passed (row ∷ rows) =
    row_places place passed [] row ++ all_places place (passed ++ row ∷ []) rows

-- the room in a row
abbrev pub room_of : Bool → Edges → ℕ
room_of down e = (sides_of (turned down e)).0

-- the rectangles of children that are cut into these rows
abbrev pub places_in : Bool → ℕ → Edges → List (List Extent) → List Edges
places_in down gap e rows = all_places (place_in_row down e gap) [] rows

-- the rectangles of the children of a packing node
abbrev pub pack_places : Bool → ℕ → Edges → List Shapes → List Edges
pack_places down gap e cs =
    places_in down gap e (cut (room_of down e) gap (extents down (room_of down e) cs))
