-- Where a node has its children: near it, and nowhere where it is empty.
use Rattle.std.proofs.Common.{◌≡◌, ℕ, ◌+◌, ◌*◌, ◌/◌, ◌%◌, ◌<◌, ◌≤◌, ℤ, pos, neg_ℤ, ◌+ℤ◌, ◌-ℤ◌, ◌≤ℤ◌, ◌<ℤ◌, Bool, true, false, ◌&&◌, ltb, cond, inl, inr, List, [], ◌∷◌, map, length, get_or, All, int_lt, unsigned_abs, refl, sym, ap, subst, arith}
use Rattle.std.specs.Int.{int_min, int_max}
use Rattle.std.proofs.lemmas.Int.{ints}
use Rattle.std.proofs.lemmas.Bool.Decides.{nat_tests}
use Rattle.std.proofs.lemmas.List.Elements.{All-nil, All-cons, All-map}
use Rattle.std.proofs.Math.ListN.{get_or-eq_default}
use Rattle.tr_base.specs.declared.NodeId.{NodeId}
use Rattle.tr_base.specs.declared.Point.{Point}
use Rattle.tr_base.specs.declared.Shapes.{Shapes}
use Rattle.tr_base.specs.Rects.{Edges, IsRect, InReach, empty_rect, rect_of, sides_of, whole_of, IsScreenSize}
use Rattle.tr_base.specs.declared.Size.{Size}
use Rattle.tr_base.specs.Shapes.{Lengths}
use Rattle.tr_base.specs.Layouts.{longest, farthest, turned, placed, places_by, preferred_place, has_points, along, IsDomain, IsPartOf, IsNear}
use Rattle.tr_base.proofs.LayoutLemmas.{by_rect_of, empty_is_rect, near_part, turned-rect_of, all_places, part_itself}
use Rattle.tr_base.proofs.RectFacts.{rect_of-full}
use Rattle.tr_hv.specs.Places as hv
use Rattle.tr_hv.specs.Places.{place_of, child_start, length_of}
use Rattle.tr_hv.proofs.HvLemmas.{place_part, place_empty}
use Rattle.tr_stack.specs.Stacks.{t_place, t_places, page_place, page_places, z_places}
use Rattle.tr_stack.proofs.StackLemmas.{by_t_place, t_empty, z_empty, by_page_place, page_part, page_empty}
use Rattle.tr_filter.specs.Filters.{border_place}
use Rattle.tr_filter.proofs.FilterLemmas.{border_part, border_empty}
use Rattle.tr_pack.specs.Packs as packs
use Rattle.tr_pack.specs.Packs.{pack_places, room_of, start_in_row, start_of_row}
use Rattle.tr_pack.specs.Cuts.{cut, extents}
use Rattle.tr_pack.proofs.ApartLemmas.{all_of_places, pack_part, pack_empty}
use Rattle.tr_forest.specs.declared.NodeKind.{NodeKind}
use Rattle.tr_forest.specs.declared.NodeKind.TheVariants as kinds
use Rattle.tr_forest.specs.Nodes.{IsNodeKind}
use Rattle.tr_tree.specs.Places.{places_of, shown_index}
use Rattle.tr_tree.specs.Laying.{IsRectangle, StandsInNode, IsAt}

-- ---- rectangles of their own edges

pub own_empty : IsRectangle empty_rect
own_empty = record { edges = refl }

pub own_rect_of : (w e n s : ℤ) → IsRectangle (rect_of w e n s)
own_rect_of w e n s = by_test (int_lt w e && int_lt n s) refl
  where
    by_test : (b : Bool) → int_lt w e && int_lt n s ≡ b → IsRectangle (cond b (record { west = w; east = e; north = n; south = s }) empty_rect)
    by_test true h = record { edges = ap (λ t. cond t (let r : Edges = record { west = w; east = e; north = n; south = s } in r) empty_rect) h }
    by_test false h = own_empty

own_turned : (down : Bool) (w e n s : ℤ) → IsRectangle (turned down (rect_of w e n s))
own_turned true w e n s = subst IsRectangle (sym (turned-rect_of w e n s)) (own_rect_of n s w e)
own_turned false w e n s = own_rect_of w e n s

-- a rectangle of its own edges is one, where it is a domain, or a part of one
pub own_is_rect : (e : Edges) → IsRectangle e → IsDomain e → IsRect e
own_is_rect e own d = record {
  edges = own.edges;
  reach = record {
    west = low_reach e.west e.east d.west d.east d.wide;
    east = high_reach e.west e.east d.west d.east d.wide;
    north = low_reach e.north e.south d.north d.south d.high;
    south = high_reach e.north e.south d.north d.south d.high;
  };
}
  where
    low_reach : (low high : ℤ) → neg_ℤ (pos 65536) ≤ℤ low → high ≤ℤ pos 65536 → unsigned_abs (high -ℤ low) ≤ longest → InReach low
    low_reach low high h k m = record { low = grind (arith, ints); high = grind (arith, ints) }

    high_reach : (low high : ℤ) → neg_ℤ (pos 65536) ≤ℤ low → high ≤ℤ pos 65536 → unsigned_abs (high -ℤ low) ≤ longest → InReach high
    high_reach low high h k m = record { low = grind (arith, ints); high = grind (arith, ints) }

part_is_rect : (c e : Edges) → IsRectangle c → IsDomain e → IsPartOf c e → IsRect c
part_is_rect c e own d (inl h) = subst IsRect (sym h) empty_is_rect
part_is_rect c e own d (inr h) = by_test (int_lt c.west c.east && int_lt c.north c.south) refl own.edges
  where
    by_test : (b : Bool) → int_lt c.west c.east && int_lt c.north c.south ≡ b →
        cond b (record { west = c.west; east = c.east; north = c.north; south = c.south }) empty_rect ≡ c → IsRect c
    by_test true k is =
        let across : c.west ≤ℤ c.east = grind (arith, ints) in
        let down : c.north ≤ℤ c.south = grind (arith, ints) in
        record {
          edges = own.edges;
          reach = record {
            west = record { low = omega (arith, ints, h.west, d.west); high = omega (arith, ints, h.east, d.east, across) };
            east = record { low = omega (arith, ints, h.west, d.west, across); high = omega (arith, ints, h.east, d.east) };
            north = record { low = omega (arith, ints, h.north, d.north); high = omega (arith, ints, h.south, d.south, down) };
            south = record { low = omega (arith, ints, h.north, d.north, down); high = omega (arith, ints, h.south, d.south) };
          };
        }
    by_test false k is = subst IsRect is empty_is_rect

-- ---- where a child is

pub fits_empty : (e : Edges) → StandsInNode e empty_rect
fits_empty e = record { own = own_empty; near = inl refl }

fits_part : (e c : Edges) → IsDomain e → IsRectangle c → IsPartOf c e → StandsInNode e c
fits_part e c d own part = record { own = own; near = near_part c e (part_is_rect c e own d part) d part }

fits_itself : (e : Edges) → IsRectangle e → IsDomain e → StandsInNode e e
fits_itself e own d = fits_part e e d own (part_itself e)

pub own_preferred : (e : Edges) (by : Point) (s : Shapes) → IsRectangle (preferred_place e by s)
own_preferred e by s = by_test (has_points e)
  where
    by_test : (b : Bool) → IsRectangle (cond b (placed e by.h by.v (s.across.pref, s.down.pref)) empty_rect)
    by_test true = own_rect_of (e.west +ℤ by.h) (e.west +ℤ by.h +ℤ pos s.across.pref) (e.north +ℤ by.v) (e.north +ℤ by.v +ℤ pos s.down.pref)
    by_test false = own_empty

-- the greatest offset of a child is less than the greatest length
pub fits_near : (e c : Edges) → IsRectangle c → IsNear farthest c e → StandsInNode e c
fits_near e c own (inl h) = record { own = own; near = inl h }
fits_near e c own (inr h) = record {
  own = own;
  near = inr (record {
    west = omega (arith, ints, h.west);
    east = omega (arith, ints, h.east);
    north = omega (arith, ints, h.north);
    south = omega (arith, ints, h.south);
    wide = h.wide;
    high = h.high;
  });
}

-- ---- the children of each kind of node
each_by : (e : Edges) (place : ℕ → Edges) (count : ℕ) → ((k : ℕ) → k < count → StandsInNode e (place k)) → All (StandsInNode e) (places_by place count)
each_by e place count each = all_places (StandsInNode e) place count (places_by place count) refl each

pub fits_side_by_side : (vertical : Bool) (e : Edges) (cs : List Shapes) → IsRectangle e → IsDomain e → All (StandsInNode e) (hv.places vertical e cs)
fits_side_by_side vertical e cs own d = each_by e (place_of vertical e cs) (length cs) (λ k lt.
    fits_part e (place_of vertical e cs k) d (own_place vertical k) (place_part vertical e cs k (own_is_rect e own d) lt))
  where
    own_place : (vertical : Bool) (k : ℕ) → IsRectangle (place_of vertical e cs k)
    own_place vertical k =
        let r : Edges = turned vertical e in
        let ls : List Lengths = map (along vertical) cs in
        let room : ℕ × ℕ = sides_of r in
        own_turned vertical (r.west +ℤ pos (child_start room.0 ls k)) (r.west +ℤ pos (child_start room.0 ls k) +ℤ pos (length_of room.0 ls k))
        (r.north +ℤ pos 0) (r.north +ℤ pos 0 +ℤ pos room.1)

pub fits_over : (e : Edges) (ats : List Point) (cs : List Shapes) → All (λ (c : Edges). IsNear farthest c e) (z_places e ats cs) →
    All (StandsInNode e) (z_places e ats cs)
fits_over e ats cs near = λ k d lt. fits_near e (get_or (z_places e ats cs) k d) (own_places ats cs k d lt) (near k d lt)
  where
    own_places : (ats : List Point) (cs : List Shapes) → All IsRectangle (z_places e ats cs)
    own_places [] cs = All-nil IsRectangle
    own_places (at ∷ ats) [] = All-nil IsRectangle
    own_places (at ∷ ats) (c ∷ cs) = All-cons IsRectangle (preferred_place e at c) (z_places e ats cs) (own_preferred e at c) (own_places ats cs)

pub fits_shown : (e : Edges) (shown count : ℕ) → IsRectangle e → IsDomain e → All (StandsInNode e) (t_places e shown count)
fits_shown e shown count own d = each_by e (t_place e shown) count (λ k lt. by_t_place (StandsInNode e) e shown k (fits_itself e own d) (fits_empty e))

pub fits_pages : (e : Edges) (per page count : ℕ) → 1 ≤ per → IsRectangle e → IsDomain e → All (StandsInNode e) (page_places e per page count)
fits_pages e per page count some own d = each_by e (page_place e per page) count (λ k lt.
    fits_part e (page_place e per page k) d (own_child k) (page_part e per page k (own_is_rect e own d) some))
  where
    own_child : (k : ℕ) → IsRectangle (page_place e per page k)
    own_child k =
        let i : ℕ = k % per in
        let high : ℕ = (sides_of e).1 / per in
        by_page_place IsRectangle e per page k
        (own_rect_of (e.west +ℤ pos 0) (e.west +ℤ pos 0 +ℤ pos (sides_of e).0) (e.north +ℤ pos (i * high)) (e.north +ℤ pos (i * high) +ℤ pos high)) own_empty

pub fits_border : (e : Edges) (width : ℕ) (cs : List Shapes) → IsDomain e → All (StandsInNode e) (map (λ s. border_place e width) cs)
fits_border e width cs d = All-map (StandsInNode e) (λ (s : Shapes). border_place e width) cs (λ k s lt. one)
  where
    one : StandsInNode e (border_place e width)
    one = fits_part e (border_place e width) d
        (own_rect_of (e.west +ℤ pos width) (e.east -ℤ pos width) (e.north +ℤ pos width) (e.south -ℤ pos width)) (border_part e width)

pub fits_rigid : (e : Edges) (cs : List Shapes) → IsRectangle e → IsDomain e → All (StandsInNode e) (map (λ s. e) cs)
fits_rigid e cs own d = All-map (StandsInNode e) (λ (s : Shapes). e) cs (λ k s lt. fits_itself e own d)

pub fits_moved : (e : Edges) (by : Point) (cs : List Shapes) → All (λ (c : Edges). IsNear farthest c e) (map (preferred_place e by) cs) →
    All (StandsInNode e) (map (preferred_place e by) cs)
fits_moved e by cs near = λ k d lt.
    fits_near e (get_or (map (preferred_place e by) cs) k d)
    (All-map IsRectangle (preferred_place e by) cs (λ i s le. own_preferred e by (get_or cs i s)) k d lt)
    (near k d lt)

pub fits_packed : (down : Bool) (gap : ℕ) (e : Edges) (cs : List Shapes) → IsDomain e → All (StandsInNode e) (pack_places down gap e cs)
fits_packed down gap e cs d = λ k r lt.
    fits_part e (get_or (pack_places down gap e cs) k r) d (own_places k r lt) (pack_part down gap e cs k r lt)
  where
    own_places : All IsRectangle (pack_places down gap e cs)
    own_places = all_of_places IsRectangle (packs.place_in_row down e gap) [] (cut (room_of down e) gap (extents down (room_of down e) cs)) (λ rs r x.
        let t : Edges = turned down e in
        let p : Edges = placed t (pos (start_in_row gap r)) (pos (start_of_row gap (sides_of t).1 rs)) (x.long, x.deep) in
        own_turned down (int_max t.west p.west) (int_min t.east p.east) (int_max t.north p.north) (int_min t.south p.south))

pub fits_none : (e : Edges) → All (StandsInNode e) []
fits_none e = All-nil (StandsInNode e)

-- ---- all children of an empty node are empty
none_by : (place : ℕ → Edges) (count : ℕ) → ((k : ℕ) → k < count → place k ≡ empty_rect) → All (λ (c : Edges). c ≡ empty_rect) (places_by place count)
none_by place count each = all_places (λ (c : Edges). c ≡ empty_rect) place count (places_by place count) refl each

pub all_empty : (kind : NodeKind) (cs : List NodeId) (ats : List Point) (shapes : List Shapes) → IsNodeKind kind →
    All (λ (c : Edges). c ≡ empty_rect) (places_of kind cs ats shapes empty_rect)
all_empty kinds.H cs ats shapes is = none_by (place_of false empty_rect shapes) (length shapes) (λ k lt. place_empty false empty_rect shapes k refl lt)
all_empty kinds.V cs ats shapes is = none_by (place_of true empty_rect shapes) (length shapes) (λ k lt. place_empty true empty_rect shapes k refl lt)
all_empty kinds.Z cs ats shapes is = z_empty empty_rect ats shapes refl
all_empty (kinds.T shown) cs ats shapes is =
    none_by (t_place empty_rect (shown_index shown cs)) (length cs) (λ k lt. t_empty empty_rect (shown_index shown cs) k refl)
all_empty (kinds.Page per page) cs ats shapes is =
    none_by (page_place empty_rect per page) (length cs) (λ k lt. page_empty empty_rect per page k is.low refl)
all_empty (kinds.Border width) cs ats shapes is =
    All-map (λ (c : Edges). c ≡ empty_rect) (λ (s : Shapes). border_place empty_rect width) shapes (λ k s lt. border_empty width)
all_empty (kinds.Rigid size) cs ats shapes is = All-map (λ (c : Edges). c ≡ empty_rect) (λ (s : Shapes). empty_rect) shapes (λ k s lt. refl)
all_empty (kinds.Translate by) cs ats shapes is =
    All-map (λ (c : Edges). c ≡ empty_rect) (preferred_place empty_rect by) shapes (λ k s lt. refl)
all_empty (kinds.Pack down gap) cs ats shapes is = pack_empty down gap empty_rect shapes refl
all_empty (kinds.Leaf leaf own) cs ats shapes is = All-nil (λ (c : Edges). c ≡ empty_rect)

-- what holds of each item of a list and of what stands beyond it
pub all_or : {X : Type 0} (P : X → Type 0) (xs : List X) (k : ℕ) (d : X) → All P xs → P d → P (get_or xs k d)
all_or P xs k d all none = by_test (ltb k (length xs)) refl
  where
    by_test : (b : Bool) → ltb k (length xs) ≡ b → P (get_or xs k d)
    by_test true h = all k d (grind (arith, nat_tests))
    by_test false h = let past : length xs ≤ k = grind (arith, nat_tests) in subst P (sym (get_or-eq_default xs d past)) none

-- ---- how far away

pub at_empty : (far : ℕ) → IsAt far empty_rect
at_empty far = record {
  own = own_empty;
  west = omega (arith, ints);
  east = omega (arith, ints);
  north = omega (arith, ints);
  south = omega (arith, ints);
  wide = omega arith;
  high = omega arith;
}

-- the root has the whole screen
pub root_at : (size : Size) → IsScreenSize size → IsAt 0 (whole_of size)
root_at size is = by_rect_of (IsAt 0) (pos 0) (pos size.wide) (pos 0) (pos size.high) (λ across down. record {
  own = full across down;
  west = omega (arith, ints);
  east = omega (arith, ints);
  north = omega (arith, ints);
  south = omega (arith, ints);
  wide = omega (arith, is.wide);
  high = omega (arith, is.high);
}) (at_empty 0)
  where
    full : pos 0 <ℤ pos size.wide → pos 0 <ℤ pos size.high → IsRectangle (record { west = pos 0; east = pos size.wide; north = pos 0; south = pos size.high })
    full across down = record { edges = rect_of-full (pos 0) (pos size.wide) (pos 0) (pos size.high) across down }

pub at_more : (far more : ℕ) (e : Edges) → far ≤ more → IsAt far e → IsAt more e
at_more far more e le h = record {
  own = h.own;
  west = omega (arith, ints, h.west);
  east = omega (arith, ints, h.east);
  north = omega (arith, ints, h.north);
  south = omega (arith, ints, h.south);
  wide = h.wide;
  high = h.high;
}

-- a child is at most one length further
pub at_child : (far : ℕ) (e c : Edges) → IsAt far e → StandsInNode e c → IsAt (far + 1) c
at_child far e c h fits = by_near fits.near
  where
    by_near : IsNear longest c e → IsAt (far + 1) c
    by_near (inl none) = subst (IsAt (far + 1)) (sym none) (at_empty (far + 1))
    by_near (inr near) = record {
      own = fits.own;
      west = omega (arith, ints, h.west, near.west);
      east = omega (arith, ints, h.east, near.east);
      north = omega (arith, ints, h.north, near.north);
      south = omega (arith, ints, h.south, near.south);
      wide = near.wide;
      high = near.high;
    }

-- 15 lengths away and a length more is within the range of domains
pub at_is_domain : (e : Edges) → IsAt 15 e → IsDomain e
at_is_domain e h = record {
  west = omega (arith, ints, h.west);
  east = far_edge e.west e.east h.east h.wide;
  north = omega (arith, ints, h.north);
  south = far_edge e.north e.south h.south h.high;
  wide = h.wide;
  high = h.high;
}
  where
    far_edge : (low high : ℤ) → low ≤ℤ pos (longest * 15) → unsigned_abs (high -ℤ low) ≤ longest → high ≤ℤ pos 65536
    far_edge low high h k = grind (arith, ints)
