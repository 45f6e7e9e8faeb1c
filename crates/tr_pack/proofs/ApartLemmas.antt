-- Packed children are parts of their node, and no two share a point.
use Rattle.std.proofs.Common.{◌≡◌, ℕ, ◌+◌, ◌<◌, ◌≤◌, min, pos, ◌+ℤ◌, ◌<ℤ◌, ◌≤ℤ◌, ℤ, Bool, true, false, ◌&&◌, List, [], ◌∷◌, ◌++◌, map, length, get_or, refl, sym, ap, ◌∙◌, arith, length-append}
use Rattle.std.specs.Prelude.{All, AllPairs, sum_by, unsigned_abs, ◌-ℤ◌}
use Rattle.std.specs.Int.{int_min, int_max}
use Rattle.std.proofs.lemmas.Int.{ints}
use Rattle.std.proofs.lemmas.List.{map-append, get_or-map, length-map}
use Rattle.std.proofs.lemmas.List.Elements.{All-nil, All-cons, All-append, All-weaker}
use Rattle.std.proofs.lemmas.List.Sums.{sum_by_push}
use Rattle.std.proofs.lemmas.Bool.{and_parts}
use Rattle.tr_base.specs.declared.points.Point.{Point}
use Rattle.tr_base.specs.declared.shapes.Shapes.{Shapes}
use Rattle.tr_base.specs.Rects.{Edges, IsRect, has_point, between, empty_rect, meet_of, sides_of}
use Rattle.tr_base.specs.Layouts.{greatest_by, turned, placed, IsPartOf, ShareNoPoint}
use Rattle.tr_base.specs.Lists.{joined}
use Rattle.tr_base.proofs.RectLemmas.{has_point-rect_of, has_point-meet_of}
use Rattle.tr_base.proofs.LayoutLemmas.{ordered, turned_is_rect, turned_apart, turned-meet_of, part-meet_of, part_of_empty, all_pairs_cons, all_pairs_append}
use Rattle.tr_base.proofs.RectFacts.{between_parts}
use Rattle.tr_pack.specs.Cuts.{Extent, extents, cut}
use Rattle.tr_pack.specs.Packs.{PlaceOf, room_of, pack_places, depth_of, start_of_row, start_in_row, place_in_row_across, place_in_row, row_places, all_places}
use Rattle.tr_pack.proofs.PackLemmas.{length-extents}
use Rattle.tr_pack.proofs.CutLemmas.{cut_is_right}

-- ---- where the points of a rectangle lie, as seen from the corner of the node
record IsAfter (e : Edges) (left : ℕ) (r : Edges) : Type 0 where
  points : (p : Point) → has_point r p ≡ true → (e.west +ℤ pos left) ≤ℤ p.h

record IsBefore (e : Edges) (right : ℕ) (r : Edges) : Type 0 where
  points : (p : Point) → has_point r p ≡ true → p.h <ℤ (e.west +ℤ pos right)

record IsUnder (e : Edges) (top : ℕ) (r : Edges) : Type 0 where
  points : (p : Point) → has_point r p ≡ true → (e.north +ℤ pos top) ≤ℤ p.v

record IsOver (e : Edges) (bottom : ℕ) (r : Edges) : Type 0 where
  points : (p : Point) → has_point r p ≡ true → p.v <ℤ (e.north +ℤ pos bottom)

no_more_after : (e : Edges) (a b : ℕ) (r : Edges) → b ≤ a → IsAfter e a r → IsAfter e b r
no_more_after e a b r le h = record { points = λ p on. let at = h.points p on in omega (arith, ints, at) }

no_more_under : (e : Edges) (a b : ℕ) (r : Edges) → b ≤ a → IsUnder e a r → IsUnder e b r
no_more_under e a b r le h = record { points = λ p on. let at = h.points p on in omega (arith, ints, at) }

no_more_over : (e : Edges) (a b : ℕ) (r : Edges) → a ≤ b → IsOver e a r → IsOver e b r
no_more_over e a b r le h = record { points = λ p on. let at = h.points p on in omega (arith, ints, at) }

-- two rectangles of which no point can lie in both
none_shared : (a b : Edges) → ((p : Point) → has_point a p ≡ true → has_point b p ≡ true → ⊥) → ShareNoPoint a b
none_shared a b never = record { none = λ p. by_tests p (has_point a p) (has_point b p) refl refl }
  where
    by_tests : (p : Point) (x y : Bool) → has_point a p ≡ x → has_point b p ≡ y → x && y ≡ false
    by_tests p true true h k = absurd (never p h k)
    by_tests p true false h k = refl
    by_tests p false y h k = refl

beside : (e : Edges) (m n : ℕ) (a b : Edges) → m ≤ n → IsBefore e m a → IsAfter e n b → ShareNoPoint a b
beside e m n a b le h k = none_shared a b (λ p on in'. let low = h.points p on in let high = k.points p in' in omega (arith, ints, low, high))

above : (e : Edges) (m n : ℕ) (a b : Edges) → m ≤ n → IsOver e m a → IsUnder e n b → ShareNoPoint a b
above e m n a b le h k = none_shared a b (λ p on in'. let low = h.points p on in let high = k.points p in' in omega (arith, ints, low, high))

-- ---- a child's place
place_has : (e : Edges) (x y : ℕ) (size : ℕ × ℕ) (p : Point) → has_point (meet_of e (placed e (pos x) (pos y) size)) p ≡ true →
    ((between e.west e.east p.h && between e.north e.south p.v) &&
    (between (e.west +ℤ pos x) (e.west +ℤ pos x +ℤ pos size.0) p.h && between (e.north +ℤ pos y) (e.north +ℤ pos y +ℤ pos size.1) p.v)) ≡ true
place_has e x y size p h =
    sym (has_point-meet_of e (placed e (pos x) (pos y) size) p
    ∙ ap (λ b. has_point e p && b) (has_point-rect_of (e.west +ℤ pos x) (e.west +ℤ pos x +ℤ pos size.0) (e.north +ℤ pos y)
    (e.north +ℤ pos y +ℤ pos size.1) p)) ∙ h

place_after : (e : Edges) (gap : ℕ) (rows : List (List Extent)) (row : List Extent) (x : Extent) →
    IsAfter e (start_in_row gap row) (place_in_row_across e gap rows row x)
place_after e gap rows row x = record {
  points = λ p on.
      let all = place_has e (start_in_row gap row) (start_of_row gap (sides_of e).1 rows) (x.long, x.deep) p on in
      let mine = (and_parts _ _ all).1 in
      (between_parts _ _ _ (and_parts _ _ mine).0).0;
}

place_before : (e : Edges) (gap : ℕ) (rows : List (List Extent)) (row : List Extent) (x : Extent) →
    IsBefore e (start_in_row gap row + x.long) (place_in_row_across e gap rows row x)
place_before e gap rows row x = record {
  points = λ p on.
      let all = place_has e (start_in_row gap row) (start_of_row gap (sides_of e).1 rows) (x.long, x.deep) p on in
      let mine = (and_parts _ _ all).1 in
      as_one e.west p.h (start_in_row gap row) x.long (between_parts _ _ _ (and_parts _ _ mine).0).1;
}
  where
    as_one : (w h : ℤ) (m n : ℕ) → h <ℤ (w +ℤ pos m +ℤ pos n) → h <ℤ (w +ℤ pos (m + n))
    as_one w h m n lt = omega (arith, ints)

place_under : (e : Edges) (gap : ℕ) (rows : List (List Extent)) (row : List Extent) (x : Extent) →
    IsUnder e (start_of_row gap (sides_of e).1 rows) (place_in_row_across e gap rows row x)
place_under e gap rows row x = record {
  points = λ p on.
      let all = place_has e (start_in_row gap row) (start_of_row gap (sides_of e).1 rows) (x.long, x.deep) p on in
      let mine = (and_parts _ _ all).1 in
      (between_parts _ _ _ (and_parts _ _ mine).1).0;
}

place_over : (e : Edges) (gap : ℕ) (rows : List (List Extent)) (row : List Extent) (x : Extent) → IsRect e →
    IsOver e (min (start_of_row gap (sides_of e).1 rows + x.deep) (sides_of e).1) (place_in_row_across e gap rows row x)
place_over e gap rows row x is = record {
  points = λ p on.
      let all = and_parts _ _ (place_has e (start_in_row gap row) (start_of_row gap (sides_of e).1 rows) (x.long, x.deep) p on) in
      let node = (between_parts _ _ _ (and_parts _ _ all.0).1).1 in
      let mine = (between_parts _ _ _ (and_parts _ _ all.1).1).1 in
      within e.north e.south p.v (start_of_row gap (sides_of e).1 rows) x.deep (ordered e is).1 node mine;
}
  where
    within : (n s v : ℤ) (y d : ℕ) → n ≤ℤ s → v <ℤ s → v <ℤ (n +ℤ pos y +ℤ pos d) → v <ℤ (n +ℤ pos (min (y + d) (unsigned_abs (s -ℤ n))))
    within n s v y d le h k = grind (arith, ints)

-- ---- the places of a row
all_of_row : (P : Edges → Type 0) (place : PlaceOf) (rows : List (List Extent)) (row xs : List Extent) →
    ((r : List Extent) (x : Extent) → P (place rows r x)) → All P (row_places place rows row xs)
all_of_row P place rows row [] each = All-nil P
all_of_row P place rows row (x ∷ xs) each = All-cons P (place rows row x) (row_places place rows (row ++ x ∷ []) xs) (each row x)
    (all_of_row P place rows (row ++ x ∷ []) xs each)

start_grows : (gap : ℕ) (row : List Extent) (x : Extent) → start_in_row gap row + x.long ≤ start_in_row gap (row ++ x ∷ [])
start_grows gap row x = omega (arith, sum_by_push (λ (x : Extent). x.long + gap) row x)

row_after : (e : Edges) (gap : ℕ) (rows : List (List Extent)) (row xs : List Extent) →
    All (IsAfter e (start_in_row gap row)) (row_places (place_in_row_across e gap) rows row xs)
row_after e gap rows row [] = All-nil (IsAfter e (start_in_row gap row))
row_after e gap rows row (x ∷ xs) =
    let rest = row_places (place_in_row_across e gap) rows (row ++ x ∷ []) xs in
    All-cons (IsAfter e (start_in_row gap row)) (place_in_row_across e gap rows row x) rest (place_after e gap rows row x)
    (All-weaker (IsAfter e (start_in_row gap (row ++ x ∷ []))) (IsAfter e (start_in_row gap row))
    (λ r h. no_more_after e (start_in_row gap (row ++ x ∷ [])) (start_in_row gap row) r (omega (arith, start_grows gap row x)) h) rest
    (row_after e gap rows (row ++ x ∷ []) xs))

row_apart : (e : Edges) (gap : ℕ) (rows : List (List Extent)) (row xs : List Extent) →
    AllPairs ShareNoPoint (row_places (place_in_row_across e gap) rows row xs)
row_apart e gap rows row [] = λ i j d lt below. absurd (omega arith)
row_apart e gap rows row (x ∷ xs) =
    let rest = row_places (place_in_row_across e gap) rows (row ++ x ∷ []) xs in
    all_pairs_cons ShareNoPoint (place_in_row_across e gap rows row x) rest
    (All-weaker (IsAfter e (start_in_row gap (row ++ x ∷ []))) (ShareNoPoint (place_in_row_across e gap rows row x))
    (λ r h. beside e (start_in_row gap row + x.long) (start_in_row gap (row ++ x ∷ [])) (place_in_row_across e gap rows row x) r (start_grows gap row x)
    (place_before e gap rows row x) h)
    rest (row_after e gap rows (row ++ x ∷ []) xs))
    (row_apart e gap rows (row ++ x ∷ []) xs)

-- a row ends before the next one begins
row_over : (e : Edges) (gap deep : ℕ) (rows : List (List Extent)) (row xs : List Extent) → IsRect e → greatest_by (λ (x : Extent). x.deep) xs ≤ deep →
    All (IsOver e (min (start_of_row gap (sides_of e).1 rows + deep) (sides_of e).1)) (row_places (place_in_row_across e gap) rows row xs)
row_over e gap deep rows row [] is le = All-nil (IsOver e (min (start_of_row gap (sides_of e).1 rows + deep) (sides_of e).1))
row_over e gap deep rows row (x ∷ xs) is le =
    let y : ℕ = start_of_row gap (sides_of e).1 rows in
    let side : ℕ = (sides_of e).1 in
    let small : x.deep ≤ deep = omega arith in
    All-cons (IsOver e (min (y + deep) side)) (place_in_row_across e gap rows row x) (row_places (place_in_row_across e gap) rows (row ++ x ∷ []) xs)
    (no_more_over e (min (y + x.deep) side) (min (y + deep) side) (place_in_row_across e gap rows row x) (grows y x.deep deep side small)
    (place_over e gap rows row x is))
    (row_over e gap deep rows (row ++ x ∷ []) xs is (omega arith))
  where
    grows : (y a b side : ℕ) → a ≤ b → min (y + a) side ≤ min (y + b) side
    grows y a b side le = omega arith

-- ---- the places of all rows
pub all_of_places : (P : Edges → Type 0) (place : PlaceOf) (passed rows : List (List Extent)) →
    ((rs : List (List Extent)) (r : List Extent) (x : Extent) → P (place rs r x)) → All P (all_places place passed rows)
all_of_places P place passed [] each = All-nil P
all_of_places P place passed (row ∷ rows) each =
    All-append P (row_places place passed [] row) (all_places place (passed ++ row ∷ []) rows) (all_of_row P place passed [] row (each passed))
    (all_of_places P place (passed ++ row ∷ []) rows each)

next_row : (gap side : ℕ) (rows : List (List Extent)) (row : List Extent) →
    min (start_of_row gap side rows + depth_of row) side ≤ start_of_row gap side (rows ++ row ∷ [])
next_row gap side rows row = by_sum (sum_by (λ (r : List Extent). depth_of r + gap) rows) (depth_of row)
    (sum_by (λ (r : List Extent). depth_of r + gap) (rows ++ row ∷ [])) (sum_by_push (λ (r : List Extent). depth_of r + gap) rows row)
  where
    by_sum : (s d t : ℕ) → t ≡ s + (d + gap) → min (min s side + d) side ≤ min t side
    by_sum s d t h = omega arith

row_start_grows : (gap side : ℕ) (rows : List (List Extent)) (row : List Extent) → start_of_row gap side rows ≤ start_of_row gap side (rows ++ row ∷ [])
row_start_grows gap side rows row = omega (arith, sum_by_push (λ (r : List Extent). depth_of r + gap) rows row)

rows_under : (e : Edges) (gap : ℕ) (passed rows : List (List Extent)) →
    All (IsUnder e (start_of_row gap (sides_of e).1 passed)) (all_places (place_in_row_across e gap) passed rows)
rows_under e gap passed [] = All-nil (IsUnder e (start_of_row gap (sides_of e).1 passed))
rows_under e gap passed (row ∷ rows) =
    let top : ℕ = start_of_row gap (sides_of e).1 passed in
    let next : ℕ = start_of_row gap (sides_of e).1 (passed ++ row ∷ []) in
    let rest = all_places (place_in_row_across e gap) (passed ++ row ∷ []) rows in
    All-append (IsUnder e top) (row_places (place_in_row_across e gap) passed [] row) rest
    (all_of_row (IsUnder e top) (place_in_row_across e gap) passed [] row (λ r x. place_under e gap passed r x))
    (All-weaker (IsUnder e next) (IsUnder e top) (λ r h. no_more_under e next top r (row_start_grows gap (sides_of e).1 passed row) h) rest
    (rows_under e gap (passed ++ row ∷ []) rows))

places_apart : (e : Edges) (gap : ℕ) (passed rows : List (List Extent)) → IsRect e → AllPairs ShareNoPoint (all_places (place_in_row_across e gap) passed rows)
places_apart e gap passed [] is = λ i j d lt below. absurd (omega arith)
places_apart e gap passed (row ∷ rows) is =
    let first = row_places (place_in_row_across e gap) passed [] row in
    let rest = all_places (place_in_row_across e gap) (passed ++ row ∷ []) rows in
    let bottom : ℕ = min (start_of_row gap (sides_of e).1 passed + depth_of row) (sides_of e).1 in
    let top : ℕ = start_of_row gap (sides_of e).1 (passed ++ row ∷ []) in
    all_pairs_append ShareNoPoint first rest (row_apart e gap passed [] row) (places_apart e gap (passed ++ row ∷ []) rows is)
    (All-weaker (IsOver e bottom) (λ (a : Edges). All (ShareNoPoint a) rest)
    (λ a over. All-weaker (IsUnder e top) (ShareNoPoint a) (λ b under. above e bottom top a b (next_row gap (sides_of e).1 passed row) over under) rest
    (rows_under e gap (passed ++ row ∷ []) rows))
    first (row_over e gap (depth_of row) passed [] row is (omega arith)))

-- ---- in both axes
turned_row : (down : Bool) (e : Edges) (gap : ℕ) (rows : List (List Extent)) (row xs : List Extent) →
    row_places (place_in_row down e gap) rows row xs ≡ map (turned down) (row_places (place_in_row_across (turned down e) gap) rows row xs)
turned_row down e gap rows row [] = refl
turned_row down e gap rows row (x ∷ xs) = ap (λ (l : List Edges). place_in_row down e gap rows row x ∷ l) (turned_row down e gap rows (row ++ x ∷ []) xs)

turned_places : (down : Bool) (e : Edges) (gap : ℕ) (passed rows : List (List Extent)) →
    all_places (place_in_row down e gap) passed rows ≡ map (turned down) (all_places (place_in_row_across (turned down e) gap) passed rows)
turned_places down e gap passed [] = refl
turned_places down e gap passed (row ∷ rows) =
    ap (λ (l : List Edges). l ++ all_places (place_in_row down e gap) (passed ++ row ∷ []) rows) (turned_row down e gap passed [] row)
    ∙ ap (λ (l : List Edges). map (turned down) (row_places (place_in_row_across (turned down e) gap) passed [] row) ++ l)
    (turned_places down e gap (passed ++ row ∷ []) rows)
    ∙ sym (map-append (turned down) (row_places (place_in_row_across (turned down e) gap) passed [] row)
    (all_places (place_in_row_across (turned down e) gap) (passed ++ row ∷ []) rows))

apart_turned : (down : Bool) (xs : List Edges) → AllPairs ShareNoPoint xs → AllPairs ShareNoPoint (map (turned down) xs)
apart_turned down xs h i j d lt below =
    let within : j < length xs = omega (arith, length-map xs (turned down)) in
    let first : i < length xs = omega arith in
    rw (get_or-map (turned down) xs i empty_rect d first, get_or-map (turned down) xs j empty_rect d within)
    (turned_apart down (get_or xs i empty_rect) (get_or xs j empty_rect) (h i j empty_rect lt within))

-- the children of a node are parts of it, no two share a point, and in an empty node they are empty
packed_apart : (down : Bool) (gap : ℕ) (e : Edges) (rows : List (List Extent)) → IsRect e → AllPairs ShareNoPoint (all_places (place_in_row down e gap) [] rows)
packed_apart down gap e rows is =
    rw (turned_places down e gap [] rows)
    (apart_turned down (all_places (place_in_row_across (turned down e) gap) [] rows) (places_apart (turned down e) gap [] rows (turned_is_rect down e is)))

packed_part : (down : Bool) (gap : ℕ) (e : Edges) (rows : List (List Extent)) → All (λ (r : Edges). IsPartOf r e) (all_places (place_in_row down e gap) [] rows)
packed_part down gap e rows = all_of_places (λ (r : Edges). IsPartOf r e) (place_in_row down e gap) [] rows (λ rs r x.
    rw turned-meet_of (part-meet_of e (turned down
    (placed (turned down e) (pos (start_in_row gap r)) (pos (start_of_row gap (sides_of (turned down e)).1 rs)) (x.long, x.deep)))))

packed_empty : (down : Bool) (gap : ℕ) (e : Edges) (rows : List (List Extent)) → e ≡ empty_rect →
    All (λ (r : Edges). r ≡ empty_rect) (all_places (place_in_row down e gap) [] rows)
packed_empty down gap e rows h = all_of_places (λ (r : Edges). r ≡ empty_rect) (place_in_row down e gap) [] rows (λ rs r x.
    let whole = placed (turned down e) (pos (start_in_row gap r)) (pos (start_of_row gap (sides_of (turned down e)).1 rs)) (x.long, x.deep) in
    turned-meet_of down e whole ∙ ap (λ (n : Edges). meet_of n (turned down whole)) h ∙ none (turned down whole))
  where
    none : (t : Edges) → meet_of empty_rect t ≡ empty_rect
    none t = part_of_empty (int_max (pos 0) t.west) (int_min (pos 0) t.east) (int_max (pos 0) t.north) (int_min (pos 0) t.south) (part-meet_of empty_rect t)

length-all_places : (place : PlaceOf) (passed rows : List (List Extent)) → length (all_places place passed rows) ≡ length (joined rows)
length-all_places place passed [] = refl
length-all_places place passed (row ∷ rows) =
    omega (
      arith,
      length-append (row_places place passed [] row) (all_places place (passed ++ row ∷ []) rows),
      length-append row (joined rows),
      length-row_places place passed [] row,
      length-all_places place (passed ++ row ∷ []) rows,
    )
  where
    length-row_places : (place : PlaceOf) (rows : List (List Extent)) (row xs : List Extent) → length (row_places place rows row xs) ≡ length xs
    length-row_places place rows row [] = refl
    length-row_places place rows row (x ∷ xs) = omega (arith, length-row_places place rows (row ++ x ∷ []) xs)

-- ---- the laws of a packing node's children
pub pack_part : (down : Bool) (gap : ℕ) (e : Edges) (cs : List Shapes) → All (λ (r : Edges). IsPartOf r e) (pack_places down gap e cs)
pack_part down gap e cs = packed_part down gap e (cut (room_of down e) gap (extents down (room_of down e) cs))

pub pack_apart : (down : Bool) (gap : ℕ) (e : Edges) (cs : List Shapes) → IsRect e → AllPairs ShareNoPoint (pack_places down gap e cs)
pack_apart down gap e cs is = packed_apart down gap e (cut (room_of down e) gap (extents down (room_of down e) cs)) is

pub pack_empty : (down : Bool) (gap : ℕ) (e : Edges) (cs : List Shapes) → e ≡ empty_rect → All (λ (r : Edges). r ≡ empty_rect) (pack_places down gap e cs)
pack_empty down gap e cs h = packed_empty down gap e (cut (room_of down e) gap (extents down (room_of down e) cs)) h

pub length-pack_places : (down : Bool) (gap : ℕ) (e : Edges) (cs : List Shapes) → length (pack_places down gap e cs) ≡ length cs
length-pack_places down gap e cs =
    let room : ℕ = room_of down e in
    let xs : List Extent = extents down room cs in
    length-all_places (place_in_row down e gap) [] (cut room gap xs) ∙ ap length (cut_is_right room gap xs).whole ∙ length-extents down room cs
