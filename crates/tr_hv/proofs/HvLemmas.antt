-- The wishes of children side by side, what they get, and where the children stand.
use Rattle.std.proofs.Common.{◌≡◌, ℕ, ◌+◌, ◌-◌, ◌*◌, ◌<◌, ◌≤◌, zero, suc, min, pos, ◌+ℤ◌, ◌≤ℤ◌, ℤ, Bool, List, [], ◌∷◌, ◌++◌, map, take, length, get_or, sum, refl, sym, ap, ◌∙◌, subst, arith, length-append}
use Rattle.std.specs.Prelude.{sum_by}
use Rattle.std.specs.List.{range_with_len}
use Rattle.std.proofs.lemmas.Int.{ints}
use Rattle.std.proofs.lemmas.List.{length-map, get_or_append_left, get_or-append_right, get_or-map, append_assoc, take-take, take_all, take_at, map-id}
use Rattle.std.proofs.lemmas.List.FromFn.{map-range_with_len_more}
use Rattle.std.proofs.lemmas.List.Sums.{sum_by_more, sum_by-append, sum_by_push, sum_by-take-le, sum-map}
use Rattle.tr_base.specs.declared.shapes.Shapes.{Shapes}
use Rattle.tr_base.specs.Rects.{Edges, IsRect, empty_rect, sides_of}
use Rattle.tr_base.specs.Shapes.{Lengths}
use Rattle.tr_base.specs.Layouts.{longest, along, turned, placed, places_by, IsPartOf, ShareNoPoint}
use Rattle.tr_base.proofs.LayoutLemmas.{length-places_by, empty_is_rect, part-placed, part_of_empty, apart_across, turned_is_rect, turned_turned, turned_part, turned_apart, turned_empty}
use Rattle.tr_hv.specs.declared.places.Wishes.{Wishes}
use Rattle.tr_hv.specs.Sums.{AreAtMost}
use Rattle.tr_hv.specs.Places.{wishes, granted, length_of, child_start, place_across, place_of}

-- ---- three lists one after another
in_first : (xs ys zs : List ℕ) (n k : ℕ) → length xs ≡ n → k < n → get_or (xs ++ ys ++ zs) k 0 ≡ get_or xs k 0
in_first xs ys zs n k h lt =
    get_or_append_left (xs ++ ys) zs 0 k (omega (arith, length-append xs ys)) ∙ get_or_append_left xs ys 0 k (omega arith)

in_second : (xs ys zs : List ℕ) (n k : ℕ) → length xs ≡ n → length ys ≡ n → k < n → get_or (xs ++ ys ++ zs) (n + k) 0 ≡ get_or ys k 0
in_second xs ys zs n k h l lt =
    let at : (n + k) - n ≡ k = omega arith in
    get_or_append_left (xs ++ ys) zs 0 (n + k) (omega (arith, length-append xs ys))
    ∙ get_or-append_right xs ys n (n + k) 0 h (omega arith) ∙ ap (λ i. get_or ys i 0) at

in_third : (xs ys zs : List ℕ) (n k : ℕ) → length xs ≡ n → length ys ≡ n → get_or (xs ++ ys ++ zs) (n + n + k) 0 ≡ get_or zs k 0
in_third xs ys zs n k h l =
    let at : (n + n + k) - (n + n) ≡ k = omega arith in
    get_or-append_right (xs ++ ys) zs (n + n) (n + n + k) 0 (omega (arith, length-append xs ys)) (omega arith) ∙ ap (λ i. get_or zs i 0) at

-- ---- the wishes
-- the wishes of a child
pub record AreWishes (c : Lengths) (w : Wishes) : Type 0 where
  pub lo : w.lo ≡ c.lo
  pub pref : w.pref ≡ c.pref - c.lo
  pub hi : w.hi ≡ c.hi - c.pref

-- the sum of the first i wishes
pub sum_before : List Lengths → ℕ → ℕ
sum_before cs i = sum (take i (wishes cs))

-- the three sums of wishes that come before those of the k-th child
pub record IsBefore (cs : List Lengths) (k : ℕ) (b : Wishes) : Type 0 where
  pub lo : b.lo ≡ sum_before cs k
  pub pref : b.pref ≡ sum_before cs (length cs + k)
  pub hi : b.hi ≡ sum_before cs (length cs + length cs + k)

length-wishes : (cs : List Lengths) → length (wishes cs) ≡ length cs + length cs + length cs
length-wishes cs =
    let xs : List ℕ = map (λ (c : Lengths). c.lo) cs in
    let ys : List ℕ = map (λ (c : Lengths). c.pref - c.lo) cs in
    let zs : List ℕ = map (λ (c : Lengths). c.hi - c.pref) cs in
    omega (
      arith,
      length-append (xs ++ ys) zs,
      length-append xs ys,
      length-map cs (λ (c : Lengths). c.lo),
      length-map cs
          (λ (c : Lengths). c.pref - c.lo),
      length-map cs (λ (c : Lengths). c.hi - c.pref),
    )

-- the wishes of the k-th child, c
pub wishes_at : (cs : List Lengths) (k : ℕ) (c : Lengths) (w : Wishes) → k < length cs → c ≡ get_or cs k c → AreWishes c w →
    (get_or (wishes cs) k 0 ≡ w.lo) × (get_or (wishes cs) (length cs + k) 0 ≡ w.pref) × (get_or (wishes cs) (length cs + length cs + k) 0 ≡ w.hi)
wishes_at cs k c w lt is are =
    let xs : List ℕ = map (λ (c : Lengths). c.lo) cs in
    let ys : List ℕ = map (λ (c : Lengths). c.pref - c.lo) cs in
    let zs : List ℕ = map (λ (c : Lengths). c.hi - c.pref) cs in
    let la : length xs ≡ length cs = length-map cs (λ (c : Lengths). c.lo) in
    let lb : length ys ≡ length cs = length-map cs (λ (c : Lengths). c.pref - c.lo) in (
      in_first xs ys zs (length cs) k la lt ∙ get_or-map (λ (c : Lengths). c.lo) cs k c 0 lt ∙ ap (λ (d : Lengths). d.lo) (sym is) ∙ sym are.lo,
      in_second xs ys zs (length cs) k la lb lt ∙ get_or-map (λ (c : Lengths). c.pref - c.lo) cs k c 0 lt ∙ ap (λ (d : Lengths). d.pref - d.lo) (sym is)
          ∙ sym are.pref,
      in_third xs ys zs (length cs) k la lb ∙ get_or-map (λ (c : Lengths). c.hi - c.pref) cs k c 0 lt ∙ ap (λ (d : Lengths). d.hi - d.pref) (sym is)
          ∙ sym are.hi,
    )

-- one more wish
sum_before_more : (cs : List Lengths) (i : ℕ) → i < length (wishes cs) → sum_before cs (i + 1) ≡ sum_before cs i + get_or (wishes cs) i 0
unfolding sum_before
sum_before_more cs i lt = sum_by_more (λ (x : ℕ). x) (wishes cs) i 0 lt

sum_before_grows : (cs : List Lengths) (i j : ℕ) → i ≤ j → sum_before cs i ≤ sum_before cs j
unfolding sum_before
sum_before_grows cs i j le =
    let same : take i (take j (wishes cs)) ≡ take i (wishes cs) = take-take i j (wishes cs) le in
    let part = sum_by-take-le (λ (x : ℕ). x) (take j (wishes cs)) i in
    rw same at part

sum_before-zero : (cs : List Lengths) → sum_before cs 0 ≡ 0
unfolding sum_before
sum_before-zero cs = refl

-- before the second group come all lo wishes, and before the third one those of both groups
sum_before-second : (cs : List Lengths) → sum_before cs (length cs) ≡ sum_by (λ (c : Lengths). c.lo) cs
unfolding sum_before
sum_before-second cs =
    let xs : List ℕ = map (λ (c : Lengths). c.lo) cs in
    let ys : List ℕ = map (λ (c : Lengths). c.pref - c.lo) cs in
    let zs : List ℕ = map (λ (c : Lengths). c.hi - c.pref) cs in
    let la : length xs ≡ length cs = length-map cs (λ (c : Lengths). c.lo) in
    ap (λ (l : List ℕ). sum (take (length cs) l)) (append_assoc xs ys zs) ∙ ap sum (take_at xs (ys ++ zs) (length cs) la) ∙ sum-map (λ (c : Lengths). c.lo) cs

sum_before-third : (cs : List Lengths) → sum_before cs (length cs + length cs) ≡ sum_by (λ (c : Lengths). c.lo) cs + sum_by (λ (c : Lengths). c.pref - c.lo) cs
unfolding sum_before
sum_before-third cs =
    let xs : List ℕ = map (λ (c : Lengths). c.lo) cs in
    let ys : List ℕ = map (λ (c : Lengths). c.pref - c.lo) cs in
    let zs : List ℕ = map (λ (c : Lengths). c.hi - c.pref) cs in
    let both : length (xs ++ ys) ≡ length cs + length cs = omega
    (arith, length-append xs ys, length-map cs (λ (c : Lengths). c.lo), length-map cs (λ (c : Lengths). c.pref - c.lo)) in
    ap sum (take_at (xs ++ ys) zs (length cs + length cs) both) ∙ sum_by-append (λ (x : ℕ). x) xs ys
    ∙ rw (sum-map (λ (c : Lengths). c.lo) cs, sum-map (λ (c : Lengths). c.pref - c.lo) cs) refl

-- the sums before the first child's wishes, and before the next child's
pub before_first : (cs : List Lengths) (b : Wishes) → b.lo ≡ 0 → b.pref ≡ sum_by (λ (c : Lengths). c.lo) cs →
    b.hi ≡ sum_by (λ (c : Lengths). c.lo) cs + sum_by (λ (c : Lengths). c.pref - c.lo) cs → IsBefore cs 0 b
before_first cs b lo pref hi =
    let second : length cs + 0 ≡ length cs = omega arith in
    let third : length cs + length cs + 0 ≡ length cs + length cs = omega arith in
    record {
      lo = lo ∙ sym (sum_before-zero cs);
      pref = rw second (pref ∙ sym (sum_before-second cs));
      hi = rw third (hi ∙ sym (sum_before-third cs));
    }

pub before_more : (cs : List Lengths) (k : ℕ) (c : Lengths) (b w next : Wishes) → k < length cs → c ≡ get_or cs k c → AreWishes c w → IsBefore cs k b →
    next ≡ record { lo = b.lo + w.lo; pref = b.pref + w.pref; hi = b.hi + w.hi } → IsBefore cs (k + 1) next
before_more cs k c b w next lt is are before sum =
    let at = wishes_at cs k c w lt is are in
    let second : length cs + (k + 1) ≡ length cs + k + 1 = omega arith in
    let third : length cs + length cs + (k + 1) ≡ length cs + length cs + k + 1 = omega arith in
    let all = length-wishes cs in
    rw sum (record {
      lo = omega (arith, before.lo, sum_before_more cs k (omega arith), at.0);
      pref = rw second (omega (arith, before.pref, sum_before_more cs (length cs + k) (omega arith), at.1));
      hi = rw third (omega (arith, before.hi, sum_before_more cs (length cs + length cs + k) (omega arith), at.2));
    })

-- ---- what the wishes get

-- a child's length, from its wishes and the sums before them
pub length_is : (room : ℕ) (cs : List Lengths) (k : ℕ) (c : Lengths) (b w : Wishes) → k < length cs → c ≡ get_or cs k c → AreWishes c w → IsBefore cs k b →
    min w.lo (room - b.lo) + min w.pref (room - b.pref) + min w.hi (room - b.hi) ≡ length_of room cs k
unfolding granted sum_before
length_is room cs k c b w lt is are before =
    let at = wishes_at cs k c w lt is are in
    rw (at.0, at.1, at.2, before.lo, before.pref, before.hi) refl

-- what the first i wishes get together
granted_before : ℕ → List Lengths → ℕ → ℕ
granted_before room cs i = min room (sum_before cs i)

granted_more : (room : ℕ) (cs : List Lengths) (i : ℕ) → i < length (wishes cs) →
    granted_before room cs (i + 1) ≡ granted_before room cs i + granted room (wishes cs) i
unfolding granted granted_before sum_before
granted_more room cs i lt = by_sum (sum (take i (wishes cs))) (get_or (wishes cs) i 0) (sum (take (i + 1) (wishes cs))) (sum_before_more cs i lt)
  where
    by_sum : (s w t : ℕ) → t ≡ s + w → min room t ≡ min room s + min w (room - s)
    by_sum s w t e = omega arith

granted_grows : (room : ℕ) (cs : List Lengths) (i j : ℕ) → i ≤ j → granted_before room cs i ≤ granted_before room cs j
unfolding granted_before
granted_grows room cs i j le = omega (arith, sum_before_grows cs i j le)

granted_within : (room : ℕ) (cs : List Lengths) (i : ℕ) → granted_before room cs i ≤ room
unfolding granted_before
granted_within room cs i = omega arith

granted-zero : (room : ℕ) (cs : List Lengths) → granted_before room cs 0 ≡ 0
unfolding granted_before
granted-zero room cs = omega (arith, sum_before-zero cs)

-- ---- where the children begin
pub start_of_more : (room : ℕ) (cs : List Lengths) (k : ℕ) → child_start room cs (k + 1) ≡ child_start room cs k + length_of room cs k
start_of_more room cs k =
    let more = map-range_with_len_more (λ (x : ℕ). x) 0 k k (omega arith) in
    let plain : range_with_len 0 (k + 1) ≡ range_with_len 0 k ++ k ∷ [] = rw (map-id (range_with_len 0 (k + 1)), map-id (range_with_len 0 k)) at more in
    ap (sum_by (length_of room cs)) plain ∙ sum_by_push (length_of room cs) (range_with_len 0 k) k

-- where a child begins, by what the wishes before its own get
abbrev IsStart : ℕ → List Lengths → ℕ → Type 0
IsStart room cs k =
    child_start room cs k + granted_before room cs (length cs) + granted_before room cs (length cs + length cs)
    ≡ granted_before room cs k + granted_before room cs (length cs + k) + granted_before room cs (length cs + length cs + k)

next_start : (room : ℕ) (cs : List Lengths) (k : ℕ) → k < length cs → IsStart room cs k → IsStart room cs (k + 1)
next_start room cs k lt before =
    let second : length cs + (k + 1) ≡ length cs + k + 1 = omega arith in
    let third : length cs + length cs + (k + 1) ≡ length cs + length cs + k + 1 = omega arith in
    let all = length-wishes cs in
    rw (second, third)
    (omega (
      arith,
      before,
      start_of_more room cs k,
      granted_more room cs k (omega arith),
      granted_more room cs (length cs + k) (omega arith),
      granted_more room cs (length cs + length cs + k) (omega arith),
    ))

start_of_is : (room : ℕ) (cs : List Lengths) (k : ℕ) → k ≤ length cs → IsStart room cs k
start_of_is room cs zero le =
    let second : length cs + 0 ≡ length cs = omega arith in
    let third : length cs + length cs + 0 ≡ length cs + length cs = omega arith in
    rw (second, third) (omega (arith, granted-zero room cs))
start_of_is room cs (suc k) le =
    let next : k + 1 ≡ suc k = omega arith in
    subst (IsStart room cs) next (next_start room cs k (omega arith) (start_of_is room cs k (omega arith)))

-- the children end within the room
pub start_fits : (room : ℕ) (cs : List Lengths) (k : ℕ) → k ≤ length cs → child_start room cs k ≤ room
start_fits room cs k le =
    omega (
      arith,
      start_of_is room cs k le,
      granted_grows room cs k (length cs) le,
      granted_grows room cs (length cs + k) (length cs + length cs)
          (omega arith),
      granted_within room cs (length cs + length cs + k),
    )

pub end_fits : (room : ℕ) (cs : List Lengths) (k : ℕ) → k < length cs → child_start room cs k + length_of room cs k ≤ room
end_fits room cs k lt = omega (arith, start_fits room cs (k + 1) (omega arith), start_of_more room cs k)

-- a later child begins where an earlier one ends, or beyond
pub start_of_grows : (room : ℕ) (cs : List Lengths) (i j : ℕ) → i < j → child_start room cs i + length_of room cs i ≤ child_start room cs j
start_of_grows room cs i j lt =
    let far : i + 1 + (j - (i + 1)) ≡ j = omega arith in
    let more = rw far at (grows room cs (i + 1) (j - (i + 1))) in
    omega (arith, more, start_of_more room cs i)
  where
    grows : (room : ℕ) (cs : List Lengths) (i d : ℕ) → child_start room cs i ≤ child_start room cs (i + d)
    grows room cs i zero = let same : i + 0 ≡ i = omega arith in rw same (omega arith)
    grows room cs i (suc d) = let next : i + suc d ≡ i + d + 1 = omega arith in rw next (omega (arith, start_of_more room cs (i + d), grows room cs i d))

-- ---- the places
part_across : (e : Edges) (cs : List Lengths) (k : ℕ) → IsRect e → k < length cs → IsPartOf (place_across e cs k) e
part_across e cs k is lt =
    part-placed e (child_start (sides_of e).0 cs k) 0 (length_of (sides_of e).0 cs k, (sides_of e).1) is (end_fits (sides_of e).0 cs k lt) (omega arith)

apart_side_by_side : (e : Edges) (cs : List Lengths) (i j : ℕ) → i < j → ShareNoPoint (place_across e cs i) (place_across e cs j)
apart_side_by_side e cs i j lt =
    let room : ℕ = (sides_of e).0 in
    let high : ℕ = (sides_of e).1 in
    apart_across (e.west +ℤ pos (child_start room cs i)) (e.west +ℤ pos (child_start room cs i) +ℤ pos (length_of room cs i)) (e.north +ℤ pos 0)
    (e.north +ℤ pos 0 +ℤ pos high)
    (e.west +ℤ pos (child_start room cs j)) (e.west +ℤ pos (child_start room cs j) +ℤ pos (length_of room cs j)) (e.north +ℤ pos 0)
    (e.north +ℤ pos 0 +ℤ pos high)
    (behind e.west (child_start room cs i) (length_of room cs i) (child_start room cs j) (start_of_grows room cs i j lt))
  where
    behind : (w : ℤ) (x l y : ℕ) → x + l ≤ y → (w +ℤ pos x +ℤ pos l) ≤ℤ (w +ℤ pos y)
    behind w x l y le = omega (arith, ints)

empty_across : (cs : List Lengths) (k : ℕ) → k < length cs → place_across empty_rect cs k ≡ empty_rect
empty_across cs k lt =
    let start : ℕ = child_start 0 cs k in
    let size : ℕ = length_of 0 cs k in
    part_of_empty (pos 0 +ℤ pos start) (pos 0 +ℤ pos start +ℤ pos size) (pos 0 +ℤ pos 0) (pos 0 +ℤ pos 0 +ℤ pos 0)
    (part_across empty_rect cs k empty_is_rect lt)

-- the children of a node are parts of it, no two share a point, and in an empty node they are empty
pub place_part : (vertical : Bool) (e : Edges) (cs : List Shapes) (k : ℕ) → IsRect e → k < length cs → IsPartOf (place_of vertical e cs k) e
place_part vertical e cs k is lt =
    let within : k < length (map (along vertical) cs) = omega (arith, length-map cs (along vertical)) in
    let part = turned_part vertical (place_across (turned vertical e) (map (along vertical) cs) k) (turned vertical e)
    (part_across (turned vertical e) (map (along vertical) cs) k (turned_is_rect vertical e is) within) in
    subst (λ (r : Edges). IsPartOf (place_of vertical e cs k) r) (turned_turned vertical e) part

pub place_apart : (vertical : Bool) (e : Edges) (cs : List Shapes) (i j : ℕ) → i < j → ShareNoPoint (place_of vertical e cs i) (place_of vertical e cs j)
place_apart vertical e cs i j lt =
    turned_apart vertical (place_across (turned vertical e) (map (along vertical) cs) i) (place_across (turned vertical e) (map (along vertical) cs) j)
    (apart_side_by_side (turned vertical e) (map (along vertical) cs) i j lt)

pub place_empty : (vertical : Bool) (e : Edges) (cs : List Shapes) (k : ℕ) → e ≡ empty_rect → k < length cs → place_of vertical e cs k ≡ empty_rect
place_empty vertical e cs k h lt =
    let within : k < length (map (along vertical) cs) = omega (arith, length-map cs (along vertical)) in
    turned_empty vertical (place_across (turned vertical e) (map (along vertical) cs) k)
    (ap (λ (r : Edges). place_across r (map (along vertical) cs) k) (turned_empty vertical e h) ∙ empty_across (map (along vertical) cs) k within)

-- the lengths of the k-th child along the node
pub along_read : (vertical : Bool) (cs : List Shapes) (k : ℕ) (child : Shapes) (c : Lengths) → k < length cs → child ≡ get_or cs k child →
    c ≡ along vertical child → c ≡ get_or (map (along vertical) cs) k c
along_read vertical cs k child c lt is e =
    e ∙ ap (along vertical) is ∙ sym (get_or-map (along vertical) cs k child c lt)

-- what the loop places is the child's place
pub place_is : (vertical : Bool) (e : Edges) (cs : List Shapes) (k : ℕ) (sides : ℕ × ℕ) (start size : ℕ) → sides ≡ sides_of (turned vertical e) →
    start ≡ child_start sides.0 (map (along vertical) cs) k → size ≡ length_of sides.0 (map (along vertical) cs) k →
    turned vertical (placed (turned vertical e) (pos start) (pos 0) (size, sides.1)) ≡ place_of vertical e cs k
place_is vertical e cs k sides start size is begins lasts = rw (begins, lasts, is) refl

-- room of the right length that is filled from the front holds all places in the end
pub placed_all : (place : ℕ → Edges) (items : List Edges) (i count : ℕ) → take i items ≡ places_by place i → length items ≡ count → count ≤ i →
    items ≡ places_by place count
placed_all place items i count e is le =
    let all : items ≡ places_by place i = sym (take_all i items (omega arith)) ∙ e in
    let same : i ≡ count = omega (arith, ap length all, length-places_by place i) in
    subst (λ (k : ℕ). items ≡ places_by place k) same all

-- how great the sums are, with one more child
pub within_more : (n i : ℕ) (b w next : Wishes) → AreAtMost (longest * (n + i)) b → AreAtMost longest w →
    next ≡ record { lo = b.lo + w.lo; pref = b.pref + w.pref; hi = b.hi + w.hi } → AreAtMost (longest * (n + (i + 1))) next
within_more n i b w next sums one is = rw is
    (record { lo = omega (arith, sums.lo, one.lo); pref = omega (arith, sums.pref, one.pref); hi = omega (arith, sums.hi, one.hi) })
