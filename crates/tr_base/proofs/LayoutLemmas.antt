-- Sums and maxima of lengths, and where children stand: parts of a node's rectangle, or near it.
use Rattle.std.proofs.Common.{◌≡◌, ℕ, zero, suc, ◌+◌, ◌<◌, ◌≤◌, max, ℤ, pos, neg_ℤ, ◌+ℤ◌, ◌-ℤ◌, ◌<ℤ◌, ◌≤ℤ◌, Bool, true, false, ◌&&◌, ◌⊎◌, inl, inr, cond, List, [], ◌∷◌, ◌++◌, map, take, length, get_or, refl, sym, ap, ◌∙◌, arith, w32, to_z, of_z}
use Rattle.std.specs.Prelude.{All, AllPairs, int_lt, unsigned_abs, sum_by}
use Rattle.std.specs.Int.{int_min, int_max}
use Rattle.std.proofs.lemmas.Int.{ints, clamps}
use Rattle.std.proofs.lemmas.List.{map_more, take_more}
use Rattle.std.proofs.lemmas.List.Elements.{All-head, All-tail, All-append}
use Rattle.std.proofs.lemmas.List.FromFn.{length-map-range_with_len, get_or-map-range_with_len, map-range_with_len_more}
use Rattle.std.proofs.lemmas.List.Sums.{sum_by-cons}
use Rattle.tr_base.specs.declared.points.Point.{Point}
use Rattle.tr_base.specs.declared.shapes.Shapes.{Shapes}
use Rattle.tr_base.specs.Rects.{Edges, InReach, IsRect, between, has_point, empty_rect, rect_of, meet_of, sides_of}
use Rattle.tr_base.specs.Shapes.{Lengths}
use Rattle.tr_base.specs.Layouts.{places_by, longest, greatest_by, maxima_of, along, turned, placed, preferred_place, IsDomain, IsOffset, IsBetween, IsPartOf, ShareNoPoint, IsNear}
use Rattle.tr_base.proofs.RectLemmas.{rect_cases, false-true, empty-has_point, has_point-rect_of, cast-in_reach}

-- one more item
pub greatest_by_push : {X : Type 0} (f : X → ℕ) (xs : List X) (x : X) → greatest_by f (xs ++ x ∷ []) ≡ max (greatest_by f xs) (f x)
greatest_by_push f [] x = omega arith
greatest_by_push f (y ∷ xs) x = omega (arith, greatest_by_push f xs x)

-- the greatest is at most the sum
pub greatest_by-le-sum_by : {X : Type 0} (f : X → ℕ) (xs : List X) → greatest_by f xs ≤ sum_by f xs
greatest_by-le-sum_by f [] = omega arith
greatest_by-le-sum_by f (x ∷ xs) = rw sum_by-cons (omega (arith, greatest_by-le-sum_by f xs))

-- maxima, with one more child
pub maxima_more : (down : Bool) (cs : List Shapes) (i : ℕ) (c : Shapes) (all : Lengths) → i < length cs → c ≡ get_or cs i c →
    all ≡ maxima_of (map (along down) (take i cs)) →
    record { lo = max all.lo (along down c).lo; pref = max all.pref (along down c).pref; hi = max all.hi (along down c).hi } ≡ maxima_of
    (map (along down) (take (i + 1) cs))
maxima_more down cs i c all lt is e =
    let more : map (along down) (take (i + 1) cs) ≡ map (along down) (take i cs) ++ along down c ∷ [] = map_more (along down) cs i c lt
    ∙ ap (λ (x : Shapes). map (along down) (take i cs) ++ along down x ∷ []) (sym is) in
    rw (more, greatest_by_push, greatest_by_push, greatest_by_push, e) refl

-- a law of rectangles made of edges: it holds of those with points and of the empty one
pub by_rect_of : (P : Edges → Type 0) (w e n s : ℤ) →
    (w <ℤ e → n <ℤ s → P (record { west = w; east = e; north = n; south = s })) → P empty_rect → P (rect_of w e n s)
by_rect_of P w e n s full none = by_tests (int_lt w e) (int_lt n s) refl refl
  where
    by_tests : (a b : Bool) → int_lt w e ≡ a → int_lt n s ≡ b → P (cond (a && b) (record { west = w; east = e; north = n; south = s }) empty_rect)
    by_tests true true h k = full (grind (arith, ints)) (grind (arith, ints))
    by_tests true false h k = none
    by_tests false b h k = none

-- edges between those of a rectangle make a part of it
pub part-rect_of : (r : Edges) (w e n s : ℤ) → r.west ≤ℤ w → e ≤ℤ r.east → r.north ≤ℤ n → s ≤ℤ r.south → IsPartOf (rect_of w e n s) r
part-rect_of r w e n s hw he hn hs =
    by_rect_of (λ (c : Edges). IsPartOf c r) w e n s (λ _ _. inr (record { west = hw; east = he; north = hn; south = hs })) (inl refl)

part-between : (c r : Edges) → IsBetween c r → (p : Point) → has_point c p ≡ true → has_point r p ≡ true
part-between c r h p k = grind (arith, ints)

-- a part of a rectangle holds no other points
pub part-has_point : (c r : Edges) → IsPartOf c r → (p : Point) → has_point c p ≡ true → has_point r p ≡ true
part-has_point c r (inl h) p k = absurd (false-true (sym (empty-has_point c h p) ∙ k))
part-has_point c r (inr h) p k = part-between c r h p k

-- rectangles side by side, and one above the other
pub apart_across : (w e n s w' e' n' s' : ℤ) → e ≤ℤ w' → ShareNoPoint (rect_of w e n s) (rect_of w' e' n' s')
apart_across w e n s w' e' n' s' h = record { none = λ p. rw (has_point-rect_of w e n s p, has_point-rect_of w' e' n' s' p) (grind (arith, ints)) }

pub apart_down : (w e n s w' e' n' s' : ℤ) → s ≤ℤ n' → ShareNoPoint (rect_of w e n s) (rect_of w' e' n' s')
apart_down w e n s w' e' n' s' h = record { none = λ p. rw (has_point-rect_of w e n s p, has_point-rect_of w' e' n' s' p) (grind (arith, ints)) }

pub apart_empty_left : (r : Edges) → ShareNoPoint empty_rect r
apart_empty_left r = record { none = λ p. grind (arith, ints) }

pub apart_empty_right : (r : Edges) → ShareNoPoint r empty_rect
apart_empty_right r = record { none = λ p. grind (arith, ints) }

pub unsigned_abs-added : (a : ℤ) (n : ℕ) → unsigned_abs ((a +ℤ pos n) -ℤ a) ≡ n
unsigned_abs-added a n = grind (arith, ints)

-- the rectangle of a size at a corner, with its edges through 32 bits
small_reach : (x : ℤ) → neg_ℤ (pos 8192) ≤ℤ x → x ≤ℤ pos 8192 → to_z w32 (of_z w32 x) ≡ x
small_reach x l h = omega (arith, ints)

-- what is placed may be moved: each of its edges is within reach
pub placed_reach : (e : Edges) (p : Point) (size : ℕ × ℕ) → IsDomain e → IsOffset longest p → size.0 ≤ longest → size.1 ≤ longest →
    InReach (e.west +ℤ p.h) × InReach (e.west +ℤ p.h +ℤ pos size.0) × InReach (e.north +ℤ p.v) × InReach (e.north +ℤ p.v +ℤ pos size.1)
placed_reach e p size d o wide high = (
  record { low = omega (arith, ints); high = omega (arith, ints) },
  record { low = omega (arith, ints); high = omega (arith, ints) },
  record { low = omega (arith, ints); high = omega (arith, ints) },
  record { low = omega (arith, ints); high = omega (arith, ints) },
)

-- a rectangle that is placed, in the other axis
pub turned-rect_of : (w e n s : ℤ) → turned true (rect_of w e n s) ≡ rect_of n s w e
turned-rect_of w e n s = by_tests (int_lt w e) (int_lt n s)
  where
    by_tests : (a b : Bool) → turned true (cond (a && b) (record { west = w; east = e; north = n; south = s }) empty_rect) ≡ cond (b && a)
        (record { west = n; east = s; north = w; south = e }) empty_rect
    by_tests true true = refl
    by_tests true false = refl
    by_tests false true = refl
    by_tests false false = refl

pub turned-placed : (e : Edges) (h v : ℤ) (size : ℕ × ℕ) → turned true (placed (turned true e) h v size) ≡ placed e v h (size.1, size.0)
turned-placed e h v size = turned-rect_of (e.north +ℤ h) (e.north +ℤ h +ℤ pos size.0) (e.west +ℤ v) (e.west +ℤ v +ℤ pos size.1)

pub turned_part : (down : Bool) (c r : Edges) → IsPartOf c r → IsPartOf (turned down c) (turned down r)
turned_part true c r (inl h) = inl (ap (turned true) h)
turned_part true c r (inr h) = inr (record { west = h.north; east = h.south; north = h.west; south = h.east })
turned_part false c r h = h

pub turned-has_point : (e : Edges) (p : Point) → has_point (turned true e) p ≡ has_point e (record { h = p.v; v = p.h })
turned-has_point e p = and_swap (between e.north e.south p.h) (between e.west e.east p.v)
  where
    and_swap : (a b : Bool) → a && b ≡ b && a
    and_swap true true = refl
    and_swap true false = refl
    and_swap false true = refl
    and_swap false false = refl

pub turned_apart : (down : Bool) (a b : Edges) → ShareNoPoint a b → ShareNoPoint (turned down a) (turned down b)
turned_apart true a b h = record { none = λ p. rw (turned-has_point a p, turned-has_point b p) (h.none (record { h = p.v; v = p.h })) }
turned_apart false a b h = h

pub turned_empty : (down : Bool) (e : Edges) → e ≡ empty_rect → turned down e ≡ empty_rect
turned_empty true e h = ap (turned true) h
turned_empty false e h = h

-- the edges of a rectangle are in order
pub ordered : (e : Edges) → IsRect e → (e.west ≤ℤ e.east) × (e.north ≤ℤ e.south)
ordered e is = by_case (rect_cases e is)
  where
    by_case : (e ≡ empty_rect) ⊎ ((e.west <ℤ e.east) × (e.north <ℤ e.south)) → (e.west ≤ℤ e.east) × (e.north ≤ℤ e.south)
    by_case (inl h) = rw h (omega (arith, ints), omega (arith, ints))
    by_case (inr h) = (omega (arith, ints, h.0), omega (arith, ints, h.1))

-- the empty rectangle is one
pub empty_is_rect : IsRect empty_rect
empty_is_rect = record { edges = refl; reach = record { west = zero_reach; east = zero_reach; north = zero_reach; south = zero_reach } }
  where
    zero_reach : InReach (pos 0)
    zero_reach = record { low = omega (arith, ints); high = omega (arith, ints) }

-- what is placed within the sides of a rectangle is a part of it
pub part-placed : (r : Edges) (a b : ℕ) (size : ℕ × ℕ) → IsRect r →
    a + size.0 ≤ (sides_of r).0 → b + size.1 ≤ (sides_of r).1 → IsPartOf (placed r (pos a) (pos b) size) r
part-placed r a b size is wide high =
    let both = ordered r is in
    let across : r.west ≤ℤ r.east = both.0 in
    let down : r.north ≤ℤ r.south = both.1 in
    part-rect_of r (r.west +ℤ pos a) (r.west +ℤ pos a +ℤ pos size.0) (r.north +ℤ pos b) (r.north +ℤ pos b +ℤ pos size.1)
    (omega (arith, ints)) (within-side r.west r.east a size.0 across wide) (omega (arith, ints)) (within-side r.north r.south b size.1 down high)
  where
    within-side : (low high : ℤ) (i n : ℕ) → low ≤ℤ high → i + n ≤ unsigned_abs (high -ℤ low) → (low +ℤ pos i +ℤ pos n) ≤ℤ high
    within-side low high i n h k = grind (arith, ints)

-- a part of the empty rectangle is empty
pub part_of_empty : (w e n s : ℤ) → IsPartOf (rect_of w e n s) empty_rect → rect_of w e n s ≡ empty_rect
part_of_empty w e n s = by_rect_of (λ (c : Edges). IsPartOf c empty_rect → c ≡ empty_rect) w e n s (λ across down. λ h. none across h) (λ _. refl)
  where
    none : w <ℤ e → IsPartOf (record { west = w; east = e; north = n; south = s }) empty_rect →
        (let c : Edges = record { west = w; east = e; north = n; south = s } in c ≡ empty_rect)
    none across (inl h) = h
    none across (inr h) = absurd (omega (arith, ints, h.west, h.east))

-- what is placed elsewhere stands near
pub near-placed : (far : ℕ) (r : Edges) (p : Point) (size : ℕ × ℕ) → IsOffset far p → size.0 ≤ longest → size.1 ≤ longest → IsNear far (placed r p.h p.v size) r
near-placed far r p size o wide high =
    by_rect_of (λ (c : Edges). IsNear far c r) (r.west +ℤ p.h) (r.west +ℤ p.h +ℤ pos size.0) (r.north +ℤ p.v) (r.north +ℤ p.v +ℤ pos size.1)
    (λ _ _. inr (record {
      west = omega (arith, ints);
      east = omega (arith, ints);
      north = omega (arith, ints);
      south = omega (arith, ints);
      wide = rw unsigned_abs-added wide;
      high = rw unsigned_abs-added high;
    })) (inl refl)

-- a part of a length within the greatest length begins within it
side : (low high a b : ℤ) → low ≤ℤ a → a ≤ℤ b → b ≤ℤ high → unsigned_abs (high -ℤ low) ≤ longest → unsigned_abs (b -ℤ a) ≤ longest
side low high a b h i j k = grind (arith, ints)

corner : (low high a b : ℤ) → low ≤ℤ a → a ≤ℤ b → b ≤ℤ high → unsigned_abs (high -ℤ low) ≤ longest → a ≤ℤ (low +ℤ pos longest)
corner low high a b h i j k = grind (arith, ints)

-- a part of a domain stands near its corner
pub near_part : (c r : Edges) → IsRect c → IsDomain r → IsPartOf c r → IsNear longest c r
near_part c r is d (inl h) = inl h
near_part c r is d (inr h) = let both = ordered c is in let across : c.west ≤ℤ c.east = both.0 in let down : c.north ≤ℤ c.south = both.1 in inr (record {
  west = omega (arith, ints, h.west);
  east = corner r.west r.east c.west c.east h.west across h.east d.wide;
  north = omega (arith, ints, h.north);
  south = corner r.north r.south c.north c.south h.north down h.south d.high;
  wide = side r.west r.east c.west c.east h.west across h.east d.wide;
  high = side r.north r.south c.north c.south h.north down h.south d.high;
})

-- an edge and a size, both passed through 32 bits
pub cast_size : (x p r : ℤ) (n : ℕ) → p ≡ x → InReach p → n ≤ longest → r ≡ to_z w32 (of_z w32 p) +ℤ to_z w32 n → r ≡ x +ℤ pos n
cast_size x p r n e h k m =
    let size : to_z w32 n ≡ pos n = omega (arith, ints) in
    rw (cast-in_reach p h, size, e) at m

-- one more of the answer's items
pub taken_more : {X : Type 0} (answer items : List X) (i : ℕ) (x : X) → i < length answer → x ≡ get_or answer i x → items ≡ take i answer →
    items ++ x ∷ [] ≡ take (i + 1) answer
taken_more answer items i x lt is e = rw (e, take_more answer i x lt, ← is) refl

pub length-places_by : (place : ℕ → Edges) (count : ℕ) → length (places_by place count) ≡ count
length-places_by place count = length-map-range_with_len place 0 count

pub get_or-places_by : (place : ℕ → Edges) (count k : ℕ) (d : Edges) → k < count → get_or (places_by place count) k d ≡ place k
get_or-places_by place count k d lt = get_or-map-range_with_len place 0 count k k d lt (omega arith)

-- the rectangles so far, and one more
pub places_by_more : (place : ℕ → Edges) (items : List Edges) (k : ℕ) (r : Edges) → items ≡ places_by place k → r ≡ place k →
    items ++ r ∷ [] ≡ places_by place (k + 1)
places_by_more place items k r e is = rw (e, is) (sym (map-range_with_len_more place 0 k k (omega arith)))

-- what holds of each child's place, of each two, and of a list of places
pub all_places : (P : Edges → Type 0) (place : ℕ → Edges) (count : ℕ) (items : List Edges) → items ≡ places_by place count →
    ((k : ℕ) → k < count → P (place k)) → All P items
all_places P place count items e each k d lt =
    let within : k < count = omega (arith, length-places_by place count, ap length e) in
    rw (e, get_or-places_by place count k d within) (each k within)

pub pairs_of_places : (place : ℕ → Edges) (count : ℕ) (items : List Edges) → items ≡ places_by place count →
    ((i j : ℕ) → i < j → j < count → ShareNoPoint (place i) (place j)) → AllPairs ShareNoPoint items
pairs_of_places place count items e each i j d lt below =
    let within : j < count = omega (arith, length-places_by place count, ap length e) in
    let first : i < count = omega arith in
    rw (e, get_or-places_by place count i d first, get_or-places_by place count j d within) (each i j lt within)

pub part_itself : (e : Edges) → IsPartOf e e
part_itself e = inr (record { west = omega (arith, ints); east = omega (arith, ints); north = omega (arith, ints); south = omega (arith, ints) })

-- in a node with points a child has its preferred size
pub preferred_in_full : (e : Edges) (by : Point) (child : Shapes) (size : ℕ × ℕ) → (e.west <ℤ e.east) × (e.north <ℤ e.south) →
    size ≡ (child.across.pref, child.down.pref) → placed e by.h by.v size ≡ preferred_place e by child
preferred_in_full e by child size full is =
    let across : int_lt e.west e.east ≡ true = grind (arith, ints, full.0) in
    let down : int_lt e.north e.south ≡ true = grind (arith, ints, full.1) in
    rw (across, down, is) refl

pub turned_turned : (down : Bool) (e : Edges) → turned down (turned down e) ≡ e
turned_turned true e = refl
turned_turned false e = refl

pub turned_is_rect : (down : Bool) (e : Edges) → IsRect e → IsRect (turned down e)
turned_is_rect true e is = record {
  edges = sym (turned-rect_of e.west e.east e.north e.south) ∙ ap (turned true) is.edges;
  reach = record { west = is.reach.north; east = is.reach.south; north = is.reach.west; south = is.reach.east };
}
turned_is_rect false e is = is

-- a common part, in the other axis
pub turned-meet_of : (down : Bool) (e r : Edges) → turned down (meet_of (turned down e) r) ≡ meet_of e (turned down r)
turned-meet_of true e r = turned-rect_of (int_max e.north r.west) (int_min e.south r.east) (int_max e.west r.north) (int_min e.east r.south)
turned-meet_of false e r = refl

-- what two rectangles share is a part of each
pub part-meet_of : (e r : Edges) → IsPartOf (meet_of e r) e
part-meet_of e r =
    part-rect_of e (int_max e.west r.west) (int_min e.east r.east) (int_max e.north r.north) (int_min e.south r.south)
    (omega (arith, ints, clamps)) (omega (arith, ints, clamps)) (omega (arith, ints, clamps)) (omega (arith, ints, clamps))

-- what holds of an item and each later one, and of all items of one list and each of another
pub all_pairs_cons : {X : Type 0} (R : X → X → Type 0) (x : X) (xs : List X) → All (R x) xs → AllPairs R xs → AllPairs R (x ∷ xs)
all_pairs_cons R x xs all pairs zero zero d lt below = absurd (omega arith)
all_pairs_cons R x xs all pairs (suc i) zero d lt below = absurd (omega arith)
all_pairs_cons R x xs all pairs zero (suc j) d lt below = all j d (omega arith)
all_pairs_cons R x xs all pairs (suc i) (suc j) d lt below = pairs i j d (omega arith) (omega arith)

pub all_pairs_append : {X : Type 0} (R : X → X → Type 0) (xs ys : List X) → AllPairs R xs → AllPairs R ys → All (λ x. All (R x) ys) xs → AllPairs R (xs ++ ys)
all_pairs_append R [] ys first second cross = second
all_pairs_append R (x ∷ xs) ys first second cross =
    all_pairs_cons R x (xs ++ ys)
    (All-append (R x) xs ys (λ k d lt. first zero (suc k) d (omega arith) (omega arith)) (All-head (λ y. All (R y) ys) x xs cross))
    (all_pairs_append R xs ys (λ i j d lt below. first (suc i) (suc j) d (omega arith) (omega arith)) second (All-tail (λ y. All (R y) ys) x xs cross))
