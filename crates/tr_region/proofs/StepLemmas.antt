-- The next edge of a walk along two lists.
use Rattle.std.proofs.Common.{◌≡◌, ℕ, ◌<◌, ◌+◌, ℤ, ◌<ℤ◌, ◌≤ℤ◌, true, false, not, cond, List, [], ◌∷◌, length, drop, refl, sym, ap, subst, ◌∙◌, Bool, SFits, w32, to_z, of_z, arith, rules}
use lib.Signed.{mag}
use mathlib.Core.Bool.{beq}
use Rattle.std.specs.Borrow.{Bor}
use Rattle.std.specs.Prelude.{int_le, int_lt}
use Rattle.std.proofs.lemmas.Int.{ints, clamps, to_z-of_z}
use Rattle.tr_base.specs.Rects.{Edges, InReach}
use Rattle.tr_base.proofs.RectLemmas.{cast-in_reach}
use Rattle.tr_region.specs.declared.operations.Operation.{Operation}
use Rattle.tr_region.specs.declared.strips.Strip.{Strip}
use Rattle.tr_region.specs.declared.merging.Lists.{Lists}
use Rattle.tr_region.specs.declared.merging.Lists.TheVariants.{First, Second, Both}
use Rattle.tr_region.specs.declared.merging.Walk.{Walk}
use Rattle.tr_region.specs.Bands.{Span, spans_of}
use Rattle.tr_region.specs.SpanEdges.{edges_left, next_of}
use Rattle.tr_region.specs.Walks.{has_first, has_second, first_left, second_left, next_edge, count_left, stands_kept, IsAhead, Turns, Passes, PassesNext}
use Rattle.tr_region.specs.Operations.{keeps}

-- the next edge of a list, within reach where there is one
pub record IsEdge (es : List ℤ) (x : ℤ) : Type 0 where
  pub value : x ≡ next_of es
  pub reach : 0 < length es → InReach x
  pub fits : SFits w32 x

-- the next edges of both lists
pub record AreEdges (v : Walk) (x y : ℤ) : Type 0 where
  pub first : IsEdge (first_left v) x
  pub second : IsEdge (second_left v) y

fits_of : (x : ℤ) → mag x < 2147483648 → SFits w32 x
fits_of x h = search rules

-- what the code reads as an edge of these spans, inside the first of them or not
abbrev pub Reads : List Span → Bool → ℤ → Type 0
Reads spans inside x = record { value : x ≡ next_of (edges_left spans inside); reach : 0 < length (edges_left spans inside) → InReach x }

is_edge : (spans : List Span) (b c : Bool) (x : ℤ) → b ≡ c → Reads spans b x → mag x < 2147483648 → IsEdge (edges_left spans c) x
is_edge spans b c x e r h =
    let value : x ≡ next_of (edges_left spans b) = r.value in
    rw (← e) (record { value = value; reach = r.reach; fits = fits_of x h })

pub are_edges : (v : Walk) (inside : Lists) (f s : Bool) (x y : ℤ) → inside ≡ v.inside → f ≡ has_first inside → s ≡ has_second inside →
    Reads (spans_of v.first.now) f x → Reads (spans_of v.second.now) s y → mag x < 2147483648 → mag y < 2147483648 → AreEdges v x y
are_edges v inside f s x y e p q r t h k = record {
  first = is_edge (spans_of v.first.now) f (has_first v.inside) x (p ∙ ap has_first e) r h;
  second = is_edge (spans_of v.second.now) s (has_second v.inside) y (q ∙ ap has_second e) t k;
}

-- the next edge of a walk, and the lists that have it
pub record IsNext (v : Walk) (at : Lists) (x : ℤ) : Type 0 where
  pub at_first : has_first at ≡ int_le (next_of (first_left v)) (next_of (second_left v))
  pub at_second : has_second at ≡ int_le (next_of (second_left v)) (next_of (first_left v))
  pub is : to_z w32 (of_z w32 x) ≡ next_edge v
  pub reach : InReach (next_edge v)

-- an edge before another is one
some_before : (es : List ℤ) (x y : ℤ) → x ≡ next_of es → x <ℤ y → SFits w32 y → 0 < length es
some_before [] x y e h fits = absurd (omega (arith, ints))
some_before (f ∷ es) x y e h fits = omega arith

next_by_first : (v : Walk) (x y : ℤ) → IsEdge (first_left v) x → IsEdge (second_left v) y → x <ℤ y → IsNext v First x
next_by_first v x y f s h =
    let value : x ≡ next_of (first_left v) = f.value in
    let other : y ≡ next_of (second_left v) = s.value in
    let reach : InReach x = f.reach (some_before (first_left v) x y value h s.fits) in
    let is : x ≡ next_edge v = omega (arith, ints, clamps) in
    record {
      at_first = grind (arith, ints);
      at_second = grind (arith, ints);
      is = cast-in_reach x reach ∙ is;
      reach = subst InReach is reach;
    }

next_by_second : (v : Walk) (x y : ℤ) → IsEdge (first_left v) x → IsEdge (second_left v) y → y <ℤ x → IsNext v Second y
next_by_second v x y f s h =
    let value : x ≡ next_of (first_left v) = f.value in
    let other : y ≡ next_of (second_left v) = s.value in
    let reach : InReach y = s.reach (some_before (second_left v) y x other h f.fits) in
    let is : y ≡ next_edge v = omega (arith, ints, clamps) in
    record {
      at_first = grind (arith, ints);
      at_second = grind (arith, ints);
      is = cast-in_reach y reach ∙ is;
      reach = subst InReach is reach;
    }

-- where neither edge is before the other, it is one if either list has one
reach_of_either : (es fs : List ℤ) (x y : ℤ) → IsEdge es x → IsEdge fs y → x ≡ y → 0 < length es + length fs → InReach x
reach_of_either [] fs x y f s e some = subst InReach (sym e) (s.reach (omega arith))
reach_of_either (g ∷ es) fs x y f s e some = f.reach (omega arith)

next_by_both : (v : Walk) (x y : ℤ) → IsEdge (first_left v) x → IsEdge (second_left v) y → y ≤ℤ x → x ≤ℤ y → 0 < count_left v → IsNext v Both x
next_by_both v x y f s h k some =
    let value : x ≡ next_of (first_left v) = f.value in
    let other : y ≡ next_of (second_left v) = s.value in
    let same : x ≡ y = omega (arith, ints) in
    let reach : InReach x = reach_of_either (first_left v) (second_left v) x y f s same some in
    let is : x ≡ next_edge v = omega (arith, ints, clamps) in
    record {
      at_first = grind (arith, ints);
      at_second = grind (arith, ints);
      is = cast-in_reach x reach ∙ is;
      reach = subst InReach is reach;
    }

less_by_test : (x y : ℤ) → SFits w32 x → SFits w32 y → int_lt (to_z w32 (of_z w32 x)) (to_z w32 (of_z w32 y)) ≡ true → x <ℤ y
less_by_test x y p q h =
    let less : int_lt x y ≡ true = rw (to_z-of_z w32 x p, to_z-of_z w32 y q) at h in
    grind (arith, ints)

more_by_test : (x y : ℤ) → SFits w32 x → SFits w32 y → int_lt (to_z w32 (of_z w32 x)) (to_z w32 (of_z w32 y)) ≡ false → y ≤ℤ x
more_by_test x y p q h =
    let less : int_lt x y ≡ false = rw (to_z-of_z w32 x p, to_z-of_z w32 y q) at h in
    grind (arith, ints)

-- by the tests that the code makes
pub next_first : (v : Walk) (x y : ℤ) → AreEdges v x y → int_lt (to_z w32 (of_z w32 x)) (to_z w32 (of_z w32 y)) ≡ true → IsNext v First x
next_first v x y e h = next_by_first v x y e.first e.second (less_by_test x y e.first.fits e.second.fits h)

pub next_second : (v : Walk) (x y : ℤ) → AreEdges v x y → int_lt (to_z w32 (of_z w32 y)) (to_z w32 (of_z w32 x)) ≡ true → IsNext v Second y
next_second v x y e h = next_by_second v x y e.first e.second (less_by_test y x e.second.fits e.first.fits h)

pub next_both : (v : Walk) (x y : ℤ) → AreEdges v x y → int_lt (to_z w32 (of_z w32 x)) (to_z w32 (of_z w32 y)) ≡ false →
    int_lt (to_z w32 (of_z w32 y)) (to_z w32 (of_z w32 x)) ≡ false → 0 < count_left v → IsNext v Both x
next_both v x y e h k some =
    next_by_both v x y e.first e.second (more_by_test x y e.first.fits e.second.fits h) (more_by_test y x e.second.fits e.first.fits k) some

-- an edge beyond the open rectangle's west edge, for which there is room
pub record IsOpen (operation : Operation) (v : Walk) (edge : ℤ) (len capacity : ℕ) : Type 0 where
  pub across : stands_kept operation v ≡ true → v.west <ℤ edge
  pub room : stands_kept operation v ≡ true → len < capacity
  pub x : InReach edge

pub is_open : (operation : Operation) (v : Walk) (at : Lists) (x : ℤ) (len capacity : ℕ) → IsAhead operation v len capacity → 0 < count_left v →
    IsNext v at x → IsOpen operation v (to_z w32 (of_z w32 x)) len capacity
is_open operation v at x len capacity ahead left next = rw next.is (record {
  across = ahead.west;
  room = λ kept. let room = rw kept at ahead.room in omega arith;
  x = next.reach;
})

pub passes_next : (strip : Strip) (v w : Walk) (at : Lists) (x : ℤ) (old new : List Edges) → IsNext v at x →
    Passes strip at (to_z w32 (of_z w32 x)) v w old new → PassesNext strip v w old new
passes_next strip v w at x old new next passes = record {
  at = at;
  at_first = next.at_first;
  at_second = next.at_second;
  reach = next.reach;
  passes = rw next.is at passes;
}

toggled : (a b : Bool) → not (beq a b) ≡ cond b (not a) a
toggled true true = refl
toggled true false = refl
toggled false true = refl
toggled false false = refl

-- a walk that passed an edge, by what the code makes of it
pub passed : (strip : Strip) (at : Lists) (x : ℤ) (v : Walk) (inside : Lists) (first second : Bor (List Edges)) (west : ℤ) (old new : List Edges) →
    has_first inside ≡ not (beq (has_first v.inside) (has_first at)) → has_second inside ≡ not (beq (has_second v.inside) (has_second at)) →
    edges_left (spans_of first.now) (cond (has_first at) (not (has_first v.inside)) (has_first v.inside)) ≡
    cond (has_first at) (drop 1 (first_left v)) (first_left v) →
    edges_left (spans_of second.now) (cond (has_second at) (not (has_second v.inside)) (has_second v.inside)) ≡
    cond (has_second at) (drop 1 (second_left v)) (second_left v) →
    InReach west → Turns (stands_kept strip.operation v) (keeps strip.operation (has_first inside) (has_second inside)) x strip.rows v.west west old new →
    Passes strip at x v (record { inside = inside; first = first; second = second; west = west }) old new
passed strip at x v inside first second west old new e f g h reach turns =
    let now_first = e ∙ toggled (has_first v.inside) (has_first at) in
    let now_second = f ∙ toggled (has_second v.inside) (has_second at) in
    record {
      first_inside = now_first;
      second_inside = now_second;
      first_step = ap (λ b. edges_left (spans_of first.now) b) now_first ∙ g;
      second_step = ap (λ b. edges_left (spans_of second.now) b) now_second ∙ h;
      reach = reach;
      turns = turns;
    }
