-- Spans that are kept of spans within reach.
use Rattle.std.proofs.Common.{◌≡◌, ℤ, pos, neg_ℤ, ◌-ℤ◌, ◌≤ℤ◌, ◌<ℤ◌, Bool, true, false, ◌||◌, ◌⊎◌, List, [], ◌∷◌, refl, sym, ◌∙◌, inl, inr, arith}
use Rattle.std.specs.List.{AllByRecursion}
use Rattle.std.proofs.lemmas.Int.{ints}
use Rattle.std.proofs.lemmas.Bool.{false≢true, or_cases}
use Rattle.tr_base.specs.Rects.{between}
use Rattle.tr_region.specs.declared.operations.Operation.{Operation}
use Rattle.tr_region.specs.Operations.{keeps}
use Rattle.tr_region.specs.Bands.{Span, AreApart, IsSpanInReach, in_spans}
use Rattle.tr_region.proofs.MergeLemmas.{keeps-none}

abbrev IsNear : ℤ → Type 0
IsNear x = (neg_ℤ (pos 1048576) ≤ℤ x) × (x <ℤ pos 1048576)

near_in : (spans : List Span) (x : ℤ) → AllByRecursion IsSpanInReach spans → in_spans spans x ≡ true → IsNear x
near_in [] x h e = absurd (false≢true e)
near_in (s ∷ spans) x h e = by_cases (near_in spans x h.1) (or_cases (between s.west s.east x) (in_spans spans x) e)
  where
    here : between s.west s.east x ≡ true → IsNear x
    here k =
        let west = h.0.west in
        let east = h.0.east in
        let low : s.west ≤ℤ x = grind (arith, ints) in
        let high : x <ℤ s.east = grind (arith, ints) in
        (omega (arith, ints), omega (arith, ints))

    by_cases : (in_spans spans x ≡ true → IsNear x) → (between s.west s.east x ≡ true) ⊎ (in_spans spans x ≡ true) → IsNear x
    by_cases later (inl k) = here k
    by_cases later (inr k) = later k

near_kept : (operation : Operation) (first second : List Span) (x : ℤ) → AllByRecursion IsSpanInReach first → AllByRecursion IsSpanInReach second →
    keeps operation (in_spans first x) (in_spans second x) ≡ true → IsNear x
near_kept operation first second x h k e = by_tests (in_spans first x) (in_spans second x) refl refl e
  where
    by_tests : (s t : Bool) → in_spans first x ≡ s → in_spans second x ≡ t → keeps operation s t ≡ true → IsNear x
    by_tests true t p q e = near_in first x h p
    by_tests false true p q e = near_in second x k q
    by_tests false false p q e = absurd (false≢true (sym (keeps-none operation) ∙ e))

span_near : (s : Span) → s.west <ℤ s.east → ((x : ℤ) → between s.west s.east x ≡ true → IsNear x) → IsSpanInReach s
span_near s h near =
    let low = near s.west (grind (arith, ints)) in
    let high = near (s.east -ℤ pos 1) (grind (arith, ints)) in
    record {
      west = record { low = low.0; high = omega (arith, ints) };
      east = record { low = omega (arith, ints); high = omega (arith, ints) };
    }

in_reach : (spans : List Span) → AreApart spans → ((x : ℤ) → in_spans spans x ≡ true → IsNear x) → AllByRecursion IsSpanInReach spans
in_reach [] apart near = tt
in_reach (s ∷ []) apart near = (span_near s apart (λ x e. near x (rw e refl)), tt)
in_reach (s ∷ t ∷ spans) apart near =
    (span_near s apart.0 (λ x e. near x (rw e refl)), in_reach (t ∷ spans) apart.2 (λ x e. near x (or_right (between s.west s.east x) e)))
  where
    or_right : {b : Bool} (a : Bool) → b ≡ true → a || b ≡ true
    or_right true e = refl
    or_right false e = e

-- what is kept of spans within reach is within reach
pub kept_in_reach : (operation : Operation) (first second spans : List Span) → AllByRecursion IsSpanInReach first →
    AllByRecursion IsSpanInReach second → AreApart spans →
    ((x : ℤ) → in_spans spans x ≡ keeps operation (in_spans first x) (in_spans second x)) → AllByRecursion IsSpanInReach spans
kept_in_reach operation first second spans h k apart points =
    in_reach spans apart (λ x e. near_kept operation first second x h k (sym (points x) ∙ e))
