use Rattle.std.proofs.Common.{◌≡◌, ℕ, ◌<◌, ◌↔◌, List, [], ◌∷◌, ◌++◌, length, drop, Option, Some, None, sym, ◌∙◌, ap, arith, append-nil, append_assoc}
use Rattle.std.specs.Prelude.{IsSome}
use Rattle.std.specs.Option.{option_to_list}
use Rattle.std.proofs.lemmas.List.{nil_from_length}
use Rattle.trestle.proofs.runs.after_name.Goals as goal

-- what is left after the first element, if there is one
after_first : {X : Type 0} (r : Option X) (xs ys : List X) (n : ℕ) → xs ≡ option_to_list r ++ ys → (IsSome r ↔ (0 < n)) → n ≡ length xs → ys ≡ drop 1 xs
after_first None [] ys n e h len = sym e
after_first {X = X} None (x ∷ xs) ys n e h len = let some : IsSome {T = X} None = h.1 (omega arith) in cc
after_first (Some x) xs ys n e h len = ap (drop 1) (sym e)

one_taken : {X : Type 0} (taken rest rest_new all : List X) (x : X) → taken ++ rest ≡ all → rest ≡ x ∷ rest_new → (taken ++ x ∷ []) ++ rest_new ≡ all
one_taken {X = X} taken rest rest_new all x h e = append_assoc taken (x ∷ []) rest_new ∙ ap (λ (l : List X). taken ++ l) (sym e) ∙ h

all_taken : {X : Type 0} (taken rest all : List X) → taken ++ rest ≡ all → length rest ≡ 0 → taken ≡ all
all_taken {X = X} taken rest all h e = sym (append-nil taken) ∙ ap (λ (l : List X). taken ++ l) (sym (nil_from_length rest e)) ∙ h

pub loop-argument-init : goal.loop-argument-init
loop-argument-init c =
    let rest = after_first _ _ _ _ c.next.ensures.items c.next.ensures.variant c.args.all.rest.ok.0 in
    rw c.new-arguments.ensures.items rest

pub loop-argument-preserved : goal.loop-argument-preserved
loop-argument-preserved c = rw c.in_ok-push.ensures.items (one_taken _ _ _ _ _ c.loop-argument.invariant c.in-Some.ensures.items)

pub returns : goal.returns
returns c = all_taken _ _ _ c.loop-argument.invariant (sym c.loop-argument.rest.rest.ok.0 ∙ c.in_default.ensures.cases.0)
