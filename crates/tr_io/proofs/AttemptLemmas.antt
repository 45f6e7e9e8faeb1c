-- The answers that the system gave over several calls.
use Rattle.std.proofs.Common.{◌≡◌, ℕ, ◌+◌, ◌-◌, ◌^◌, List, [], ◌∷◌, ◌++◌, Option, Some, None, Result, Err, refl, sym, ◌∙◌, ap, inl, inr, arith, length-append, append-nil, zero, suc}
use Rattle.std.specs.Prelude.{All}
use Rattle.std.proofs.lemmas.List.Elements.{All-append, All-nil}
use mathlib.Core.List.{append_assoc}
use Rattle.std.specs.declared.io.Error.{Error}
use Rattle.tr_io.specs.declared.streams.Failed.{Failed}
use Rattle.tr_io.specs.declared.attempts.Attempt.{Attempt}
use Rattle.tr_io.specs.declared.attempts.Attempt.TheVariants.{Again}
use Rattle.tr_io.specs.Attempts.{OfKnown, Tried, Asked, settled}

all_one : {X : Type 0} (P : X → Type 0) (x : X) → P x → All P (x ∷ [])
all_one P x h zero d lt = h
all_one P x h (suc k) d lt = absurd (omega arith)

-- nothing was asked yet
pub not_tried : (attempt : Result ℕ Error → Attempt) (x : Option (List (Result ℕ Error))) → OfKnown x x (Tried attempt 0)
not_tried attempt None = tt
not_tried attempt (Some xs) = record { tries = []; answers = sym (append-nil xs); interrupted = All-nil (λ x. attempt x ≡ Again); count = refl }

-- one more interruption
again : (attempt : Result ℕ Error → Attempt) (n : ℕ) (answer : Result ℕ Error) (xs ys zs : List (Result ℕ Error)) →
    attempt answer ≡ Again → Tried attempt n xs ys → zs ≡ ys ++ answer ∷ [] → Tried attempt (n + 1) xs zs
again attempt n answer xs ys zs is h e = record {
  tries = h.tries ++ answer ∷ [];
  answers = e ∙ ap (λ (l : List (Result ℕ Error)). l ++ answer ∷ []) h.answers ∙ append_assoc xs h.tries (answer ∷ []);
  interrupted = All-append (λ x. attempt x ≡ Again) h.tries (answer ∷ []) h.interrupted (all_one (λ x. attempt x ≡ Again) answer is);
  count = omega (arith, h.count, length-append h.tries (answer ∷ []));
}

pub tried_again : (attempt : Result ℕ Error → Attempt) (n : ℕ) (answer : Result ℕ Error) (x y z : Option (List (Result ℕ Error))) → attempt answer ≡ Again →
    OfKnown x y (Tried attempt n) → OfKnown y z (λ before after. after ≡ before ++ answer ∷ []) → OfKnown x z (Tried attempt (n + 1))
tried_again attempt n answer None y z is h e = tt
tried_again attempt n answer (Some xs) None z is h e = absurd h
tried_again attempt n answer (Some xs) (Some ys) None is h e = absurd e
tried_again attempt n answer (Some xs) (Some ys) (Some zs) is h e = again attempt n answer xs ys zs is h e

-- the last answer settles the result
pub asked : (attempt : Result ℕ Error → Attempt) (n : ℕ) (answer : Result ℕ Error) (result : Result ℕ Failed) (x y z : Option (List (Result ℕ Error))) →
    settled (attempt answer) ≡ Some result → OfKnown x y (Tried attempt n) → OfKnown y z (λ before after. after ≡ before ++ answer ∷ []) →
    OfKnown x z (Asked attempt result)
asked attempt n answer result None y z is h e = tt
asked attempt n answer result (Some xs) None z is h e = absurd h
asked attempt n answer result (Some xs) (Some ys) None is h e = absurd e
asked attempt n answer result (Some xs) (Some ys) (Some zs) is h e = inl (n, answer, ys, h, e, is)

-- too many interruptions
pub gave_up : (attempt : Result ℕ Error → Attempt) (n : ℕ) (x y : Option (List (Result ℕ Error))) → n ≡ 2 ^ 64 - 1 → OfKnown x y (Tried attempt n) →
    OfKnown x y (Asked attempt (Err (record {})))
gave_up attempt n None y e h = tt
gave_up attempt n (Some xs) None e h = absurd h
gave_up attempt n (Some xs) (Some ys) e h = inr (rw e at h, refl)
