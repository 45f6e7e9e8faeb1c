-- Copies within a list, one after another.
use Rattle.std.proofs.Common.{◌≡◌, ℕ, ◌+◌, ◌-◌, ◌<◌, ◌≤◌, ◌⊎◌, inl, inr, List, get_or, refl, ap, ◌∙◌, arith}
use Rattle.std.proofs.lemmas.Bool.{cases_lt}
use Rattle.tr_screen.specs.Copies.{IsCopied}

-- nothing is copied yet
pub copied_none : (old : List ℕ) (from to : ℕ) → IsCopied old old from to 0
copied_none old from to = record {
  copied = λ k lt. absurd (omega arith);
  before = λ k lt. refl;
  behind = λ k ge. refl;
}

-- the next part is copied to the front of its source, which the copies so far have not reached
pub copied_on : (old mid new : List ℕ) (from to n m : ℕ) →
    to ≤ from → IsCopied old mid from to n → IsCopied mid new (from + n) (to + n) m →
    IsCopied old new from to (n + m)
copied_on old mid new from to n m down h k = record {
  copied = λ i lt. by_place i lt (cases_lt i n);
  before = λ i lt. k.before i (omega arith) ∙ h.before i lt;
  behind = λ i ge. k.behind i (omega arith) ∙ h.behind i (omega arith);
}
  where
    by_place : (i : ℕ) → i < n + m → (i < n) ⊎ (n ≤ i) → get_or new (to + i) 0 ≡ get_or old (from + i) 0
    by_place i lt (inl less) = k.before (to + i) (omega arith) ∙ h.copied i less
    by_place i lt (inr more) =
        let target : to + i ≡ to + n + (i - n) = omega arith in
        let source : from + n + (i - n) ≡ from + i = omega arith in
        ap (λ j. get_or new j 0) target ∙ k.copied (i - n) (omega arith) ∙ h.behind (from + n + (i - n)) (omega arith) ∙ ap (λ j. get_or old j 0) source

-- the part before is copied to the end of its source, which the copies so far have not reached
pub copied_back : (old mid new : List ℕ) (from to n m : ℕ) →
    from ≤ to → IsCopied old mid (from + m) (to + m) n → IsCopied mid new from to m →
    IsCopied old new from to (m + n)
copied_back old mid new from to n m up h k = record {
  copied = λ i lt. by_place i lt (cases_lt i m);
  before = λ i lt. k.before i lt ∙ h.before i (omega arith);
  behind = λ i ge. k.behind i (omega arith) ∙ h.behind i (omega arith);
}
  where
    by_place : (i : ℕ) → i < m + n → (i < m) ⊎ (m ≤ i) → get_or new (to + i) 0 ≡ get_or old (from + i) 0
    by_place i lt (inl less) = k.copied i less ∙ h.before (from + i) (omega arith)
    by_place i lt (inr more) =
        let target : to + i ≡ to + m + (i - m) = omega arith in
        let source : from + m + (i - m) ≡ from + i = omega arith in
        k.behind (to + i) (omega arith) ∙ ap (λ j. get_or mid j 0) target ∙ h.copied (i - m) (omega arith) ∙ ap (λ j. get_or old j 0) source
