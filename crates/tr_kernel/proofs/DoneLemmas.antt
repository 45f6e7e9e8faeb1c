-- A row whose pixels are replaced from the first on, one by one or many at a time.
use Rattle.std.proofs.Common.{◌≡◌, ℕ, ◌+◌, ◌-◌, ◌<◌, ◌≤◌, List, length, get_or, set, refl, sym, ap, ◌∙◌, arith, inl, inr}
use Rattle.std.proofs.lemmas.Simd.{get_or-put_chunk_below, get_or-put_chunk_at, get_or-put_chunk_above}
use Rattle.std.proofs.lemmas.List.{get_or-set_other}
use Rattle.std.proofs.lemmas.Grind.{get_or-set_at}
use Rattle.std.proofs.lemmas.Bool.{cases_lt}
use lib.Lanes.{put_chunk}

-- the first i pixels are those of f, and the others are old
pub record IsDoneTo (f : ℕ → ℕ) (old row : List ℕ) (i : ℕ) : Type 0 where
  pub done : (k : ℕ) → k < i → get_or row k 0 ≡ f k
  pub left : (k : ℕ) → i ≤ k → get_or row k 0 ≡ get_or old k 0

pub none_done : (f : ℕ → ℕ) (old : List ℕ) → IsDoneTo f old old 0
none_done f old = record { done = λ k lt. absurd (omega arith); left = λ k le. refl }

module _ (f : ℕ → ℕ) (old row : List ℕ) (i : ℕ) (so_far : IsDoneTo f old row i) where
  -- one pixel is replaced
  pub one_done : (y : ℕ) → i < length row → y ≡ f i → IsDoneTo f old (set row i y) (i + 1)
  one_done y lt e = record { done = done; left = left }
    where
      done : (k : ℕ) → k < i + 1 → get_or (set row i y) k 0 ≡ f k
      done k below = elim (cases_lt k i) [
        | inl before ↦ get_or-set_other row i k y 0 (λ h. omega arith) ∙ so_far.done k before
        | inr not_before ↦ let at : i ≡ k = omega arith in get_or-set_at row i k y 0 (sym at) lt ∙ e ∙ ap f at
      ]

      left : (k : ℕ) → i + 1 ≤ k → get_or (set row i y) k 0 ≡ get_or old k 0
      left k le = get_or-set_other row i k y 0 (λ h. omega arith) ∙ so_far.left k (omega arith)

  -- many pixels are replaced from a place on that is done already, or comes next
  pub many_done : (at : ℕ) (ys : List ℕ) (next : ℕ) → at + length ys ≡ next → at ≤ i → i ≤ next → next ≤ length row → ((j : ℕ) → j < length ys
      → get_or ys j 0 ≡ f (at + j))
      → IsDoneTo f old (put_chunk at row ys) next
  many_done at ys next sum behind reached room here = record { done = done; left = left }
    where
      done : (k : ℕ) → k < next → get_or (put_chunk at row ys) k 0 ≡ f k
      done k below = elim (cases_lt k at) [
        | inl before ↦ get_or-put_chunk_below at row ys k 0 before ∙ so_far.done k (omega arith)
        | inr not_before ↦
            let e : at + (k - at) ≡ k = omega arith in
            ap (λ j. get_or (put_chunk at row ys) j 0) (sym e) ∙ get_or-put_chunk_at at row ys (k - at) 0 (omega arith) (omega arith)
            ∙ here (k - at) (omega arith) ∙ ap f e
      ]

      left : (k : ℕ) → next ≤ k → get_or (put_chunk at row ys) k 0 ≡ get_or old k 0
      left k le = get_or-put_chunk_above at row ys k 0 (omega arith) ∙ so_far.left k (omega arith)
