-- Two rows that agree on one side of a place.
use Rattle.std.proofs.Common.{◌≡◌, ℕ, suc, ◌+◌, ◌-◌, ◌*◌, ◌/◌, ◌%◌, ◌^◌, ◌<◌, ◌≤◌, List, length, get_or, w64, sym, ap, ◌∙◌, arith, inl, inr, pow_pos, pow-suc}
use Rattle.std.specs.Int.{bit_at, trailing_zeros}
use Rattle.std.proofs.Math.Nat.{div-eq_of_lt, div-lt_iff_lt-mul, pow-le-pow_right}
use Rattle.std.proofs.lemmas.Bool.{cases_lt}
use Rattle.std.proofs.lemmas.Nat.Bits.{bit_at-zero, bit_at-trailing_zeros}
use Rattle.tr_kernel.specs.Differences.{IsFirstDifference, IsLastDifference}
use Rattle.tr_kernel.proofs.PairLemmas.{differing, differing_fits, bit_agrees, bit_differs}

-- the rows agree before i
pub record AgreeBefore (a b : List ℕ) (i : ℕ) : Type 0 where
  pub same : (k : ℕ) → k < i → get_or a k 0 ≡ get_or b k 0

-- the rows agree from i on
pub record AgreeFrom (a b : List ℕ) (i : ℕ) : Type 0 where
  pub same : (k : ℕ) → i ≤ k → k < length a → get_or a k 0 ≡ get_or b k 0

-- the highest bit of a number that is set
top_bit : (n r : ℕ) → 2 ^ r ≤ n → n < 2 * 2 ^ r → bit_at n r ≡ 1
top_bit n r at_least below =
    let under : n / 2 ^ r < 2 = (div-lt_iff_lt-mul {k = 2 ^ r} {x = n} {y = 2} (pow_pos r)).1 (omega arith) in
    let some : n / 2 ^ r < 1 → ⊥ = λ none. let short : n < 1 * 2 ^ r = (div-lt_iff_lt-mul {k = 2 ^ r} {x = n} {y = 1} (pow_pos r)).0 none in omega arith in
    omega (arith, some)

bit_above : (n r j : ℕ) → n < 2 * 2 ^ r → r < j → bit_at n j ≡ 0
bit_above n r j below gt =
    let twice : 2 ^ suc r ≤ 2 ^ j = pow-le-pow_right (omega arith) (omega arith) in
    let double = pow-suc 2 r in
    let under : n < 2 ^ j = omega arith in
    ap (λ q. q % 2) (div-eq_of_lt under)

module _ (a b : List ℕ) (same : length a ≡ length b) (at : ℕ) (room : at + 64 ≤ length a) where
  abbrev bits : ℕ
  bits = differing a b same at room

  all_agree : bits ≡ 0 → (k : ℕ) → at ≤ k → k < at + 64 → get_or a k 0 ≡ get_or b k 0
  all_agree none k le lt =
      let e : at + (k - at) ≡ k = omega arith in
      ap (λ i. get_or a i 0) (sym e) ∙ bit_agrees a b same at room (k - at) (omega arith) (ap (λ n. bit_at n (k - at)) none ∙ bit_at-zero (k - at))
      ∙ ap (λ i. get_or b i 0) e

  -- where no bit is set, the rows agree 64 places further
  pub agree_further : bits ≡ 0 → (next : ℕ) → next ≡ at + 64 → AgreeBefore a b at → AgreeBefore a b next
  agree_further none next e so_far =
      record {
        same = λ k lt. elim (cases_lt k at) [
          | inl before ↦ so_far.same k before
          | inr behind ↦ all_agree none k behind (omega arith)
        ];
      }

  pub agree_earlier : bits ≡ 0 → (next : ℕ) → next ≡ at + 64 → AgreeFrom a b next → AgreeFrom a b at
  agree_earlier none next e so_far =
      record {
        same = λ k le within. elim (cases_lt k (at + 64)) [
          | inl before ↦ all_agree none k le before
          | inr behind ↦ so_far.same k (omega arith) within
        ];
      }

  -- the lowest bit that is set is the first difference
  pub lowest : (0 < bits) → AgreeBefore a b at → IsFirstDifference a b (at + trailing_zeros w64 bits)
  lowest some so_far =
      let k = bit_at-trailing_zeros w64 bits some (differing_fits a b same at room) in
      record {
        within = omega (arith, k.0);
        here = bit_differs a b same at room (trailing_zeros w64 bits) k.0 k.1;
        before = λ j lt. elim (cases_lt j at) [
          | inl before ↦ so_far.same j before
          | inr behind ↦
              let e : at + (j - at) ≡ j = omega arith in
              ap (λ i. get_or a i 0) (sym e) ∙ bit_agrees a b same at room (j - at) (omega (arith, k.0)) (k.2 (j - at) (omega arith))
              ∙ ap (λ i. get_or b i 0) e
        ];
      }

  -- the highest bit that is set is the last difference
  pub highest : (r : ℕ) → r < 64 → 2 ^ r ≤ bits → bits < 2 * 2 ^ r → (next : ℕ) → next ≡ at + 64 → AgreeFrom a b next → IsLastDifference a b (at + r)
  highest r few at_least below next e so_far =
      record {
        within = omega arith;
        here = bit_differs a b same at room r few (top_bit bits r at_least below);
        behind = λ j gt within. elim (cases_lt j (at + 64)) [
          | inl before ↦
              let e : at + (j - at) ≡ j = omega arith in
              ap (λ i. get_or a i 0) (sym e) ∙ bit_agrees a b same at room (j - at) (omega arith) (bit_above bits r (j - at) below (omega arith))
              ∙ ap (λ i. get_or b i 0) e
          | inr behind ↦ so_far.same j (omega arith) within
        ];
      }
