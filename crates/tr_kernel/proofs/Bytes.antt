-- What steps make of a byte.
use Rattle.std.proofs.Common.{◌≡◌, ℕ, ◌<◌, ◌||◌, Bool, true, false, eqb, eqb-true, if◌then◌else◌, bit_and, bit_or, bit_xor, refl, sym, ap, ◌∙◌, arith}
use Rattle.std.specs.Int.Bits.{xor_self, xor_assoc, xor_zero_r}
use Rattle.std.proofs.lemmas.Nat.{xor_comm}
use lib.Bits.{and_mask, and_zero_r, or_zero_l, or_zero_r}
use Rattle.tr_base.specs.Ops.{exchanged}
use Rattle.tr_kernel.specs.Steps.{flipped}

-- a byte of which all bits are kept, and none is written
kept : (n : ℕ) → n < 256 → bit_or (bit_and n 255) 0 ≡ n
kept n lt = or_zero_r (bit_and n 255) ∙ and_mask n 8 ∙ omega arith

to_second : (x y : ℕ) → bit_xor x (bit_xor x y) ≡ y
to_second x y = sym (xor_assoc x x y) ∙ ap (λ n. bit_xor n y) (xor_self x)

to_first : (x y : ℕ) → bit_xor y (bit_xor x y) ≡ x
to_first x y = ap (bit_xor y) (xor_comm x y) ∙ to_second y x

flipped_by_tests : (s t : Bool) (x y old : ℕ) → (s ≡ true → old ≡ x) → (t ≡ true → old ≡ y)
    → bit_xor old (if s || t then bit_xor x y else 0) ≡ (if s then y else if t then x else old)
flipped_by_tests true t x y old at_x at_y = ap (λ n. bit_xor n (bit_xor x y)) (at_x refl) ∙ to_second x y
flipped_by_tests false true x y old at_x at_y = ap (λ n. bit_xor n (bit_xor x y)) (at_y refl) ∙ to_first x y
flipped_by_tests false false x y old at_x at_y = xor_zero_r old

-- to flip the differing bits is to exchange
flipped-exchanged : (x y old : ℕ) → flipped x y old ≡ exchanged x y old
flipped-exchanged x y old = flipped_by_tests (eqb old x) (eqb old y) x y old (eqb-true old x) (eqb-true old y)

exchanged_fits : (x y old : ℕ) → x < 256 → y < 256 → old < 256 → exchanged x y old < 256
exchanged_fits x y old small_x small_y small = one_of (eqb old x) (eqb old y)
  where
    one_of : (s t : Bool) → (if s then y else if t then x else old) < 256
    one_of true t = small_y
    one_of false true = small_x
    one_of false false = small

pub exchange_step : (x y old : ℕ) → x < 256 → y < 256 → old < 256 → bit_or (bit_and (flipped x y old) 255) 0 ≡ exchanged x y old
exchange_step x y old small_x small_y small =
    ap (λ n. bit_or (bit_and n 255) 0) (flipped-exchanged x y old) ∙ kept (exchanged x y old) (exchanged_fits x y old small_x small_y small)

-- nothing is flipped where the two are one
pub flipped-same : (x old : ℕ) → flipped x x old ≡ old
flipped-same x old = ap (bit_xor old) (none (eqb old x || eqb old x)) ∙ xor_zero_r old
  where
    none : (b : Bool) → (if b then bit_xor x x else 0) ≡ 0
    none true = xor_self x
    none false = refl

-- where no bit is kept, what is written is left
pub overwritten : (n kept written : ℕ) → kept ≡ 0 → bit_or (bit_and n kept) written ≡ written
overwritten n kept written none = ap (λ k. bit_or (bit_and n k) written) none ∙ ap (λ m. bit_or m written) (and_zero_r n) ∙ or_zero_l written
