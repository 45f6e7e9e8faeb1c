-- Facts of tests that std has under a condition only, for the crates above.
use Rattle.std.proofs.Common.{◌≡◌, Bool, true, false, not, ◌&&◌, ◌||◌, ℕ, ◌==◌, refl, arith, zero, suc, ◌<◌}
use Rattle.std.proofs.lemmas.Bool.Decides.{nat_tests}

pub and_false : (b : Bool) → (b && false) ≡ false
and_false true = refl
and_false false = refl

pub and_true : (b : Bool) → (b && true) ≡ b
and_true true = refl
and_true false = refl

pub or_true : (b : Bool) → (b || true) ≡ true
or_true true = refl
or_true false = refl

pub or_false : (b : Bool) → (b || false) ≡ b
or_false true = refl
or_false false = refl

pub or_swap : (a b : Bool) → a || b ≡ b || a
or_swap true true = refl
or_swap true false = refl
or_swap false true = refl
or_swap false false = refl

pub not_not : (b : Bool) → not (not b) ≡ b
not_not true = refl
not_not false = refl

pub same_number : (n : ℕ) → (n == n) ≡ true
same_number n = grind (arith, nat_tests)

pub from_false-true : {X : Type 0} → false ≡ true → X
from_false-true h = absurd cc

pub from_or_false : (b : Bool) → (b || false) ≡ true → b ≡ true
from_or_false true h = refl
from_or_false false h = h

-- a number, by the test whether it isn't 0
pub zero_by_test : (n : ℕ) → not (n == 0) ≡ false → n ≡ 0
zero_by_test zero h = refl
zero_by_test (suc n) h = grind (arith, nat_tests, h)

pub some_by_test : (n : ℕ) → not (n == 0) ≡ true → 0 < n
some_by_test zero h = grind (arith, nat_tests, h)
some_by_test (suc n) h = omega arith
