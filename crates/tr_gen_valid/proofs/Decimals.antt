-- The decimal texts of numbers are words, and pass the tests of the ranges that the numbers are in.
use Rattle.std.proofs.Common.{◌≡◌, ℕ, suc, ◌+◌, ◌%◌, ◌^◌, ◌<◌, ◌≤◌, true, ◌&&◌, leb, List, [], ◌∷◌, ◌++◌, get_or, ℤ, pos, negsuc, neg_ℤ, refl, sym, ap, ◌∙◌, subst, le-leb, ne_eqb, arith}
use Rattle.std.specs.Prelude.{decimal, bytes_eq, int_le, unsigned_abs}
use Rattle.std.specs.Fmt.{signed_decimal}
use Rattle.std.specs.List.{list_all}
use Rattle.std.specs.Str.Parse.{digits_value}
use Rattle.std.proofs.lemmas.Bool.{and_from}
use Rattle.std.proofs.lemmas.Fmt.{decimal_by_steps, decimal_is_IsNumeral, length-decimal-le}
use Rattle.std.proofs.lemmas.List.Folds.{list_all-append}
use Rattle.std.proofs.lemmas.Slice.Eq.{bytes_eq-Decides}
use Rattle.std.proofs.lemmas.Str.Parse.{digit_at}
use Rattle.tr_grammar.specs.Words.{nat_of, is_number, int_of, is_signed}
use Rattle.tr_gen_valid.proofs.Cutting.{is_word_byte, is_word}

-- ---- words

decimal_bytes : (n : ℕ) → n < 2 ^ 64 → list_all is_word_byte (decimal n) ≡ true
decimal_bytes n small = decimal_by_steps (λ (n : ℕ) (ds : List ℕ). list_all is_word_byte ds ≡ true) digit more n small
  where
    digit : (n : ℕ) → n < 10 → list_all is_word_byte ((48 + n) ∷ []) ≡ true
    digit n h = and_from _ _ (and_from _ _ (le-leb 33 (48 + n) (omega arith)) (le-leb (48 + n) 126 (omega arith))) refl

    more : (n : ℕ) (ds : List ℕ) → 10 ≤ n → list_all is_word_byte ds ≡ true → list_all is_word_byte (ds ++ (48 + n % 10) ∷ []) ≡ true
    more n ds h e = list_all-append is_word_byte ds ((48 + n % 10) ∷ []) ∙ and_from _ _ e (digit (n % 10) (omega arith))

pub decimal_is_word : (n : ℕ) → n < 2 ^ 32 → is_word (decimal n) ≡ true
decimal_is_word n small =
    and_from _ _ (le-leb _ 100 (omega (arith, length-decimal-le 10 n (omega arith) (omega arith) (omega arith)))) (decimal_bytes n (omega arith))

pub signed_is_word : (z : ℤ) → unsigned_abs z < 2 ^ 32 → is_word (signed_decimal z) ≡ true
signed_is_word (pos n) small = decimal_is_word n small
signed_is_word (negsuc n) small =
    and_from _ _
    (le-leb _ 100 (omega (arith, length-decimal-le 10 (suc n) (omega arith) (omega arith) (omega arith)))) (decimal_bytes (suc n) (omega arith))

-- ---- numbers without a sign

value_of : (n : ℕ) → n < 2 ^ 32 → digits_value 10 (decimal n) ≡ n
value_of n small = (decimal_is_IsNumeral n (omega arith)).1

pub is_number-decimal : (low high n : ℕ) → low ≤ n → n ≤ high → n < 2 ^ 32 → is_number low high (decimal n) ≡ true
unfolding is_number nat_of
is_number-decimal low high n above below small =
    subst (λ (m : ℕ). (bytes_eq (decimal n) (decimal m) && (leb low m && leb m high)) ≡ true) (sym (value_of n small))
    (and_from _ _ ((bytes_eq-Decides (decimal n) (decimal n)).1 refl) (and_from _ _ (le-leb low n above) (le-leb n high below)))

-- ---- numbers that may have a minus

first_is_digit : (n : ℕ) → n < 2 ^ 32 → (48 ≤ get_or (decimal n) 0 0) × (get_or (decimal n) 0 0 ≤ 57)
first_is_digit n small =
    let numeral = (decimal_is_IsNumeral n (omega arith)).0 in
    digit_at (decimal n) 0 numeral.1 numeral.0

int_of-signed : (z : ℤ) → unsigned_abs z < 2 ^ 32 → int_of (signed_decimal z) ≡ z
unfolding int_of
int_of-signed (pos n) small =
    let digit = first_is_digit n small in
    let no_minus = ne_eqb (get_or (decimal n) 0 0) 45 (λ e. omega arith) in
    let no_plus = ne_eqb (get_or (decimal n) 0 0) 43 (λ e. omega arith) in
    rw (no_minus, no_plus) (ap pos (value_of n small))
int_of-signed (negsuc n) small = ap (λ m. neg_ℤ (pos m)) (value_of (suc n) small)

pub is_signed-decimal : (low high : ℕ) (z : ℤ) → unsigned_abs z < 2 ^ 32 → int_le (neg_ℤ (pos low)) z ≡ true → int_le z (pos high) ≡ true →
    is_signed low high (signed_decimal z) ≡ true
unfolding is_signed
is_signed-decimal low high z small above below =
    subst (λ (y : ℤ). (bytes_eq (signed_decimal z) (signed_decimal y) && (int_le (neg_ℤ (pos low)) y && int_le y (pos high))) ≡ true)
    (sym (int_of-signed z small))
    (and_from _ _ ((bytes_eq-Decides (signed_decimal z) (signed_decimal z)).1 refl) (and_from _ _ above below))
