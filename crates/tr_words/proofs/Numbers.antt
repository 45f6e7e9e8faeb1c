-- Numbers in words: a word passes the test of a range just where it is the decimal text of a number in it.
use Rattle.std.proofs.Common.{◌≡◌, ℕ, ◌^◌, ◌<◌, ◌≤◌, ◌-◌, true, false, leb, eqb, ◌&&◌, List, [], ◌∷◌, length, get_or, take, drop, refl, sym, ap, subst, ◌∙◌, inl, inr, arith}
use Prim.Native.Nat.{zero, suc}
use Rattle.std.specs.Prelude.{ℤ, pos, negsuc, neg_ℤ, int_le, decimal, bytes_eq, cond}
use Rattle.std.specs.Fmt.{signed_decimal}
use Rattle.std.specs.Str.Parse.{AllDigits, digits_value}
use Rattle.std.specs.Char.{digit_value}
use Rattle.std.proofs.lemmas.Bool.{and_parts, and_from, leb-true, le-leb, cases_lt, false_from_ne_true, false≢true, ne_eqb}
use Rattle.std.proofs.lemmas.Slice.Eq.{bytes_eq-Decides}
use Rattle.std.proofs.lemmas.Str.Parse.{IsNumeralModel, numerals_by_value, tells_digits, digits_value_short, digit_at}
use Rattle.std.proofs.lemmas.Fmt.{decimal_is_IsNumeral, decimal_digit, first_decimal, decimal_nonempty, decimal-digits_value, length-decimal-le}
use Rattle.std.proofs.lemmas.Bool.Decides.{nat_tests}
use Rattle.std.proofs.lemmas.List.{length-take}
use Rattle.tr_grammar.specs.Words.{nat_of, is_number, int_of, is_signed}
use Rattle.tr_words.specs.Answers.{BeginsNumber}

own : IsNumeralModel (AllDigits 10) (digits_value 10)
own = numerals_by_value (AllDigits 10) tells_digits

-- ---- numbers without a sign

-- the number that a decimal text spells
value_of : (n : ℕ) (w : List ℕ) → n < 2 ^ 64 → w ≡ decimal n → nat_of w ≡ n
unfolding nat_of
value_of n w small e = ap (digits_value 10) e ∙ (decimal_is_IsNumeral n small).1

pub number_value : (n : ℕ) (w : List ℕ) → n < 2 ^ 32 → w ≡ decimal n → n ≡ nat_of w
number_value n w small e = sym (value_of n w (omega arith) e)

-- what the test of a number tells
record InRange (low high : ℕ) (w : List ℕ) : Type 0 where
  text : w ≡ decimal (nat_of w)
  above : low ≤ nat_of w
  below : nat_of w ≤ high

number_parts : (low high : ℕ) (w : List ℕ) → is_number low high w ≡ true → InRange low high w
unfolding is_number
number_parts low high w e =
    let a = and_parts (bytes_eq w (decimal (nat_of w))) (leb low (nat_of w) && leb (nat_of w) high) e in
    let b = and_parts (leb low (nat_of w)) (leb (nat_of w) high) a.1 in
    record { text = (bytes_eq-Decides w (decimal (nat_of w))).0 a.0; above = leb-true _ _ b.0; below = leb-true _ _ b.1 }

number_from : (low high : ℕ) (w : List ℕ) → InRange low high w → is_number low high w ≡ true
unfolding is_number
number_from low high w p =
    and_from _ _ ((bytes_eq-Decides w (decimal (nat_of w))).1 p.text) (and_from _ _ (le-leb _ _ p.above) (le-leb _ _ p.below))

pub number_is : (low high n : ℕ) (w : List ℕ) → low ≤ n → n ≤ high → n < 2 ^ 32 → w ≡ decimal n → is_number low high w ≡ true
number_is low high n w above below small e =
    let v = value_of n w (omega arith) e in
    number_from low high w (record { text = e ∙ ap decimal (sym v); above = omega (arith, v); below = omega (arith, v) })

-- a word that is no decimal text of a number in the range fails the test
number_is_not : (low high : ℕ) (w : List ℕ) → ((n : ℕ) → low ≤ n → n ≤ high → w ≡ decimal n → ⊥) → is_number low high w ≡ false
number_is_not low high w none = false_from_ne_true _ (λ t.
    let p = number_parts low high w t in
    none (nat_of w) p.above p.below p.text)

pub number_below : (low high n : ℕ) (w : List ℕ) → n < low → n < 2 ^ 32 → w ≡ decimal n → is_number low high w ≡ false
number_below low high n w under small e = false_from_ne_true _ (λ t.
    let p = number_parts low high w t in
    omega (arith, p.above, value_of n w (omega arith) e))

pub number_above : (low high n : ℕ) (w : List ℕ) → high < n → n < 2 ^ 32 → w ≡ decimal n → is_number low high w ≡ false
number_above low high n w over small e = false_from_ne_true _ (λ t.
    let p = number_parts low high w t in
    omega (arith, p.below, value_of n w (omega arith) e))

pub number_none : (low high : ℕ) (w : List ℕ) → high < 2 ^ 32 → ((n : ℕ) → n < 2 ^ 32 → w ≡ decimal n → ⊥) → is_number low high w ≡ false
number_none low high w small none = number_is_not low high w (λ n above below e. none n (omega arith) e)

-- what a reader of a number cites
pub ruleset number_rules = (number_is, number_value, number_below, number_above, number_none)

-- ---- numbers that may have a minus

pub begins_with_digit : (n : ℕ) → n < 2 ^ 64 → BeginsNumber (decimal n)
begins_with_digit n small =
    elim (cases_lt n 10) [
      | inl lt ↦ let e = decimal_digit n lt in rw e (omega arith, omega arith, λ _. refl)
      | inr le ↦
          let digit = digit_at (decimal n) 0 (decimal_is_IsNumeral n small).0.1 (decimal_nonempty n small) in
          let first = first_decimal n (omega arith) small in
          (omega arith, omega (arith, digit), λ e. absurd (omega arith))
    ]

-- what the test of a number with a sign tells
record InSigned (low high : ℕ) (w : List ℕ) : Type 0 where
  text : w ≡ signed_decimal (int_of w)
  above : int_le (neg_ℤ (pos low)) (int_of w) ≡ true
  below : int_le (int_of w) (pos high) ≡ true

signed_parts : (low high : ℕ) (w : List ℕ) → is_signed low high w ≡ true → InSigned low high w
unfolding is_signed
signed_parts low high w e =
    let a = and_parts (bytes_eq w (signed_decimal (int_of w))) (int_le (neg_ℤ (pos low)) (int_of w) && int_le (int_of w) (pos high)) e in
    let b = and_parts (int_le (neg_ℤ (pos low)) (int_of w)) (int_le (int_of w) (pos high)) a.1 in
    record { text = (bytes_eq-Decides w (signed_decimal (int_of w))).0 a.0; above = b.0; below = b.1 }

signed_from : (low high : ℕ) (w : List ℕ) → InSigned low high w → is_signed low high w ≡ true
unfolding is_signed
signed_from low high w p = and_from _ _ ((bytes_eq-Decides w (signed_decimal (int_of w))).1 p.text) (and_from _ _ p.above p.below)

-- minus one number is no more than another
minus_le : (low n : ℕ) → int_le (neg_ℤ (pos low)) (pos n) ≡ true
minus_le zero n = le-leb 0 n (omega arith)
minus_le (suc low) n = refl

-- minus a number is no more than minus a smaller one, and the other way round
minus_le_minus : (low n : ℕ) → n ≤ low → int_le (neg_ℤ (pos low)) (neg_ℤ (pos n)) ≡ true
minus_le_minus low zero below = minus_le low 0
minus_le_minus zero (suc n) below = absurd (omega arith)
minus_le_minus (suc low) (suc n) below = le-leb n low (omega arith)

minus_le_back : (low n : ℕ) → int_le (neg_ℤ (pos low)) (negsuc n) ≡ true → suc n ≤ low
minus_le_back zero n e = absurd (false≢true e)
minus_le_back (suc low) n e = let le : n ≤ low = leb-true n low e in omega arith

-- no minus stands first
pub no_first : (b : ℕ) (w : List ℕ) → ((rest : List ℕ) → w ≡ b ∷ rest → ⊥) → 0 < b → eqb (get_or w 0 0) b ≡ false
no_first b [] none some = ne_eqb 0 b (λ e. omega arith)
no_first b (c ∷ cs) none some = ne_eqb c b (λ e. none cs (ap (λ (x : ℕ). x ∷ cs) e))

-- a word without a minus spells no number below 0
plain_value : (w : List ℕ) → eqb (get_or w 0 0) 45 ≡ false → (m : ℕ) × (int_of w ≡ pos m)
unfolding int_of
plain_value w plain = (digits_value 10 (drop (cond (eqb (get_or w 0 0) 43) 1 0) w), rw plain refl)

-- and what it spells is the number of its digits
plain_digits : (w : List ℕ) → BeginsNumber w → int_of w ≡ pos (nat_of w)
unfolding int_of nat_of
plain_digits w begins =
    let no_minus = ne_eqb (get_or w 0 0) 45 (λ e. omega (arith, begins)) in
    let no_plus = ne_eqb (get_or w 0 0) 43 (λ e. omega (arith, begins)) in
    rw (no_minus, no_plus) refl

pub plain_int : (high : ℕ) (w : List ℕ) → high < 2 ^ 16 → is_number 0 high w ≡ true → int_of w ≡ pos (nat_of w)
plain_int high w small e =
    let p = number_parts 0 high w e in
    let d = begins_with_digit (nat_of w) (omega (arith, p.below)) in
    plain_digits w (subst (λ (t : List ℕ). BeginsNumber t) (sym p.text) d)

pub plain_is : (low high : ℕ) (w : List ℕ) → high < 2 ^ 16 → is_number 0 high w ≡ true → is_signed low high w ≡ true
plain_is low high w small e =
    let p = number_parts 0 high w e in
    let v = plain_int high w small e in
    signed_from low high w (record {
      text = p.text ∙ ap signed_decimal (sym v);
      above = ap (int_le (neg_ℤ (pos low))) v ∙ minus_le low (nat_of w);
      below = ap (λ (z : ℤ). int_le z (pos high)) v ∙ le-leb _ _ p.below;
    })

pub plain_is_not : (low high : ℕ) (w : List ℕ) → high < 2 ^ 16 → eqb (get_or w 0 0) 45 ≡ false →
    is_number 0 high w ≡ false → is_signed low high w ≡ false
plain_is_not low high w small plain none = false_from_ne_true _ (λ t.
    let p = signed_parts low high w t in
    let v = plain_value w plain in
    let text : w ≡ decimal v.0 = p.text ∙ ap signed_decimal v.1 in
    let below : v.0 ≤ high = leb-true v.0 high (sym (ap (λ (z : ℤ). int_le z (pos high)) v.1) ∙ p.below) in
    false≢true (sym none ∙ number_is 0 high v.0 w (omega arith) below (omega arith) text))

pub ruleset plain_rules = (plain_is, plain_int, plain_is_not)

-- ---- after a minus

minus_text : (n : ℕ) → 0 < n → signed_decimal (neg_ℤ (pos n)) ≡ 45 ∷ decimal n
minus_text zero some = absurd (omega arith)
minus_text (suc n) some = refl

pub minus_int : (ds : List ℕ) → int_of (45 ∷ ds) ≡ neg_ℤ (pos (nat_of ds))
unfolding int_of nat_of
minus_int ds = refl

pub minus_is : (low high : ℕ) (ds : List ℕ) → is_number 1 low ds ≡ true → is_signed low high (45 ∷ ds) ≡ true
minus_is low high ds e =
    let p = number_parts 1 low ds e in
    let v = minus_int ds in
    let text : 45 ∷ ds ≡ signed_decimal (neg_ℤ (pos (nat_of ds))) =
    ap (λ (t : List ℕ). 45 ∷ t) p.text ∙ sym (minus_text (nat_of ds) p.above)
    in
    signed_from low high (45 ∷ ds) (record {
      text = text ∙ ap signed_decimal (sym v);
      above = ap (int_le (neg_ℤ (pos low))) v ∙ minus_le_minus low (nat_of ds) p.below;
      below = ap (λ (z : ℤ). int_le z (pos high)) v ∙ minus_le_pos (nat_of ds) high;
    })
  where
    minus_le_pos : (n high : ℕ) → int_le (neg_ℤ (pos n)) (pos high) ≡ true
    minus_le_pos zero high = le-leb 0 high (omega arith)
    minus_le_pos (suc n) high = refl

-- a word that begins with a minus is the text of no number from 0 on
no_zero : (ds : List ℕ) → 45 ∷ ds ≡ decimal 0 → ⊥
no_zero ds e =
    let d = begins_with_digit 0 (omega arith) in
    let first : get_or (45 ∷ ds) 0 0 ≡ get_or (decimal 0) 0 0 = ap (λ (t : List ℕ). get_or t 0 0) e in
    omega (arith, d, first)

pub minus_is_not : (low high : ℕ) (ds : List ℕ) → low < 2 ^ 16 → is_number 1 low ds ≡ false → is_signed low high (45 ∷ ds) ≡ false
minus_is_not low high ds small none = false_from_ne_true _ (λ t.
    let p = signed_parts low high (45 ∷ ds) t in
    let v = minus_int ds in
    by_value (nat_of ds) (p.text ∙ ap signed_decimal v) (sym (ap (int_le (neg_ℤ (pos low))) v) ∙ p.above))
  where
    by_value : (n : ℕ) → 45 ∷ ds ≡ signed_decimal (neg_ℤ (pos n)) → int_le (neg_ℤ (pos low)) (neg_ℤ (pos n)) ≡ true → ⊥
    by_value zero text above = no_zero ds text
    by_value (suc n) text above =
        let le = minus_le_back low n above in
        let digits : ds ≡ decimal (suc n) = ap (λ (t : List ℕ). drop 1 t) text in
        false≢true (sym none ∙ number_is 1 low (suc n) ds (omega arith) le (omega arith) digits)

pub ruleset minus_rules = (minus_is, minus_int, minus_is_not)

-- ---- words of digits

pub digit_is : (b : ℕ) → 48 ≤ b → b ≤ 57 → digit_value b ≡ b - 48
digit_is b low high = grind (arith, nat_tests)

-- the number that the digits so far spell has nine digits at most
pub few_digits : (w : List ℕ) (i : ℕ) → length w ≤ 10 → i < length w → AllDigits 10 (take i w) → digits_value 10 (take i w) < 10 ^ 9
few_digits w i short within digits = digits_value_short own (take i w) 9 digits (omega (arith, length-take i w))

-- and at most ten
pub ten_digits : (w : List ℕ) (i : ℕ) → i ≤ 10 → AllDigits 10 (take i w) → digits_value 10 (take i w) < 10 ^ 10
ten_digits w i few digits = digits_value_short own (take i w) 10 digits (omega (arith, length-take i w))

-- a word of digits that begins as a number does is the text of the number that they spell
pub spelled : (w : List ℕ) → BeginsNumber w → AllDigits 10 w → digits_value 10 w < 2 ^ 64 → w ≡ decimal (digits_value 10 w)
spelled [] begins digits small = absurd (omega (arith, begins))
spelled (b ∷ bs) begins digits small = sym (decimal-digits_value own (b ∷ bs) digits (omega arith) begins.2 small)

-- the text of a number
pub record IsDecimal (n : ℕ) (w : List ℕ) : Type 0 where
  pub short : length w ≤ 10
  pub begins : BeginsNumber w
  pub digits : AllDigits 10 w
  pub value : digits_value 10 w ≡ n

pub decimal_parts : (n : ℕ) (w : List ℕ) → n < 2 ^ 32 → w ≡ decimal n → IsDecimal n w
decimal_parts n w small e =
    let numeral = decimal_is_IsNumeral n (omega arith) in
    rw e (record {
      short = length-decimal-le 10 n (omega arith) (omega arith) (omega arith);
      begins = begins_with_digit n (omega arith);
      digits = numeral.0.1;
      value = numeral.1;
    })
