use Rattle.std.proofs.Common.{◌≡◌, ◌<◌, ◌≤◌, length, get_or, ap, ◌∙◌, inl, inr, arith}
use Rattle.std.specs.Prelude.{slice_index}
use Rattle.std.proofs.lemmas.Bool.{cases_lt}
use Rattle.std.proofs.lemmas.Int.Digits.{digits_more, digits_value_more}
use Rattle.tr_words.proofs.NumberCuts.{not_within, digit_within}
use Rattle.tr_words.proofs.Numbers.{digit_is, ten_digits}
use Rattle.tr_words.proofs.values.digits_to_space.Goals as goal
use Rattle.tr_words.proofs.values.digits_to_space.Goals.{then-at-ge-MOST_DIGITS-via-then-at-ge-MOST_DIGITS, then-at-ge-MOST_DIGITS-via-else-at-ge-MOST_DIGITS+then-not-is_ascii_digit}

pub overflow_mul-number : goal.overflow_mul-number
overflow_mul-number c =
    let so_far = c.loop-at.invariant in
    let few = ten_digits c.args.text.now c.loop-at.at so_far.few so_far.digits in
    omega (arith, few, so_far.number)

pub overflow_add-number : goal.overflow_add-number
overflow_add-number c =
    let so_far = c.loop-at.invariant in
    let few = ten_digits c.args.text.now c.loop-at.at so_far.few so_far.digits in
    omega (arith, few, so_far.number, c.from.ensures, c.if-not-is_ascii_digit.ensures.cases)

pub loop-at-preserved : goal.loop-at-preserved
loop-at-preserved c =
    let bytes = c.args.text.now in
    let i = c.loop-at.at in
    let so_far = c.loop-at.invariant in
    let digit = c.if-not-is_ascii_digit.ensures in
    let within : i < length bytes = omega (arith, c.loop-at-test.true) in
    let more = digits_value_more 10 bytes i within in
    let value = digit_is (get_or bytes i 0) digit.cases.0 digit.cases.1 in
    record {
      few = omega (arith, c.if-at-ge-MOST_DIGITS.false);
      digits = digits_more 10 bytes i within so_far.digits digit.bound;
      number = omega (arith, so_far.number, c.from.ensures, more, value);
    }

pub returns-then-at-ge-MOST_DIGITS-clause-none : goal.returns-then-at-ge-MOST_DIGITS-clause-none
returns-then-at-ge-MOST_DIGITS-clause-none c = λ at within short space digits.
    let text = c.args.text.now in
    let i = c.loop-at.at in
    let here : i < length text = omega (arith, c.loop-at-test.true) in
    elim (cases_lt at i) [
      | inl below ↦ not_within text i at c.loop-at.invariant.digits (omega (arith, here)) below space
      | inr from ↦
          elim (cases_lt i at) [
            | inl behind ↦
                let digit = digit_within text at i digits (omega (arith, within)) behind in
                elim c.then-at-ge-MOST_DIGITS.branch [
                  | then-at-ge-MOST_DIGITS-via-then-at-ge-MOST_DIGITS w ↦ omega (arith, w.if-at-ge-MOST_DIGITS.true, behind, short)
                  | then-at-ge-MOST_DIGITS-via-else-at-ge-MOST_DIGITS+then-not-is_ascii_digit w ↦
                      elim w.if-not-is_ascii_digit.ensures.cases [
                        | inl under ↦ omega (arith, digit, under)
                        | inr over ↦ omega (arith, digit, over)
                      ]
                ]
            | inr until ↦
                let same : i ≡ at = omega (arith, from, until) in
                let byte : slice_index text i ≡ 32 = ap (slice_index text) same ∙ space in
                omega (arith, byte, c.if-byte-eq32.false)
          ]
    ]

pub returns-clause-none : goal.returns-clause-none
returns-clause-none c = λ at within short space digits.
    let text = c.args.text.now in
    let i = c.loop-at.at in
    not_within text i at c.loop-at.invariant.digits (omega arith) (omega (arith, within, c.loop-at-test.false)) space
