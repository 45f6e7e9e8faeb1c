use Rattle.std.proofs.Common.{◌<◌, length, get_or, inl, inr, arith}
use Rattle.std.proofs.lemmas.Int.Digits.{digits_more, digits_value_more}
use Rattle.std.proofs.lemmas.Str.Parse.{digit_at}
use Rattle.tr_words.proofs.Numbers.{digit_is, few_digits}
use Rattle.tr_words.proofs.values.digits_number.Goals as goal

pub returns-then-not-is_ascii_digit : goal.returns-then-not-is_ascii_digit
returns-then-not-is_ascii_digit c = λ all.
    let within : c.loop-byte.byte-index < length c.args.digits.now = omega (arith, c.loop-byte-test.true) in
    let digit = digit_at c.args.digits.now c.loop-byte.byte-index all within in
    elim c.if-not-is_ascii_digit.ensures.cases [
      | inl under ↦ omega (arith, digit, under)
      | inr over ↦ omega (arith, digit, over)
    ]

pub overflow_mul-number : goal.overflow_mul-number
overflow_mul-number c =
    let within : c.loop-byte.byte-index < length c.args.digits.now = omega (arith, c.loop-byte-test.true) in
    let few = few_digits c.args.digits.now c.loop-byte.byte-index c.requires within c.loop-byte.invariant.digits in
    omega (arith, few, c.loop-byte.invariant.number)

pub overflow_add-number : goal.overflow_add-number
overflow_add-number c =
    let within : c.loop-byte.byte-index < length c.args.digits.now = omega (arith, c.loop-byte-test.true) in
    let few = few_digits c.args.digits.now c.loop-byte.byte-index c.requires within c.loop-byte.invariant.digits in
    omega (arith, few, c.loop-byte.invariant.number, c.from.ensures, c.if-not-is_ascii_digit.ensures.cases)

pub loop-byte-preserved : goal.loop-byte-preserved
loop-byte-preserved c =
    let bytes = c.args.digits.now in
    let i = c.loop-byte.byte-index in
    let so_far = c.loop-byte.invariant in
    let digit = c.if-not-is_ascii_digit.ensures in
    let within : i < length bytes = omega (arith, c.loop-byte-test.true) in
    let more = digits_value_more 10 bytes i within in
    let value = digit_is (get_or bytes i 0) digit.cases.0 digit.cases.1 in
    record {
      digits = digits_more 10 bytes i within so_far.digits digit.bound;
      number = omega (arith, so_far.number, c.from.ensures, more, value);
    }
