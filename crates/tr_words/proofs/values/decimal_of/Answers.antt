use Rattle.std.proofs.Common.{ap, sym, ◌∙◌, arith}
use Rattle.std.specs.Prelude.{decimal}
use Rattle.tr_words.specs.Answers.{BeginsNumber}
use Rattle.tr_words.proofs.Numbers.{spelled, decimal_parts}
use Rattle.tr_words.proofs.values.decimal_of.Goals as goal

pub returns-then-digits-gt-MOST_DIGITS : goal.returns-then-digits-gt-MOST_DIGITS
returns-then-digits-gt-MOST_DIGITS c = λ n small text.
    let parts = decimal_parts n c.args.word.now small text in
    omega (arith, parts.short, c.as_bytes-digits.ensures.len)

pub returns-then-not-begins_number : goal.returns-then-not-begins_number
returns-then-not-begins_number c = λ n small text.
    let none : BeginsNumber c.args.word.now → ⊥ = grind arith in
    none (decimal_parts n c.args.word.now small text).begins

pub returns-in_default : goal.returns-in_default
returns-in_default c = λ n small text.
    let none = rw c.as_bytes-digits.ensures.value at c.in_default.ensures in
    none (decimal_parts n c.args.word.now small text).digits

pub returns-then-number-from : goal.returns-then-number-from
returns-then-number-from c = λ n small text.
    let some = rw c.as_bytes-digits.ensures.value at c.in-Some.ensures in
    let parts = decimal_parts n c.args.word.now small text in
    omega (arith, some.1, parts.value, small, c.from.ensures)

pub returns : goal.returns
returns c =
    let some = rw c.as_bytes-digits.ensures.value at c.in-Some.ensures in
    let begins : BeginsNumber c.args.word.now = grind arith in
    spelled c.args.word.now begins some.0 (omega (arith, some.1, c.from.ensures)) ∙ ap decimal (sym some.1)
