use Rattle.std.proofs.Common.{◌≡◌, ◌+◌, ◌∷◌, ℕ, List, length, take, drop, refl, ap, ◌∙◌, sym, arith}
use Rattle.std.specs.Prelude.{decimal}
use Rattle.std.proofs.lemmas.Str.{IsCharBoundary-after_ascii}
use Rattle.tr_grammar.specs.Words.{words_of}
use Rattle.tr_words.specs.Answers.{BeginsNumber}
use Rattle.tr_words.proofs.NumberCuts.{digits_first, first_of_two, same_first}
use Rattle.tr_words.proofs.Numbers.{spelled, decimal_parts}
use Rattle.tr_words.proofs.values.first_number.Goals as goal

pub range_from-requires : goal.range_from-requires
range_from-requires c = λ some.
    let text = c.args.text.now in
    let found = rw c.as_bytes-bytes.ensures.value at c.in_ok-number.ensures in
    IsCharBoundary-after_ascii text c.in_ok-number.at c.utf8.text found.within (omega (arith, found.space))

pub returns-clause-words : goal.returns-clause-words
returns-clause-words c =
    let text = c.args.text.now in
    let at = c.in_ok-number.at in
    let number = c.in_ok-number.number in
    let found = rw c.as_bytes-bytes.ensures.value at c.in_ok-number.ensures in
    let begins : BeginsNumber (take at text) = grind arith in
    let word : take at text ≡ decimal number =
    spelled (take at text) begins found.digits (omega (arith, found.value, c.if-number-from.false, c.from.ensures)) ∙ ap decimal (sym found.value)
    in
    rw c.range_from.ensures.value
    (digits_first text at found.within found.space found.digits ∙ ap (λ (w : List ℕ). w ∷ words_of (drop (at + 1) text)) word)

pub returns-in_err-number-clause-none : goal.returns-in_err-number-clause-none
returns-in_err-number-clause-none c =
    let text = c.args.text.now in
    let gone = rw c.as_bytes-bytes.ensures.value at c.in_err-number.ensures.none in
    rw c.from_residual.ensures (λ n next later small words.
    let parts = decimal_parts n (decimal n) small refl in
    let cut = first_of_two text (decimal n) next later words in
    gone (length (decimal n)) cut.within parts.short cut.space (rw cut.front parts.digits))

pub returns-then-number-from-clause-none : goal.returns-then-number-from-clause-none
returns-then-number-from-clause-none c = λ n next later small words.
    let text = c.args.text.now in
    let at = c.in_ok-number.at in
    let found = rw c.as_bytes-bytes.ensures.value at c.in_ok-number.ensures in
    let word = same_first text (take at text) (decimal n) _ _ (digits_first text at found.within found.space found.digits) words in
    let parts = decimal_parts n (take at text) small word in
    omega (arith, found.value, parts.value, small, c.if-number-from.true, c.from.ensures)

pub returns-then-not-begins_number-clause-none : goal.returns-then-not-begins_number-clause-none
returns-then-not-begins_number-clause-none c = λ n next later small words.
    let text = c.args.text.now in
    let at = c.in_ok-number.at in
    let found = rw c.as_bytes-bytes.ensures.value at c.in_ok-number.ensures in
    let word = same_first text (take at text) (decimal n) _ _ (digits_first text at found.within found.space found.digits) words in
    let none : BeginsNumber (take at text) → ⊥ = grind arith in
    none (decimal_parts n (take at text) small word).begins
