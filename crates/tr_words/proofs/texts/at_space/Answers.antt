use Rattle.std.proofs.Common.{◌≡◌, ◌+◌, ◌-◌, ◌∷◌, get_or, take, drop, ap, ◌∙◌, arith}
use Rattle.std.proofs.lemmas.Bool.{eqb-true}
use Rattle.std.proofs.lemmas.Str.{IsCharBoundary-after_ascii}
use Rattle.tr_grammar.specs.Words.{words_of}
use Rattle.tr_words.proofs.LineLemmas.{cut_at, uncut}
use Rattle.tr_words.proofs.texts.at_space.Goals as goal

pub range_from-requires : goal.range_from-requires
range_from-requires c = λ some.
    let text = c.args.text.now in
    let at = c.in-Some.at in
    let found = rw c.as_bytes.ensures.value at c.in-Some.ensures in
    let space : get_or text at 0 ≡ 32 = eqb-true _ 32 found.1 in
    IsCharBoundary-after_ascii text at c.utf8.text found.0.high (omega (arith, space))

pub returns-in-Some-clause-words : goal.returns-in-Some-clause-words
returns-in-Some-clause-words c =
    let text = c.args.text.now in
    let at = c.in-Some.at in
    let found = rw c.as_bytes.ensures.value at c.in-Some.ensures in
    let word : take at text ≡ take (at - 0) text = ap (λ n. take n text) (omega arith) in
    rw (c.range.ensures.value, c.range_from.ensures.value)
    (cut_at 32 text at found.0.high found.1 (λ k below. found.0.before k (omega arith) below) ∙ ap (λ w. w ∷ words_of (drop (at + 1) text)) word)

pub returns-in-None-clause-words : goal.returns-in-None-clause-words
returns-in-None-clause-words c =
    let none = rw c.as_bytes.ensures.value at c.in-None.ensures in
    uncut 32 c.args.text.now (λ k within. none k (omega arith) within)
