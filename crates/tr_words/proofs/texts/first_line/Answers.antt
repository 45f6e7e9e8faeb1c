use Rattle.std.proofs.Common.{◌≡◌, ◌+◌, ◌-◌, [], ◌∷◌, length, take, drop, ap, ◌∙◌, sym, arith}
use Rattle.std.proofs.lemmas.Grind.{common_steps}
use Rattle.tr_grammar.specs.Texts.{lines_of}
use Rattle.tr_words.proofs.LineLemmas.{first_of_lines, only_line}
use Rattle.tr_words.proofs.texts.first_line.Goals as goal

pub returns-in-Some-clause-lines : goal.returns-in-Some-clause-lines
returns-in-Some-clause-lines c =
    let bytes = c.args.bytes.now in
    let at = c.in-Some.at in
    let found = c.in-Some.ensures in
    let rest : take (length bytes - (at + 1)) (drop (at + 1) bytes) ≡ drop (at + 1) bytes = grind (arith, common_steps) in
    first_of_lines bytes at found.0.high found.1 (λ k below. found.0.before k (omega arith) below)
    ∙ ap (λ xs. take at bytes ∷ lines_of xs) (sym rest)

pub returns-in-None-clause-lines : goal.returns-in-None-clause-lines
returns-in-None-clause-lines c =
    let bytes = c.args.bytes.now in
    let rest : take (length bytes - length bytes) (drop (length bytes) bytes) ≡ [] = grind (arith, common_steps) in
    only_line bytes c.requires (λ k within. c.in-None.ensures k (omega arith) within) ∙ ap (λ xs. bytes ∷ lines_of xs) (sym rest)
