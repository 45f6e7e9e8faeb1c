use Rattle.std.proofs.Common.{ℕ, List, ◌-◌, ◌∷◌, ◌∙◌, ap, drop, length, lit<, take}
use Rattle.std.proofs.lemmas.Str.Pattern.{strip_prefix_char}
use Rattle.tr_words.specs.Answers.{texts}
use Rattle.tr_script.proofs.FormLemmas.{one_word, no_word}
use Rattle.tr_script.proofs.lines.take_words.Goals as goal

pub take_first-requires-clause-words : goal.take_first-requires-clause-words
take_first-requires-clause-words c = one_word c.args.words.now no_word c.in-len1-up.len_at_least

pub take_act-requires-clause-words : goal.take_act-requires-clause-words
take_act-requires-clause-words c =
    let words = c.args.words.now in
    let stripped = strip_prefix_char 64 _ c.strip_prefix.result c.strip_prefix.ensures.cases (lit< tt) in
    let is_act = rw c.in-Some.is at stripped in
    one_word words no_word c.in-len1-up.len_at_least
    ∙ ap (λ (w : List ℕ). w ∷ texts (take (length words - 1) (drop 1 words))) is_act
