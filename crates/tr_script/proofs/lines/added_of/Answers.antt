use Rattle.std.proofs.Common.{◌≡◌, ℕ, List, ◌∷◌, ◌∙◌, ap, lit<}
use Rattle.std.proofs.lemmas.Str.Pattern.{strip_prefix_char}
use Rattle.tr_grammar.specs.Words.{words_of}
use Rattle.tr_script.proofs.lines.added_of.Goals as goal

pub returns-in-line-clause-words : goal.returns-in-line-clause-words
returns-in-line-clause-words c =
    let first = c.in_ok-first.first.now in
    let values = words_of c.in_ok-first.values.now in
    let leaf = c.in_ok-leaf.leaf.now in
    let added = words_of c.in_ok-act.added.now in
    let stripped = strip_prefix_char 64 first c.strip_prefix.result c.strip_prefix.ensures.cases (lit< tt) in
    let is_act : first ≡ 64 ∷ leaf = rw c.in_ok-leaf.was at stripped in
    c.in_ok-first.ensures.words
    ∙ ap (λ (w : List ℕ). w ∷ values) is_act
    ∙ ap (λ (ws : List (List ℕ)). (64 ∷ leaf) ∷ ws) c.in_ok-act.ensures.words
    ∙ ap (λ (w : List ℕ). (64 ∷ leaf) ∷ w ∷ added) c.in-line.is
