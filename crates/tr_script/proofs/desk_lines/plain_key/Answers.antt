use Rattle.std.proofs.Common.{◌≡◌, ℕ, List, [], ◌∷◌, Ok, sym, subst, ap, ◌∙◌}
use Rattle.std.specs.Prelude.{codes, decimal}
use Rattle.tr_journal.specs.declared.Actor.TheVariants as actors
use Rattle.tr_journal.specs.declared.Step.TheVariants as steps
use Rattle.tr_grammar.specs.declared.Meaning.TheVariants as meanings
use Rattle.tr_grammar.specs.Forms.{Key}
use Rattle.tr_grammar.specs.Words.{words_of}
use Rattle.tr_script.specs.Reading.{Reads}
use Rattle.tr_script.proofs.FormLemmas.{reads_words}
use Rattle.tr_script.proofs.InputLemmas.{key_reads}
use Rattle.tr_script.proofs.desk_lines.plain_key.Goals as goal

pub returns : goal.returns
returns c =
    let reader = c.args.reader.now in
    let time = c.in_ok-time.time in
    let begun = c.in_ok-time.ensures in
    let number = c.in_ok-number.number in
    let code = c.in_ok-code.ensures in
    let words : words_of c.args.values.now ≡ decimal time ∷ decimal number ∷ [] =
    begun.words ∙ ap (λ (ws : List (List ℕ)). decimal time ∷ ws) c.in_ok-number.ensures
    in
    let read = key_reads reader time number begun.low begun.small code.1 begun.here in
    reads_words reader (Key ∷ []) (codes "key" ∷ words_of c.args.values.now) (codes "key" ∷ decimal time ∷ decimal number ∷ [])
    (Ok (meanings.Step actors.Desk (steps.Key time c.in_ok-code.code)))
    (ap (λ (ws : List (List ℕ)). codes "key" ∷ ws) words)
    (subst
    (λ (n : ℕ). Reads reader (Key ∷ []) (codes "key" ∷ decimal time ∷ decimal number ∷ []) (Ok (meanings.Step actors.Desk (steps.Key time n))))
    (sym code.2) read)
