use Rattle.std.proofs.Common.{◌≡◌, ℕ, List, [], ◌∷◌, Ok, subst, ap, ◌∙◌}
use Rattle.std.specs.Prelude.{bytes_eq, codes, decimal}
use Rattle.tr_journal.specs.declared.Actor.TheVariants as actors
use Rattle.tr_journal.specs.declared.Step.{Step}
use Rattle.tr_journal.specs.declared.Step.TheVariants as steps
use Rattle.tr_grammar.specs.declared.Meaning.TheVariants as meanings
use Rattle.tr_grammar.specs.Forms.{Mouse}
use Rattle.tr_grammar.specs.Words.{words_of}
use Rattle.tr_widget.specs.declared.WidgetCmd.{WidgetCmd}
use Rattle.tr_script.specs.Reading.{Reads}
use Rattle.tr_script.proofs.FormLemmas.{reads_words}
use Rattle.tr_script.proofs.InputLemmas.{mouse_reads}
use Rattle.tr_script.proofs.desk_lines.plain_mouse.Goals as goal

pub returns : goal.returns
returns c =
    let reader = c.args.reader.now in
    let time = c.in_ok-time.time in
    let begun = c.in_ok-time.ensures in
    let way = c.in_ok-way.way.now in
    let down = c.in_ok-down.ensures in
    let number = c.in_ok-number.number in
    let button = c.in_ok-button.ensures in
    let rest : words_of c.in_ok-time.rest.now ≡ way ∷ decimal number ∷ [] =
    c.in_ok-way.ensures.words ∙ ap (λ (ws : List (List ℕ)). way ∷ ws) c.in_ok-number.ensures
    in
    let words : words_of c.args.values.now ≡ decimal time ∷ way ∷ decimal number ∷ [] =
    begun.words ∙ ap (λ (ws : List (List ℕ)). decimal time ∷ ws) rest
    in
    let made : Step WidgetCmd = steps.Mouse time c.in_ok-button.button c.in_ok-down.down in
    let same : steps.Mouse time number (bytes_eq way (codes "down")) ≡ made = cc (button.2, down.1) in
    let read = mouse_reads reader time number way begun.low begun.small button.0 button.1 down.0 begun.here in
    reads_words reader (Mouse ∷ []) (codes "mouse" ∷ words_of c.args.values.now) (codes "mouse" ∷ decimal time ∷ way ∷ decimal number ∷ [])
    (Ok (meanings.Step actors.Desk made))
    (ap (λ (ws : List (List ℕ)). codes "mouse" ∷ ws) words)
    (subst
    (λ (step : Step WidgetCmd).
    Reads reader (Mouse ∷ []) (codes "mouse" ∷ decimal time ∷ way ∷ decimal number ∷ []) (Ok (meanings.Step actors.Desk step)))
    same read)
