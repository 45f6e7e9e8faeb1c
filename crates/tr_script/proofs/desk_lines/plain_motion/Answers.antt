use Rattle.std.proofs.Common.{◌≡◌, ℕ, List, [], ◌∷◌, Ok, sym, subst, ap, ◌∙◌}
use Rattle.std.specs.Prelude.{codes, decimal}
use Rattle.tr_base.specs.declared.Point.{Point}
use Rattle.tr_journal.specs.declared.Actor.TheVariants as actors
use Rattle.tr_journal.specs.declared.Step.TheVariants as steps
use Rattle.tr_grammar.specs.declared.Meaning.TheVariants as meanings
use Rattle.tr_grammar.specs.Forms.{Motion}
use Rattle.tr_grammar.specs.Words.{words_of}
use Rattle.tr_script.specs.Reading.{Reads}
use Rattle.tr_script.proofs.FormLemmas.{reads_words}
use Rattle.tr_script.proofs.InputLemmas.{motion_reads}
use Rattle.tr_script.proofs.desk_lines.plain_motion.Goals as goal

pub returns : goal.returns
returns c =
    let reader = c.args.reader.now in
    let time = c.in_ok-time.time in
    let begun = c.in_ok-time.ensures in
    let h = c.in_ok-h.h in
    let v = c.in_ok-v.v in
    let place = c.in_ok-at.ensures in
    let rest : words_of c.in_ok-time.rest.now ≡ decimal h ∷ decimal v ∷ [] =
    c.in_ok-h.ensures.words ∙ ap (λ (ws : List (List ℕ)). decimal h ∷ ws) c.in_ok-v.ensures
    in
    let words : words_of c.args.values.now ≡ decimal time ∷ decimal h ∷ decimal v ∷ [] =
    begun.words ∙ ap (λ (ws : List (List ℕ)). decimal time ∷ ws) rest
    in
    let read = motion_reads reader time h v begun.low begun.small place.0 place.1 begun.here in
    reads_words reader (Motion ∷ []) (codes "motion" ∷ words_of c.args.values.now) (codes "motion" ∷ decimal time ∷ decimal h ∷ decimal v ∷ [])
    (Ok (meanings.Step actors.Desk (steps.Motion time c.in_ok-at.at)))
    (ap (λ (ws : List (List ℕ)). codes "motion" ∷ ws) words)
    (subst
    (λ (at : Point).
    Reads reader (Motion ∷ []) (codes "motion" ∷ decimal time ∷ decimal h ∷ decimal v ∷ [])
    (Ok (meanings.Step actors.Desk (steps.Motion time at))))
    (sym place.2) read)
