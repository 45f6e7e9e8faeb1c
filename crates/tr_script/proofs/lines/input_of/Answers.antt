use Rattle.std.proofs.Common.{[], ◌∷◌, Ok, refl}
use Rattle.std.specs.Prelude.{Result, codes}
use Rattle.tr_journal.specs.declared.Actor.TheVariants as actors
use Rattle.tr_grammar.specs.declared.LineRefused.{LineRefused}
use Rattle.tr_grammar.specs.declared.Meaning.{Meaning}
use Rattle.tr_grammar.specs.declared.Meaning.TheVariants as meanings
use Rattle.tr_grammar.specs.Forms.{forms, Mouse, Motion, Key}
use Rattle.tr_grammar.specs.Words.{words_of}
use Rattle.tr_script.specs.Reading.{step_of_input}
use Rattle.tr_script.proofs.FormLemmas.{at_plain, by_first, reads_words}
use Rattle.tr_script.proofs.lines.input_of.Goals as goal

pub returns-in_ok-motion-in-motion : goal.returns-in_ok-motion-in-motion
returns-in_ok-motion-in-motion c =
    let reader = c.args.reader.now in
    let first = c.in_ok-first.first.now in
    let values = words_of c.in_ok-first.values.now in
    let read : Result Meaning LineRefused = Ok (meanings.Step actors.Desk (step_of_input c.in_ok-motion-in-motion.motion)) in
    reads_words reader forms (words_of c.args.line.now) (first ∷ values) read c.in_ok-first.ensures.words
    (by_first reader forms (Motion ∷ []) first (codes "motion") values read c.in-motion.is
    (at_plain reader.version (codes "motion") values refl refl refl) c.in_ok-motion-in-motion.ensures)

pub returns-in_ok-press-in-mouse : goal.returns-in_ok-press-in-mouse
returns-in_ok-press-in-mouse c =
    let reader = c.args.reader.now in
    let first = c.in_ok-first.first.now in
    let values = words_of c.in_ok-first.values.now in
    let read : Result Meaning LineRefused = Ok (meanings.Step actors.Desk (step_of_input c.in_ok-press-in-mouse.press)) in
    reads_words reader forms (words_of c.args.line.now) (first ∷ values) read c.in_ok-first.ensures.words
    (by_first reader forms (Mouse ∷ []) first (codes "mouse") values read c.in-mouse.is
    (at_plain reader.version (codes "mouse") values refl refl refl) c.in_ok-press-in-mouse.ensures)

pub returns-in_ok-stroke-in-key : goal.returns-in_ok-stroke-in-key
returns-in_ok-stroke-in-key c =
    let reader = c.args.reader.now in
    let first = c.in_ok-first.first.now in
    let values = words_of c.in_ok-first.values.now in
    let read : Result Meaning LineRefused = Ok (meanings.Step actors.Desk (step_of_input c.in_ok-stroke-in-key.stroke)) in
    reads_words reader forms (words_of c.args.line.now) (first ∷ values) read c.in_ok-first.ensures.words
    (by_first reader forms (Key ∷ []) first (codes "key") values read c.in-key.is
    (at_plain reader.version (codes "key") values refl refl refl) c.in_ok-stroke-in-key.ensures)
