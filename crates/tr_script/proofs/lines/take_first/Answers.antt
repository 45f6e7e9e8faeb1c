use Rattle.std.proofs.Common.{[], ◌∷◌, refl, ◌∙◌}
use Rattle.std.specs.Prelude.{codes}
use Rattle.tr_grammar.specs.Forms.{forms, Mouse, Motion, Key, Move, Lift}
use Rattle.tr_words.specs.Answers.{texts}
use Rattle.tr_script.proofs.FormLemmas.{reads_words, by_first, at_plain}
use Rattle.tr_script.proofs.lines.take_first.Goals as goal

pub read_first-read-requires-clause-line : goal.read_first-read-requires-clause-line
read_first-read-requires-clause-line c = c.requires.line ∙ c.requires.words

pub take_read-requires-in_default : goal.take_read-requires-in_default
take_read-requires-in_default c =
    reads_words c.args.reader.now forms (texts c.args.words.now) (c.args.first.now ∷ texts c.args.rest.now) c.read_first-read.result c.requires.words
    c.read_first-read.ensures

pub take_read-requires : goal.take_read-requires
take_read-requires c =
    let reader = c.args.reader.now in
    let first = c.args.first.now in
    let rest = texts c.args.rest.now in
    reads_words reader forms (texts c.args.words.now) (first ∷ rest) c.read_motion-read.result c.requires.words
    (by_first reader forms (Motion ∷ []) first (codes "motion") rest c.read_motion-read.result c.in-motion.is
    (at_plain reader.version (codes "motion") rest refl refl refl) c.read_motion-read.ensures)

pub take_read-requires-in-mouse : goal.take_read-requires-in-mouse
take_read-requires-in-mouse c =
    let reader = c.args.reader.now in
    let first = c.args.first.now in
    let rest = texts c.args.rest.now in
    reads_words reader forms (texts c.args.words.now) (first ∷ rest) c.read_mouse-read.result c.requires.words
    (by_first reader forms (Mouse ∷ []) first (codes "mouse") rest c.read_mouse-read.result c.in-mouse.is
    (at_plain reader.version (codes "mouse") rest refl refl refl) c.read_mouse-read.ensures)

pub take_read-requires-in-key : goal.take_read-requires-in-key
take_read-requires-in-key c =
    let reader = c.args.reader.now in
    let first = c.args.first.now in
    let rest = texts c.args.rest.now in
    reads_words reader forms (texts c.args.words.now) (first ∷ rest) c.read_key-read.result c.requires.words
    (by_first reader forms (Key ∷ []) first (codes "key") rest c.read_key-read.result c.in-key.is
    (at_plain reader.version (codes "key") rest refl refl refl) c.read_key-read.ensures)

pub take_read-requires-in-move : goal.take_read-requires-in-move
take_read-requires-in-move c =
    let reader = c.args.reader.now in
    let first = c.args.first.now in
    let rest = texts c.args.rest.now in
    reads_words reader forms (texts c.args.words.now) (first ∷ rest) c.read_move-read.result c.requires.words
    (by_first reader forms (Move ∷ []) first (codes "move") rest c.read_move-read.result c.in-move.is
    (at_plain reader.version (codes "move") rest refl refl refl) c.read_move-read.ensures)

pub take_read-requires-in-lift : goal.take_read-requires-in-lift
take_read-requires-in-lift c =
    let reader = c.args.reader.now in
    let first = c.args.first.now in
    let rest = texts c.args.rest.now in
    reads_words reader forms (texts c.args.words.now) (first ∷ rest) c.read_lift-read.result c.requires.words
    (by_first reader forms (Lift ∷ []) first (codes "lift") rest c.read_lift-read.result c.in-lift.is
    (at_plain reader.version (codes "lift") rest refl refl refl) c.read_lift-read.ensures)
