use Rattle.std.proofs.Common.{refl, ◌∷◌, []}
use Rattle.tr_words.specs.Answers.{texts}
use Rattle.tr_script.specs.Reading.{plain_forms, desk_forms}
use Rattle.std.specs.Prelude.{codes}
use Rattle.tr_grammar.specs.Forms.{Version, Screen, Glyph, Put, PutAt, Root, Begin, Sync, Dump, Peek, Journal, Where, Inbox, End}
use Rattle.tr_script.proofs.FormLemmas.{differs, reads_by, by_first, by_others}
use Rattle.tr_script.proofs.lines.read_plain.Goals as goal

pub returns-in_default : goal.returns-in_default
returns-in_default c =
    let first = c.args.first.now in
    let no_trestle = differs first _ c.in_default.not-trestle in
    let no_screen = differs first _ c.in_default.not-screen in
    let no_glyph = differs first _ c.in_default.not-glyph in
    let no_put = differs first _ c.in_default.not-put in
    let no_root = differs first _ c.in_default.not-root in
    let no_begin = differs first _ c.in_default.not-begin in
    let no_sync = differs first _ c.in_default.not-sync in
    let no_dump = differs first _ c.in_default.not-dump in
    let no_peek = differs first _ c.in_default.not-peek in
    let no_journal = differs first _ c.in_default.not-journal in
    let no_where = differs first _ c.in_default.not-where₀ in
    let no_inbox = differs first _ c.in_default.not-inbox in
    let no_end = differs first _ c.in_default.not-end in
    reads_by c.args.reader.now plain_forms desk_forms (first ∷ texts c.args.words.now) c.read_desk-in_default.result
    (rw (
      no_trestle,
      no_screen,
      no_glyph,
      no_put,
      no_root,
      no_begin,
      no_sync,
      no_dump,
      no_peek,
      no_journal,
      no_where,
      no_inbox,
      no_end,
    ) refl) c.read_desk-in_default.ensures

pub returns-in-motion : goal.returns-in-motion
returns-in-motion c =
    by_others c.args.reader.now plain_forms desk_forms c.args.first.now (codes "motion") (texts c.args.words.now) c.read_desk.result c.in-motion.is refl
    c.read_desk.ensures

pub returns-in-mouse : goal.returns-in-mouse
returns-in-mouse c =
    by_others c.args.reader.now plain_forms desk_forms c.args.first.now (codes "mouse") (texts c.args.words.now) c.read_desk-in-mouse.result c.in-mouse.is refl
    c.read_desk-in-mouse.ensures

pub returns-in-key : goal.returns-in-key
returns-in-key c =
    by_others c.args.reader.now plain_forms desk_forms c.args.first.now (codes "key") (texts c.args.words.now) c.read_desk-in-key.result c.in-key.is refl
    c.read_desk-in-key.ensures

pub returns-in-move : goal.returns-in-move
returns-in-move c =
    by_others c.args.reader.now plain_forms desk_forms c.args.first.now (codes "move") (texts c.args.words.now) c.read_desk-in-move.result c.in-move.is refl
    c.read_desk-in-move.ensures

pub returns-in-lift : goal.returns-in-lift
returns-in-lift c =
    by_others c.args.reader.now plain_forms desk_forms c.args.first.now (codes "lift") (texts c.args.words.now) c.read_desk-in-lift.result c.in-lift.is refl
    c.read_desk-in-lift.ensures

pub returns-in-trestle : goal.returns-in-trestle
returns-in-trestle c =
    by_first c.args.reader.now plain_forms (Version ∷ []) c.args.first.now (codes "trestle") (texts c.args.words.now) c.read_version.result c.in-trestle.is refl
    c.read_version.ensures

pub returns-in-screen : goal.returns-in-screen
returns-in-screen c =
    by_first c.args.reader.now plain_forms (Screen ∷ []) c.args.first.now (codes "screen") (texts c.args.words.now) c.read_screen.result c.in-screen.is refl
    c.read_screen.ensures

pub returns-in-glyph : goal.returns-in-glyph
returns-in-glyph c =
    by_first c.args.reader.now plain_forms (Glyph ∷ []) c.args.first.now (codes "glyph") (texts c.args.words.now) c.read_glyph.result c.in-glyph.is refl
    c.read_glyph.ensures

pub returns-in-put : goal.returns-in-put
returns-in-put c =
    by_first c.args.reader.now plain_forms (Put ∷ PutAt ∷ []) c.args.first.now (codes "put") (texts c.args.words.now) c.read_put.result c.in-put.is refl
    c.read_put.ensures

pub returns-in-root : goal.returns-in-root
returns-in-root c =
    by_first c.args.reader.now plain_forms (Root ∷ []) c.args.first.now (codes "root") (texts c.args.words.now) c.read_root.result c.in-root.is refl
    c.read_root.ensures

pub returns-in-begin : goal.returns-in-begin
returns-in-begin c =
    by_first c.args.reader.now plain_forms (Begin ∷ []) c.args.first.now (codes "begin") (texts c.args.words.now) c.read_begin.result c.in-begin.is refl
    c.read_begin.ensures

pub returns-in-sync : goal.returns-in-sync
returns-in-sync c =
    by_first c.args.reader.now plain_forms (Sync ∷ []) c.args.first.now (codes "sync") (texts c.args.words.now) c.read_sync.result c.in-sync.is refl
    c.read_sync.ensures

pub returns-in-dump : goal.returns-in-dump
returns-in-dump c =
    by_first c.args.reader.now plain_forms (Dump ∷ []) c.args.first.now (codes "dump") (texts c.args.words.now) c.read_dump.result c.in-dump.is refl
    c.read_dump.ensures

pub returns-in-peek : goal.returns-in-peek
returns-in-peek c =
    by_first c.args.reader.now plain_forms (Peek ∷ []) c.args.first.now (codes "peek") (texts c.args.words.now) c.read_peek.result c.in-peek.is refl
    c.read_peek.ensures

pub returns-in-journal : goal.returns-in-journal
returns-in-journal c =
    by_first c.args.reader.now plain_forms (Journal ∷ []) c.args.first.now (codes "journal") (texts c.args.words.now) c.read_journal.result c.in-journal.is refl
    c.read_journal.ensures

pub returns-in-where : goal.returns-in-where
returns-in-where c =
    by_first c.args.reader.now plain_forms (Where ∷ []) c.args.first.now (codes "where") (texts c.args.words.now) c.read_where.result c.in-where.is refl
    c.read_where.ensures

pub returns-in-inbox : goal.returns-in-inbox
returns-in-inbox c =
    by_first c.args.reader.now plain_forms (Inbox ∷ []) c.args.first.now (codes "inbox") (texts c.args.words.now) c.read_inbox.result c.in-inbox.is refl
    c.read_inbox.ensures

pub returns-in-end : goal.returns-in-end
returns-in-end c =
    by_first c.args.reader.now plain_forms (End ∷ []) c.args.first.now (codes "end") (texts c.args.words.now) c.read_end.result c.in-end.is refl
    c.read_end.ensures
