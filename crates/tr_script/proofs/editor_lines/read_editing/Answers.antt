use Rattle.std.proofs.Common.{◌≡◌, None, Option, refl, ap}
use Rattle.std.proofs.Math.Bool.{and-false}
use Rattle.tr_grammar.specs.Forms.{Form, among, is_second, InsertText, EraseByte, SplitLine, GoTo, CopyText, PasteClip}
use Rattle.tr_script.specs.Reading.{act_line, editor_forms, word_fault}
use Rattle.std.specs.Prelude.{codes}
use Rattle.tr_script.proofs.FormLemmas.{differs, by_act}
use Rattle.tr_script.proofs.editor_lines.read_editing.Goals as goal

pub returns-in_default : goal.returns-in_default
returns-in_default c =
    let words = c.args.words.now in
    let version = c.args.reader.now.version in
    let act = words.act.now in
    let no_insert = differs act _ c.in_default.not-insert in
    let no_erase = differs act _ c.in_default.not-erase in
    let no_split = differs act _ c.in_default.not-split in
    let no_goto = differs act _ c.in_default.not-goto in
    let no_copy = differs act _ c.in_default.not-copy in
    let no_paste = differs act _ c.in_default.not-paste in
    let none : among version editor_forms (act_line words) ≡ None =
    rw (no_insert, no_erase, no_split, no_goto, no_copy, no_paste, and-false (is_second version)) refl in
    ap (λ (form : Option Form). word_fault c.args.reader.now form (act_line words)) none

pub returns-in-insert : goal.returns-in-insert
returns-in-insert c =
    let known = and-false (is_second c.args.reader.now.version) in
    by_act c.args.reader.now editor_forms InsertText c.args.words.now (codes "insert") c.read_insert.result c.in-insert.is (rw known refl) c.read_insert.ensures

pub returns-in-erase : goal.returns-in-erase
returns-in-erase c =
    let known = and-false (is_second c.args.reader.now.version) in
    by_act c.args.reader.now editor_forms EraseByte c.args.words.now (codes "erase") c.read_erase.result c.in-erase.is (rw known refl) c.read_erase.ensures

pub returns-in-split : goal.returns-in-split
returns-in-split c =
    let known = and-false (is_second c.args.reader.now.version) in
    by_act c.args.reader.now editor_forms SplitLine c.args.words.now (codes "split") c.read_split_line.result c.in-split.is (rw known refl)
    c.read_split_line.ensures

pub returns-in-goto : goal.returns-in-goto
returns-in-goto c =
    let known = and-false (is_second c.args.reader.now.version) in
    by_act c.args.reader.now editor_forms GoTo c.args.words.now (codes "goto") c.read_goto.result c.in-goto.is (rw known refl) c.read_goto.ensures

pub returns-in-copy : goal.returns-in-copy
returns-in-copy c =
    let known = and-false (is_second c.args.reader.now.version) in
    by_act c.args.reader.now editor_forms CopyText c.args.words.now (codes "copy") c.read_copy.result c.in-copy.is (rw known refl) c.read_copy.ensures

pub returns-in-paste : goal.returns-in-paste
returns-in-paste c =
    let known = and-false (is_second c.args.reader.now.version) in
    by_act c.args.reader.now editor_forms PasteClip c.args.words.now (codes "paste") c.read_paste.result c.in-paste.is (rw known refl) c.read_paste.ensures
