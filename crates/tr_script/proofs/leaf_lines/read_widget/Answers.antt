use Rattle.std.proofs.Common.{◌≡◌, None, Option, refl, ap}
use Rattle.std.proofs.Math.Bool.{and-false}
use Rattle.tr_grammar.specs.Forms.{Form, leaf_forms, among, is_second, Solid, Board, Label, Lines, Canvas, Meter, Editor}
use Rattle.tr_words.specs.Answers.{texts}
use Rattle.tr_script.specs.Reading.{leaf_line, word_fault}
use Rattle.std.specs.Prelude.{codes}
use Rattle.tr_script.proofs.FormLemmas.{differs, by_widget}
use Rattle.tr_script.proofs.leaf_lines.read_widget.Goals as goal

pub returns-in_default : goal.returns-in_default
returns-in_default c =
    let words = c.args.words.now in
    let widget = words.widget.now in
    let no_solid = differs widget _ c.in_default.not-solid in
    let no_board = differs widget _ c.in_default.not-board in
    let no_label = differs widget _ c.in_default.not-label in
    let no_lines = differs widget _ c.in_default.not-lines in
    let no_canvas = differs widget _ c.in_default.not-canvas in
    let no_meter = differs widget _ c.in_default.not-meter in
    let no_editor = differs widget _ c.in_default.not-edit in
    let line = leaf_line words.head widget (texts words.values.now) in
    let none : among c.args.reader.now.version leaf_forms line ≡ None =
    rw (no_solid, no_board, no_label, no_lines, no_canvas, no_meter, no_editor, and-false (is_second c.args.reader.now.version)) refl in
    ap (λ (form : Option Form). word_fault c.args.reader.now form line) none

pub returns-in-solid : goal.returns-in-solid
returns-in-solid c =
    let words = c.args.words.now in
    let known = and-false (is_second c.args.reader.now.version) in
    by_widget c.args.reader.now Solid words.head words.widget.now (codes "solid") (texts words.values.now) c.read_solid.result c.in-solid.is (rw known refl)
    c.read_solid.ensures

pub returns-in-board : goal.returns-in-board
returns-in-board c =
    let words = c.args.words.now in
    let known = and-false (is_second c.args.reader.now.version) in
    by_widget c.args.reader.now Board words.head words.widget.now (codes "board") (texts words.values.now) c.read_board.result c.in-board.is (rw known refl)
    c.read_board.ensures

pub returns-in-label : goal.returns-in-label
returns-in-label c =
    let words = c.args.words.now in
    by_widget c.args.reader.now Label words.head words.widget.now (codes "label") (texts words.values.now) c.read_label.result c.in-label.is refl
    c.read_label.ensures

pub returns-in-lines : goal.returns-in-lines
returns-in-lines c =
    let words = c.args.words.now in
    let known = and-false (is_second c.args.reader.now.version) in
    by_widget c.args.reader.now Lines words.head words.widget.now (codes "lines") (texts words.values.now) c.read_typescript.result c.in-lines.is
    (rw known refl)
    c.read_typescript.ensures

pub returns-in-canvas : goal.returns-in-canvas
returns-in-canvas c =
    let words = c.args.words.now in
    let known = and-false (is_second c.args.reader.now.version) in
    by_widget c.args.reader.now Canvas words.head words.widget.now (codes "canvas") (texts words.values.now) c.read_canvas.result c.in-canvas.is (rw known refl)
    c.read_canvas.ensures

pub returns-in-meter : goal.returns-in-meter
returns-in-meter c =
    let words = c.args.words.now in
    let known = and-false (is_second c.args.reader.now.version) in
    by_widget c.args.reader.now Meter words.head words.widget.now (codes "meter") (texts words.values.now) c.read_meter.result c.in-meter.is (rw known refl)
    c.read_meter.ensures

pub returns-in-edit : goal.returns-in-edit
returns-in-edit c =
    let words = c.args.words.now in
    by_widget c.args.reader.now Editor words.head words.widget.now (codes "edit") (texts words.values.now) c.read_editor.result c.in-edit.is refl
    c.read_editor.ensures
