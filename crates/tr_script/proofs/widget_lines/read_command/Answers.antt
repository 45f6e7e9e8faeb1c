use Rattle.std.proofs.Common.{refl}
use Rattle.std.proofs.Math.Bool.{and-false}
use Rattle.tr_grammar.specs.Forms.{is_second, SetTint, SetTile, SetShift, SetText, AddLine, Clear, AddRect, AddSwap, AddExchange, Undo, SetBar}
use Rattle.tr_script.specs.Reading.{act_line, command_forms, editor_forms}
use Rattle.std.specs.Prelude.{codes}
use Rattle.tr_script.proofs.FormLemmas.{differs, reads_by, by_act}
use Rattle.tr_script.proofs.widget_lines.read_command.Goals as goal

pub returns-in_default : goal.returns-in_default
returns-in_default c =
    let words = c.args.words.now in
    let version = c.args.reader.now.version in
    let act = words.act.now in
    let no_tint = differs act _ c.in_default.not-tint in
    let no_tile = differs act _ c.in_default.not-tile in
    let no_shift = differs act _ c.in_default.not-shift in
    let no_text = differs act _ c.in_default.not-text in
    let no_line = differs act _ c.in_default.not-line in
    let no_clear = differs act _ c.in_default.not-clear in
    let no_rect = differs act _ c.in_default.not-rect in
    let no_swap = differs act _ c.in_default.not-swap in
    let no_exchange = differs act _ c.in_default.not-exchange in
    let no_undo = differs act _ c.in_default.not-undo in
    let no_bar = differs act _ c.in_default.not-bar in
    reads_by c.args.reader.now command_forms editor_forms (act_line words) c.read_editing.result
    (rw (no_tint, no_tile, no_shift, no_text, no_line, no_clear, no_rect, no_swap, no_exchange, no_undo, no_bar, and-false (is_second version)) refl)
    c.read_editing.ensures

pub returns-in-tint : goal.returns-in-tint
returns-in-tint c =
    let known = and-false (is_second c.args.reader.now.version) in
    by_act c.args.reader.now command_forms SetTint c.args.words.now (codes "tint") c.read_set_tint.result c.in-tint.is (rw known refl) c.read_set_tint.ensures

pub returns-in-tile : goal.returns-in-tile
returns-in-tile c =
    let known = and-false (is_second c.args.reader.now.version) in
    by_act c.args.reader.now command_forms SetTile c.args.words.now (codes "tile") c.read_tile.result c.in-tile.is (rw known refl) c.read_tile.ensures

pub returns-in-shift : goal.returns-in-shift
returns-in-shift c =
    let known = and-false (is_second c.args.reader.now.version) in
    by_act c.args.reader.now command_forms SetShift c.args.words.now (codes "shift") c.read_shift.result c.in-shift.is (rw known refl) c.read_shift.ensures

pub returns-in-text : goal.returns-in-text
returns-in-text c =
    by_act c.args.reader.now command_forms SetText c.args.words.now (codes "text") c.read_text.result c.in-text.is refl c.read_text.ensures

pub returns-in-line : goal.returns-in-line
returns-in-line c =
    by_act c.args.reader.now command_forms AddLine c.args.words.now (codes "line") c.read_line.result c.in-line.is refl c.read_line.ensures

pub returns-in-clear : goal.returns-in-clear
returns-in-clear c =
    let known = and-false (is_second c.args.reader.now.version) in
    by_act c.args.reader.now command_forms Clear c.args.words.now (codes "clear") c.read_clear.result c.in-clear.is (rw known refl) c.read_clear.ensures

pub returns-in-rect : goal.returns-in-rect
returns-in-rect c =
    let known = and-false (is_second c.args.reader.now.version) in
    by_act c.args.reader.now command_forms AddRect c.args.words.now (codes "rect") c.read_rect.result c.in-rect.is (rw known refl) c.read_rect.ensures

pub returns-in-swap : goal.returns-in-swap
returns-in-swap c =
    let known = and-false (is_second c.args.reader.now.version) in
    by_act c.args.reader.now command_forms AddSwap c.args.words.now (codes "swap") c.read_swap.result c.in-swap.is (rw known refl) c.read_swap.ensures

pub returns-in-exchange : goal.returns-in-exchange
returns-in-exchange c =
    let known = and-false (is_second c.args.reader.now.version) in
    by_act c.args.reader.now command_forms AddExchange c.args.words.now (codes "exchange") c.read_exchange.result c.in-exchange.is (rw known refl)
    c.read_exchange.ensures

pub returns-in-undo : goal.returns-in-undo
returns-in-undo c =
    let known = and-false (is_second c.args.reader.now.version) in
    by_act c.args.reader.now command_forms Undo c.args.words.now (codes "undo") c.read_undo.result c.in-undo.is (rw known refl) c.read_undo.ensures

pub returns-in-bar : goal.returns-in-bar
returns-in-bar c =
    let known = and-false (is_second c.args.reader.now.version) in
    by_act c.args.reader.now command_forms SetBar c.args.words.now (codes "bar") c.read_bar.result c.in-bar.is (rw known refl) c.read_bar.ensures
