use Rattle.std.proofs.Common.{length, refl}
use Rattle.tr_paint.specs.Paints.{text_bit}
use Rattle.tr_screen.specs.Pictures.{pixel_of}
use Rattle.tr_exec.proofs.CellLemmas.{first_on, last_on, visible_cells}
use Rattle.tr_exec.proofs.PaintingLemmas.{repaints_as, two_colours}
use Rattle.tr_exec.proofs.texts.write_text.Goals as goal

pub write_lettering-requires-clause-first : goal.write_lettering-requires-clause-first
write_lettering-requires-clause-first c =
    let text = c.args.text.now in
    let told = c.is_all_visible.ensures in
    let is = c.if-is_all_visible.true in
    first_on c.args.visible.now text.area text.at (length text.text.now) (told.some is) (told.cells is) (told.visible is)
    c.args.screen.now.size c.requires.on

pub write_lettering-requires-clause-last : goal.write_lettering-requires-clause-last
write_lettering-requires-clause-last c =
    let text = c.args.text.now in
    let told = c.is_all_visible.ensures in
    let is = c.if-is_all_visible.true in
    last_on c.args.visible.now text.area text.at (length text.text.now) (told.some is) (told.cells is) (told.visible is)
    c.args.screen.now.size c.requires.on

pub returns-then-is_all_visible : goal.returns-then-is_all_visible
returns-then-is_all_visible c =
    let text = c.args.text.now in
    let kind = c.args.env.now.kind in
    let font = c.args.env.now.font.now in
    let old = c.args.screen.now in
    let told = c.is_all_visible.ensures in
    let is = c.if-is_all_visible.true in
    repaints_as _ _ _ _ old c.write_lettering.new.self (rw (c.eff.ensures, c.eff-2.ensures) at c.write_lettering.ensures)
    (visible_cells c.args.visible.now text.area text.at (length text.text.now) (told.some is) (told.cells is) (told.visible is))
    (λ p. two_colours kind text.ops (text_bit font text.at text.text.now p) (pixel_of old p) c.requires.one c.requires.zero)

pub returns-else-is_all_visible : goal.returns-else-is_all_visible
returns-else-is_all_visible c =
    let text = c.args.text.now in
    let kind = c.args.env.now.kind in
    let font = c.args.env.now.font.now in
    let old = c.args.screen.now in
    repaints_as _ _ _ _ old c.paint_within.new.screen (rw (c.eff.ensures, c.eff-2.ensures) at c.paint_within.ensures)
    (λ p. refl)
    (λ p. two_colours kind text.ops (text_bit font text.at text.text.now p) (pixel_of old p) c.requires.one c.requires.zero)
