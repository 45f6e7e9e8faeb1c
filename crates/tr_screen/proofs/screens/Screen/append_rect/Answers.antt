use Rattle.std.proofs.Common.{◌<◌, ap, ◌∙◌, rules}
use Rattle.tr_base.specs.Rects.{sides_of}
use Rattle.tr_screen.specs.Pictures.{pixel_of}
use Rattle.tr_screen.specs.Readings.{run_by}
use Rattle.tr_screen.specs.declared.runs.Run.{Run}
use Rattle.tr_screen.proofs.ReadingLemmas.{rect_row, rows_read}
use Rattle.tr_screen.proofs.screens.Screen.append_rect.Goals as goal

pub run-requires : goal.run-requires
run-requires c =
    let row : c.loop-n.n < (sides_of c.args.rect.now).1 = search rules in
    rw c.row_in.ensures (rect_row c.args.self.now.size c.args.rect.now c.loop-n.n c.invariant.ensures row c.requires)

pub loop-n-preserved : goal.loop-n-preserved
loop-n-preserved c =
    let pixel = pixel_of c.args.self.now in
    rows_read pixel c.args.rect.now c.loop-n.n c.args.pixels.now.items c.loop-n.pixels.items c.run.result.now _ c.loop-n.invariant
    (c.run.ensures.pixels ∙ ap (λ (r : Run). run_by pixel r) c.row_in.ensures) c.in_ok-extend_from_slice.ensures.items
