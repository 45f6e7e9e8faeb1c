use Rattle.std.proofs.Common.{◌≡◌, ◌+◌, arith}
use Rattle.std.proofs.Math.Bool.{and_assoc}
use Rattle.tr_base.specs.Rects.{has_point}
use Rattle.tr_screen.specs.Runs.{in_rows}
use Rattle.tr_screen.proofs.Repainting.{repaints_same}
use Rattle.tr_repair.specs.Walks.{in_columns, in_row}
use Rattle.tr_exec.specs.Walks.{in_area}
use Rattle.tr_exec.proofs.PaintLemmas.{on_sized, row_of_band, row_on, rows_paint}
use Rattle.tr_exec.proofs.walks.paint_rows.Goals as goal

pub paint_row-requires-clause-on : goal.paint_row-requires-clause-on
paint_row-requires-clause-on g c =
    let area = g.B.Brush.area c.args.brush.now in
    let rects = c.args.band.now.rects.now in
    let row = c.args.row.now in
    let old = c.args.screen.now in
    let columns = c.requires.row.columns in
    let on =
    row_on rects row area columns c.loop-v.v old.size c.args.band.now.north c.args.band.now.south
    (omega (arith, c.loop-v.auto.v)) c.loop-v-test.true c.requires.on in
    on_sized old.size c.loop-v.screen.size (in_area (in_row c.loop-v.v row) area) c.loop-v.invariant.size on

pub loop-v-preserved : goal.loop-v-preserved
loop-v-preserved g c =
    let area = g.B.Brush.area c.args.brush.now in
    let rects = c.args.band.now.rects.now in
    let row = c.args.row.now in
    let v = c.loop-v.v in
    let columns = c.requires.row.columns in
    rows_paint (in_area (in_columns rects) area) (in_area (in_row v row) area)
    c.args.band.now.north v (v + 1) (g.B.Brush.pixel c.args.brush.now) c.args.screen.now c.loop-v.screen _
    (omega (arith, c.loop-v.auto.v)) (omega arith) c.paint_row.ensures (row_of_band rects row area columns v) c.loop-v.invariant

pub returns : goal.returns
returns g c =
    let area = g.B.Brush.area c.args.brush.now in
    let north = c.args.band.now.north in
    let south = c.args.band.now.south in
    let rects = c.args.band.now.rects.now in
    let last : c.loop-v.v ≡ south = omega (arith, c.loop-v-test.false, c.loop-v.auto.v-end, c.requires.order) in
    repaints_same _ _ _ _ _ (rw last at c.loop-v.invariant) (λ p on. and_assoc (in_rows north south p) (in_columns rects p) (has_point area p))
