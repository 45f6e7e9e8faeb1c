use Rattle.std.proofs.Common.{◌≡◌, take, refl, sym, subst}
use Rattle.std.proofs.lemmas.Bool.{and_parts}
use Rattle.std.proofs.lemmas.List.{take_all}
use Rattle.tr_base.specs.Rects.{has_point}
use Rattle.tr_repair.specs.Walks.{in_row}
use Rattle.tr_exec.specs.Walks.{Meets}
use Rattle.tr_exec.proofs.PaintLemmas.{cut_within, cut_on, runs_paint, row_empty}
use Rattle.tr_exec.proofs.walks.paint_row.Goals as goal

pub loop-rect-init : goal.loop-rect-init
loop-rect-init g c = row_empty _ _ _ _ _ refl

pub paint_run-requires : goal.paint_run-requires
paint_run-requires g c =
    let area = g.B.Brush.area c.args.brush.now in
    let v = c.args.v in
    let row = c.args.row.now in
    let k = c.loop-rect.rect-index in
    let r = c.rect-item.result in
    let lt = c.loop-rect-test.true in
    let run = rw c.area-area.ensures at c.cut.ensures in
    let meets : Meets area r = subst (Meets area) (sym c.rect-item.is) (c.requires.meet k r lt) in
    rw (run, c.loop-rect.invariant.size) (record {
      on = cut_on v row k r c.rect-item.is lt c.requires.apart area c.requires.row c.args.screen.now.size meets c.requires.on;
      within = λ p t. (and_parts (in_row v row p) (has_point area p) (cut_within v row k r c.rect-item.is lt c.requires.apart area c.requires.row p t)).1;
    })

pub loop-rect-preserved : goal.loop-rect-preserved
loop-rect-preserved g c =
    let area = g.B.Brush.area c.args.brush.now in
    let run = rw c.area-area.ensures at c.cut.ensures in
    runs_paint c.args.v c.args.row.now c.loop-rect.rect-index c.rect-item.result c.rect-item.is c.loop-rect-test.true c.requires.apart area c.requires.row
    (g.B.Brush.pixel c.args.brush.now) c.args.screen.now c.loop-rect.screen _ (rw run at c.paint_run.ensures) c.loop-rect.invariant

pub returns : goal.returns
returns g c =
    let whole : take c.loop-rect.rect-index c.args.row.now ≡ c.args.row.now = take_all c.loop-rect.rect-index c.args.row.now c.loop-rect-test.false in
    rw whole at c.loop-rect.invariant
