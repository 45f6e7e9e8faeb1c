use Rattle.std.proofs.Common.{◌≡◌, length, sym, ◌∙◌, arith}
use Rattle.tr_stage.specs.Stages.{state}
use Rattle.tr_stage.proofs.SettleLemmas.{windows_of}
use Rattle.tr_stage.proofs.SharedLemmas.{painted_done, painted_less, painted_more}
use Rattle.tr_stage.proofs.stages.Stage.add_each_bad.Goals.{then-branch+in_ok-paint_bad+in_ok-push, else-branch}
use Rattle.tr_stage.proofs.stages.Stage.add_each_bad.Goals as goal

pub has_bad-requires-after_bounds : goal.has_bad-requires-after_bounds
has_bad-requires-after_bounds g c κs within =
    omega (
      arith,
      c.count-n-end.ensures.count,
      c.loop-n-test.true,
      windows_of g.C.Client c.args.self.now c.self.invariant (record { spare = c.self.inside.journal.spare; is = c.self.view_is }),
    )

pub paint_bad-requires-clause-leaf : goal.paint_bad-requires-clause-leaf
paint_bad-requires-clause-leaf g c κs within =
    omega (
      arith,
      c.count-n-end.ensures.count,
      c.loop-n-test.true,
      windows_of g.C.Client c.args.self.now c.self.invariant (record { spare = c.self.inside.journal.spare; is = c.self.view_is }),
    )

pub loop-n-preserved : goal.loop-n-preserved
loop-n-preserved g c =
    let m = state g.C.Client c.args.self.now in
    let is = c.in_ok-has_bad.ensures in
    elim c.if-branch.branch [
      | then-branch+in_ok-paint_bad+in_ok-push w ↦ rw (w.all-is, w.in_ok-push.ensures.items)
          (painted_more g.C.Client m c.loop-n.n c.loop-n.all.items w.in_ok-paint_bad.field-0 c.loop-n.invariant (sym is ∙ w.if-branch.true)
          w.in_ok-paint_bad.ensures.leaf w.in_ok-paint_bad.ensures.painted)
      | else-branch w ↦ rw w.all-is (painted_less g.C.Client m c.loop-n.n c.loop-n.all.items c.loop-n.invariant (sym is ∙ w.if-branch.false))
    ]

pub returns : goal.returns
returns g c =
    let all : c.loop-n.n ≡ length c.self.inside.windows = omega (arith, c.count-n-end.ensures.count, c.loop-n-test.false, c.loop-n.auto.n-end) in
    painted_done g.C.Client c.args.self.now c.loop-n.n c.loop-n.all.items c.self.invariant
    (record { spare = c.self.inside.journal.spare; is = c.self.view_is }) all c.loop-n.invariant
