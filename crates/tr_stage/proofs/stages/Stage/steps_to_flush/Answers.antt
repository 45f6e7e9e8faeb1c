use Rattle.std.proofs.Common.{◌≡◌, length, sym, ◌∙◌, arith}
use Rattle.tr_stage.specs.Stages.{state}
use Rattle.tr_stage.proofs.SettleLemmas.{windows_of}
use Rattle.tr_machine.proofs.SharedRepaintLemmas.{flush_less, flush_more}
use Rattle.tr_stage.proofs.SharedLemmas.{flushes_done, flushing_painters}
use Rattle.tr_stage.proofs.stages.Stage.steps_to_flush.Goals.{then-waits+in_ok-push, else-waits}
use Rattle.tr_stage.proofs.stages.Stage.steps_to_flush.Goals as goal

pub waits-requires-after_bounds : goal.waits-requires-after_bounds
waits-requires-after_bounds g c κs within =
    omega (
      arith,
      c.count-n-end.ensures.count,
      c.loop-n-test.true,
      windows_of g.C.Client c.args.self.now c.self.invariant (record { spare = c.self.inside.journal.spare; is = c.self.view_is }),
    )

pub loop-n-preserved : goal.loop-n-preserved
loop-n-preserved g c =
    let m = state g.C.Client c.args.self.now in
    let is = c.waits.ensures in
    elim c.if-waits.branch [
      | then-waits+in_ok-push w ↦ rw (w.steps-is, w.in_ok-push.ensures.items)
          (flush_more g.C.Client m c.loop-n.n c.loop-n.steps.items c.loop-n.invariant (sym is ∙ w.if-waits.true))
      | else-waits w ↦ rw w.steps-is (flush_less g.C.Client m c.loop-n.n c.loop-n.steps.items c.loop-n.invariant (sym is ∙ w.if-waits.false))
    ]

pub returns-clause-steps : goal.returns-clause-steps
returns-clause-steps g c =
    let all : c.loop-n.n ≡ length c.self.inside.windows = omega (arith, c.count-n-end.ensures.count, c.loop-n-test.false, c.loop-n.auto.n-end) in
    flushes_done g.C.Client c.args.self.now c.loop-n.n c.loop-n.steps.items c.self.invariant
    (record { spare = c.self.inside.journal.spare; is = c.self.view_is }) all c.loop-n.invariant

pub returns-clause-painters : goal.returns-clause-painters
returns-clause-painters g c =
    let all : c.loop-n.n ≡ length c.self.inside.windows = omega (arith, c.count-n-end.ensures.count, c.loop-n-test.false, c.loop-n.auto.n-end) in
    flushing_painters g.C.Client c.args.self.now c.loop-n.steps.items c.self.invariant (record { spare = c.self.inside.journal.spare; is = c.self.view_is })
    (flushes_done g.C.Client c.args.self.now c.loop-n.n c.loop-n.steps.items c.self.invariant
    (record { spare = c.self.inside.journal.spare; is = c.self.view_is }) all c.loop-n.invariant)
