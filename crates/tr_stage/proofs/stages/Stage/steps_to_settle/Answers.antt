use Rattle.std.proofs.Common.{◌≡◌, length, subst, sym, ◌∙◌, arith}
use Rattle.tr_machine.specs.SettleSteps.{is_frame_bad, settling}
use Rattle.tr_stage.specs.Stages.{state}
use Rattle.tr_stage.proofs.SettleLemmas.{frame_bad, repaint_less, repaint_more, repaints_done, settling_framed, settling_painters, settling_unframed, windows_of}
use Rattle.tr_stage.proofs.stages.Stage.steps_to_settle.Given.{Over}
use Rattle.tr_stage.proofs.stages.Stage.steps_to_settle.Goals.{Joined-branch-2, else-branch, else-branch-2, then-branch+in_ok-push, then-branch-2+in_ok-push-2}
use Rattle.tr_stage.proofs.stages.Stage.steps_to_settle.Goals as goal

pub is_unsettled-requires-after_bounds : goal.is_unsettled-requires-after_bounds
is_unsettled-requires-after_bounds g c κs within =
    omega (
      arith,
      c.count-n-end.ensures.count,
      c.loop-n-test.true,
      windows_of g.C.Client c.args.self.now c.self.invariant (record { spare = c.self.inside.journal.spare; is = c.self.view_is }),
    )

pub loop-n-preserved : goal.loop-n-preserved
loop-n-preserved g c =
    let m = state g.C.Client c.args.self.now in
    let is = c.in_ok-is_unsettled.ensures in
    elim c.if-branch.branch [
      | then-branch+in_ok-push w ↦ rw (w.steps-is, w.in_ok-push.ensures.items)
          (repaint_more g.C.Client m c.loop-n.n c.loop-n.steps.items c.loop-n.invariant (sym is ∙ w.if-branch.true))
      | else-branch w ↦ rw w.steps-is (repaint_less g.C.Client m c.loop-n.n c.loop-n.steps.items c.loop-n.invariant (sym is ∙ w.if-branch.false))
    ]

-- what is made are the steps that settle it
made : (g : Over) (c : Joined-branch-2 g) → c.if-branch-2.steps.items ≡ settling g.C.Client (state g.C.Client c.args.self.now)
made g c =
    let m = state g.C.Client c.args.self.now in
    let all : c.loop-n.n ≡ length c.self.inside.windows = omega (arith, c.count-n-end.ensures.count, c.loop-n-test.false, c.loop-n.auto.n-end) in
    let done = repaints_done g.C.Client c.args.self.now c.loop-n.n c.loop-n.steps.items c.self.invariant
    (record { spare = c.self.inside.journal.spare; is = c.self.view_is }) all c.loop-n.invariant in
    let bad : c.in_ok-is_frame_bad.field-0 ≡ is_frame_bad m =
    subst (λ v. c.in_ok-is_frame_bad.field-0 ≡ is_frame_bad (state g.C.Client v)) c.self.view_is
    (frame_bad g.C.Client _ _ c.in_ok-is_frame_bad.field-0 c.self.invariant.kept c.in_ok-is_frame_bad.ensures.some c.in_ok-is_frame_bad.ensures.none) in
    elim c.if-branch-2.branch [
      | then-branch-2+in_ok-push-2 w ↦ rw (w.steps-is, w.in_ok-push-2.ensures.items)
          (settling_framed g.C.Client m c.loop-n.steps.items done (sym bad ∙ w.if-branch-2.true))
      | else-branch-2 w ↦ rw w.steps-is (settling_unframed g.C.Client m c.loop-n.steps.items done (sym bad ∙ w.if-branch-2.false))
    ]

pub returns-clause-steps : goal.returns-clause-steps
returns-clause-steps g c = made g c

pub returns-clause-painters : goal.returns-clause-painters
returns-clause-painters g c =
    settling_painters g.C.Client c.args.self.now c.if-branch-2.steps.items c.self.invariant
    (record { spare = c.self.inside.journal.spare; is = c.self.view_is }) (made g c)
