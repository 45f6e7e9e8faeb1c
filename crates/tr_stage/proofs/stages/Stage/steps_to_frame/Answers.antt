use Rattle.std.proofs.Common.{◌≡◌, subst, sym, ◌∙◌}
use Rattle.tr_machine.specs.SettleSteps.{is_frame_bad}
use Rattle.tr_stage.specs.Stages.{state}
use Rattle.tr_stage.proofs.SettleLemmas.{frame_bad}
use Rattle.tr_machine.proofs.SharedRepaintLemmas.{frame_more, frame_less}
use Rattle.tr_stage.proofs.stages.Stage.steps_to_frame.Goals.{then-branch+in_ok-push, else-branch}
use Rattle.tr_stage.proofs.stages.Stage.steps_to_frame.Goals as goal

pub returns-clause-steps : goal.returns-clause-steps
returns-clause-steps g c =
    let m = state g.C.Client c.args.self.now in
    let bad : c.in_ok-is_frame_bad.field-0 ≡ is_frame_bad m =
    subst (λ v. c.in_ok-is_frame_bad.field-0 ≡ is_frame_bad (state g.C.Client v)) c.self.view_is
    (frame_bad g.C.Client _ _ c.in_ok-is_frame_bad.field-0 c.self.invariant.kept c.in_ok-is_frame_bad.ensures.some c.in_ok-is_frame_bad.ensures.none) in
    elim c.if-branch.branch [
      | then-branch+in_ok-push w ↦ rw (w.steps-is, w.in_ok-push.ensures.items)
          (frame_more m c.new-steps.result.items c.new-steps.ensures.items (sym bad ∙ w.if-branch.true))
      | else-branch w ↦ rw w.steps-is (frame_less m c.new-steps.result.items c.new-steps.ensures.items (sym bad ∙ w.if-branch.false))
    ]
