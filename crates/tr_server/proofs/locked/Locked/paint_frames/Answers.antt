use Rattle.std.proofs.Common.{[], ◌∷◌, ap, subst, refl, ◌∙◌}
use Rattle.std.specs.Prelude.{OnErr, OnOk}
use Rattle.tr_base.proofs.ResultFacts.{on_err}
use Rattle.tr_levels.specs.declared.Level.TheVariants.{Mu}
use Rattle.tr_machine.specs.Replays.{under}
use Rattle.tr_machine.specs.SettleSteps.{frame_steps}
use Rattle.tr_stage.specs.Stages.{state}
use Rattle.tr_server.specs.Shares.{HasBegun, HasMade}
use Rattle.tr_server.proofs.MadeLemmas.{begun_none}
use Rattle.tr_server.proofs.locked.Locked.paint_frames.Goals as goal

pub returns-in_err-steps-clause-err : goal.returns-in_err-steps-clause-err
returns-in_err-steps-clause-err g c =
    on_err c.from_residual.result (begun_none g.C.Client c.args.self.now c.args.self.now c.args.pass.now c.args.pass.now _ refl refl refl)

pub returns-clause-ok : goal.returns-clause-ok
returns-clause-ok g c =
    subst (λ steps. OnOk c.make_all.result
    (HasMade g.C.Client c.args.self.now c.make_all.new.self c.args.pass.now c.make_all.new.pass (under (Mu ∷ []) steps)))
    (c.in_ok-steps.ensures.steps ∙ ap (λ s. frame_steps (state g.C.Client s)) c.self.view_is) c.make_all.ensures.ok

pub returns-clause-err : goal.returns-clause-err
returns-clause-err g c =
    subst (λ steps. OnErr c.make_all.result
    (HasBegun g.C.Client c.args.self.now c.make_all.new.self c.args.pass.now c.make_all.new.pass (under (Mu ∷ []) steps)))
    (c.in_ok-steps.ensures.steps ∙ ap (λ s. frame_steps (state g.C.Client s)) c.self.view_is) c.make_all.ensures.err
