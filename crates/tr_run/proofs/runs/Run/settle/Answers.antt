use Rattle.std.proofs.Common.{◌≡◌, [], ◌∷◌, ◌++◌, ap, subst, ◌∙◌}
use Rattle.tr_base.proofs.ResultFacts.{on_err}
use Rattle.tr_levels.specs.declared.Level.TheVariants.{Mu}
use Rattle.tr_journal.specs.declared.steps.Actor.TheVariants.{Painter}
use Rattle.tr_machine.specs.Replays.{lines_of_steps}
use Rattle.tr_machine.specs.SettleSteps.{settling, settling_lines}
use Rattle.tr_stage.specs.Stages.{state}
use Rattle.tr_stage.specs.Standings.{Stands}
use Rattle.tr_stage.proofs.SettleLemmas.{settled_is, settled_screen}
use Rattle.tr_run.specs.Views.{AddsSome, RunView}
use Rattle.tr_run.proofs.RunLemmas.{some-more, some-none}
use Rattle.tr_run.proofs.runs.Run.settle.Goals as goal

pub returns-clause-screen : goal.returns-clause-screen
returns-clause-screen g c =
    let s = c.args.self.now.stage in
    let n = c.paint_all.new.self.stage in
    let stood = subst (λ (v : RunView _ _). Stands g.C.Client v.stage) c.self.view_is c.invariant.ensures.stands in
    let stands = subst (λ (v : RunView _ _). Stands g.C.Client v.stage) c.self-2.view_is c.invariant-2.ensures.stands in
    let steps = subst (λ (v : RunView _ _). c.in_ok-steps.steps.items ≡ settling g.C.Client (state g.C.Client v.stage)) c.self.view_is
    c.in_ok-steps.ensures.steps in
    settled_screen g.C.Client s n stands
    (settled_is g.C.Client s n stood c.in_ok-paint_all.ensures.ok.opening
    (c.in_ok-paint_all.ensures.ok.journal ∙ ap (λ xs. s.journal ++ lines_of_steps g.C.Client Painter (Mu ∷ []) (state g.C.Client s) xs) steps))

pub returns-in_err-steps-clause-err : goal.returns-in_err-steps-clause-err
returns-in_err-steps-clause-err g c =
    on_err c.from_residual.result (some-none g.C.Client c.args.self.now (settling_lines g.C.Client (state g.C.Client c.args.self.now.stage)))

pub returns-in_err-paint_all-clause-err : goal.returns-in_err-paint_all-clause-err
returns-in_err-paint_all-clause-err g c = on_err c.from_residual-in_err-paint_all.result (λ line.
    let s = c.args.self.now.stage in
    let steps = subst (λ (v : RunView _ _). c.in_ok-steps.steps.items ≡ settling g.C.Client (state g.C.Client v.stage)) c.self.view_is
    c.in_ok-steps.ensures.steps in
    some-more g.C.Client c.args.self.now c.paint_all.new.self (settling_lines g.C.Client (state g.C.Client s)) (line ∷ [])
    (subst (λ xs. AddsSome g.C.Client g.C.Cmd.Command.words c.args.self.now c.paint_all.new.self
    (lines_of_steps g.C.Client Painter (Mu ∷ []) (state g.C.Client s) xs))
    steps c.in_err-paint_all.ensures.err))
