use Rattle.std.proofs.Common.{◌++◌, ◌∷◌, [], ap, ◌∙◌}
use Rattle.tr_levels.specs.declared.Level.TheVariants.{Mu}
use Rattle.tr_journal.specs.declared.steps.Actor.TheVariants.{Painter}
use Rattle.tr_machine.specs.Replays.{lines_of_steps}
use Rattle.tr_machine.proofs.SettleLemmas.{IsSettled}
use Rattle.tr_stage.specs.Stages.{state}
use Rattle.tr_stage.proofs.SettleLemmas.{settled_is, settled_screen}
use Rattle.tr_stage.proofs.stages.Stage.settle.Given.{Over}
use Rattle.tr_stage.proofs.stages.Stage.settle.Goals.{After-invariant-2}
use Rattle.tr_stage.proofs.stages.Stage.settle.Goals as goal

-- the state afterwards is settled
settled : (g : Over) (c : After-invariant-2 g) → IsSettled g.C.Client (state g.C.Client c.args.self.now) (state g.C.Client c.paint_all.new.self)
settled g c =
    let old = c.args.self.now in
    settled_is g.C.Client old c.paint_all.new.self c.invariant.ensures.stands c.paint_all.ensures.opening
    (c.in_ok-paint_all.ensures.ok
    ∙ ap (λ steps. old.journal ++ lines_of_steps g.C.Client Painter (Mu ∷ []) (state g.C.Client old) steps) c.in_ok-steps.ensures.steps)

pub returns-clause-idle : goal.returns-clause-idle
returns-clause-idle g c = (settled g c).batches

pub returns-clause-good : goal.returns-clause-good
returns-clause-good g c = (settled g c).good

pub returns-clause-screen : goal.returns-clause-screen
returns-clause-screen g c = settled_screen g.C.Client c.args.self.now c.paint_all.new.self c.invariant-2.ensures.stands (settled g c)
