use Rattle.std.proofs.Common.{◌≡◌}
use Rattle.tr_machine.specs.SettleSteps.{repaints_below}
use Rattle.tr_stage.specs.Stages.{state}
use Rattle.tr_stage.proofs.stages.Stage.steps_to_settle.Given as goal

abbrev pub invariant-loop-n : goal.invariant-loop-n
invariant-loop-n g l = l.steps.items ≡ repaints_below g.C.Client l.n (state g.C.Client l.self)
