use Rattle.tr_machine.specs.SharedRepaints.{bad_leaves}
use Rattle.tr_stage.specs.Sharing.{ArePainted}
use Rattle.tr_stage.specs.Stages.{state}
use Rattle.tr_stage.proofs.stages.Stage.add_each_bad.Given as goal

abbrev pub invariant-loop-n : goal.invariant-loop-n
invariant-loop-n g l = ArePainted g.C.Client (state g.C.Client l.self) (bad_leaves l.n (state g.C.Client l.self)) l.all.items
