use Rattle.std.proofs.Common.{◌≡◌, take}
use Rattle.tr_machine.specs.CommandSteps.{act_entries}
use Rattle.tr_stage.proofs.handing.entries_of.Given as goal

abbrev pub invariant-loop-k : goal.invariant-loop-k
invariant-loop-k g l = l.entries.items ≡ act_entries l.leaf (take l.k l.commands) (take l.k l.levels)
