use Rattle.std.proofs.Common.{◌≡◌, ◌≤◌, length, take}
use Rattle.std.specs.Prelude.{vec_capacity}
use Rattle.tr_machine.specs.CommandSteps.{act_entries}
use Rattle.tr_stage.proofs.handing.entries_in.Given as goal

abbrev pub invariant-loop-cmd : goal.invariant-loop-cmd
invariant-loop-cmd g l = record {
  can_next : (goal.iterator-loop-cmd g).can_next l.cmd-iterator;
  is_finite : (goal.iterator-loop-cmd g).is_finite l.cmd-iterator;
  room : length l.fn.commands.items ≤ vec_capacity l.entries;
  count : length l.entries.items ≡ length l.yielded;
  entries : l.entries.items ≡ act_entries l.leaf l.yielded (take (length l.yielded) l.levels);
}
