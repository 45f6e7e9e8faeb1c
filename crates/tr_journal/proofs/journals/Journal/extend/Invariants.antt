use Rattle.std.proofs.Common.{◌≡◌, ◌+◌, ◌≤◌, ◌++◌, length}
use Rattle.tr_journal.specs.Journals.{silent}
use Rattle.tr_journal.proofs.journals.Journal.extend.Given as goal

abbrev pub invariant-loop-entry : goal.invariant-loop-entry
invariant-loop-entry g l = record {
  can_next : (goal.iterator-loop-entry g).can_next l.entry-iterator;
  is_finite : (goal.iterator-loop-entry g).is_finite l.entry-iterator;
  room : length l.fn.entries.items ≤ l.self.silent_spare + length l.yielded;
  lines : l.self.lines ≡ l.fn.self.lines ++ silent l.yielded;
}
