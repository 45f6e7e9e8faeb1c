use Rattle.std.proofs.Common.{◌≡◌, ◌++◌, take}
use Rattle.tr_journal.proofs.journals.append_copies.Given as goal

-- the entries so far are copied
abbrev pub invariant-loop-entry : goal.invariant-loop-entry
invariant-loop-entry g l = l.copies.items ≡ l.fn.copies.items ++ take l.entry-index l.entries
