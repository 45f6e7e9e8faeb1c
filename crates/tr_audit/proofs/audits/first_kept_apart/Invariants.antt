use Rattle.std.proofs.Common.{◌≡◌, take}
use Rattle.tr_journal.specs.Actors.{entries_of}
use Rattle.tr_audit.proofs.audits.first_kept_apart.Given as goal

-- the entries so far are the same
abbrev pub invariant-loop-k : goal.invariant-loop-k
invariant-loop-k g l = take l.k (entries_of l.kept.lines) ≡ take l.k (entries_of l.journal.lines)
