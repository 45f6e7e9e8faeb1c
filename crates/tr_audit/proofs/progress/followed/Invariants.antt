use Rattle.tr_journal.specs.Actors.{entries_of}
use Rattle.tr_audit.specs.Progress.{AreFollowed}
use Rattle.tr_audit.proofs.progress.followed.Given as goal

-- the entries so far are followed
abbrev pub invariant-loop-k : goal.invariant-loop-k
invariant-loop-k g l = AreFollowed l.lists (entries_of l.journal.lines) l.from l.k l.progress.items
