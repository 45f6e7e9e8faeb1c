use Rattle.tr_audit.specs.Progress.{AreThrough}
use Rattle.tr_audit.proofs.progress.first_rank_apart.Given as goal

-- the actors so far are through their lists
abbrev pub invariant-loop-rank : goal.invariant-loop-rank
invariant-loop-rank g l = AreThrough l.lists l.progress l.rank
