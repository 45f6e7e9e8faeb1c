use Rattle.std.proofs.Common.{◌≡◌, ◌+◌, length, vec_len}
use Rattle.tr_server.proofs.GatherLemmas.{HasGathered}
use Rattle.tr_server.proofs.closing.gather.Given as goal

-- so many passes were taken back, the last ones
abbrev pub invariant-loop-k : goal.invariant-loop-k
invariant-loop-k g l = record {
  left : vec_len l.workers + l.k ≡ l.count;
  gathered : HasGathered (length l.fn.lists.leaves) l.fn.workers.items l.workers.items l.lists l.fn.all.amount l.all.amount l.fn.due l.all_due;
}
