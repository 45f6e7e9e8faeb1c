use Rattle.std.proofs.Common.{◌*◌}
use Rattle.tr_kernel.proofs.AgreeLemmas.{AgreeBefore}
use Rattle.tr_kernel.proofs.differences.first_difference.Given as goal

abbrev pub invariant-loop-chunk : goal.invariant-loop-chunk
invariant-loop-chunk l = AgreeBefore l.a l.b (l.chunk * 64)

abbrev pub invariant-loop-at : goal.invariant-loop-at
invariant-loop-at l = AgreeBefore l.a l.b l.at
