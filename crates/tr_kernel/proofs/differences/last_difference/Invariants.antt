use Rattle.std.proofs.Common.{◌*◌, ◌≤◌}
use Rattle.tr_kernel.proofs.AgreeLemmas.{AgreeFrom}
use Rattle.tr_kernel.proofs.differences.last_difference.Given as goal

abbrev pub invariant-loop-at : goal.invariant-loop-at
invariant-loop-at l = (l.at-start ≤ l.at) × AgreeFrom l.a l.b l.at

abbrev pub invariant-loop-chunk : goal.invariant-loop-chunk
invariant-loop-chunk l = AgreeFrom l.a l.b (l.chunk * 64)
