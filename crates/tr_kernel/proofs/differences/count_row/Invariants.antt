use Rattle.std.proofs.Common.{◌≡◌, ◌*◌, count_by, take, zip}
use Rattle.tr_kernel.specs.Differences.{differ}
use Rattle.tr_kernel.proofs.differences.count_row.Given as goal

abbrev pub invariant-loop-chunk : goal.invariant-loop-chunk
invariant-loop-chunk l = l.count ≡ count_by differ (take (l.chunk * 64) (zip l.a l.b))

abbrev pub invariant-loop-at : goal.invariant-loop-at
invariant-loop-at l = l.count ≡ count_by differ (take l.at (zip l.a l.b))
