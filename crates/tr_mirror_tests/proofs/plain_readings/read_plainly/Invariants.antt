use Rattle.std.proofs.Common.{length}
use Rattle.tr_mirror_tests.proofs.PlainLemmas.{IsReadTo}
use Rattle.tr_mirror_tests.proofs.plain_readings.read_plainly.Given as goal

-- the records before `rest` are read
abbrev pub invariant-records : goal.invariant-records
invariant-records l = IsReadTo l.stream l.standing l.rest

abbrev pub decreases-records : goal.decreases-records
decreases-records l = length l.rest
