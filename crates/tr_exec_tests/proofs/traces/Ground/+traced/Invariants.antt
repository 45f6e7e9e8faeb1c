use Rattle.std.proofs.Common.{length}
use Rattle.tr_exec_tests.proofs.traces.Ground.+traced.Given as goal

-- it looks at fewer commands each time
abbrev pub decreases-traced : goal.decreases-traced
decreases-traced l = length l.paints.now
