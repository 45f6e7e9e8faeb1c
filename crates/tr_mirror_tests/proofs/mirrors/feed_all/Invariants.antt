use Rattle.std.proofs.Common.{length}
use Rattle.tr_mirror_tests.proofs.mirrors.feed_all.Given as goal

abbrev pub decreases-loop-rest : goal.decreases-loop-rest
decreases-loop-rest l = length l.rest
