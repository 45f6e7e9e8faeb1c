use Rattle.std.proofs.Common.{length}
use Rattle.tr_mirror_tests.proofs.mirrors.tells.Given as goal

abbrev pub decreases-loop-rest : goal.decreases-loop-rest
decreases-loop-rest g l = length l.rest
