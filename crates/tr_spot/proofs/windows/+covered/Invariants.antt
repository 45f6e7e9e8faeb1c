use Rattle.std.proofs.Common.{length}
use Rattle.tr_spot.proofs.windows.+covered.Given as goal

abbrev pub decreases-covered : goal.decreases-covered
decreases-covered l = length l.nodes.now
