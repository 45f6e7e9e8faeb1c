use Rattle.std.proofs.Common.{length}
use Rattle.bench_mirror.proofs.feeds.feed_all.Given as goal

-- each piece leaves less
abbrev pub decreases-loop-rest : goal.decreases-loop-rest
decreases-loop-rest l = length l.rest
