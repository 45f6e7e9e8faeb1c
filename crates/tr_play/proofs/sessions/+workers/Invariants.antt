use Rattle.std.proofs.Common.{◌+◌, ◌-◌, ◌*◌, length}
use Rattle.tr_play.proofs.sessions.+workers.Given as goal

abbrev pub decreases-all_work : goal.decreases-all_work
decreases-all_work g l = 4 * length l.workers.now

abbrev pub decreases-both_halves : goal.decreases-both_halves
decreases-both_halves g l = 4 * (length l.front.now + length l.back.now) - 1

abbrev pub decreases-both_halves-first : goal.decreases-both_halves-first
decreases-both_halves-first g l = 4 * length l.front.now + 1

abbrev pub decreases-both_halves-second : goal.decreases-both_halves-second
decreases-both_halves-second g l = 4 * length l.back.now + 1
