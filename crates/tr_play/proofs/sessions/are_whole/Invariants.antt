use Rattle.std.proofs.Common.{take}
use Rattle.tr_play.specs.Sessions.{AreWhole}
use Rattle.tr_play.proofs.sessions.are_whole.Given as goal

-- those so far made their lists whole
abbrev pub invariant-loop-pass : goal.invariant-loop-pass
invariant-loop-pass g l = AreWhole (take l.pass-index l.workers.items) l.lists
