use Rattle.std.proofs.Common.{take}
use Rattle.tr_paint.specs.Traces.{Look}
use Rattle.tr_windows.specs.Promises.{LosesNothingOf}
use Rattle.tr_windows.proofs.costs.spares_all.Given as goal

-- the commands so far lose nothing
abbrev pub invariant-loop-i : goal.invariant-loop-i
invariant-loop-i l = (look : Look) → LosesNothingOf l.exposure look (take l.i l.batch)
