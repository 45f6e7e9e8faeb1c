use Rattle.std.proofs.Common.{take}
use Rattle.tr_paint.specs.Sums as spec
use Rattle.tr_paint.proofs.sums.sums_of.Given as goal

-- the sums are those of the commands so far
abbrev pub invariant-loop-i : goal.invariant-loop-i
invariant-loop-i l = spec.AreSums l.sums (take l.i l.commands)
