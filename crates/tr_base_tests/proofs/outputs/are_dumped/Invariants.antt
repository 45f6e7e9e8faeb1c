use Rattle.std.proofs.Common.{◌≡◌}
use Rattle.tr_base_tests.proofs.outputs.are_dumped.Given as goal

-- the screen keeps its size
abbrev pub invariant-loop-number : goal.invariant-loop-number
invariant-loop-number g l = l.screen.size ≡ record { wide = l.wide; high = l.high }
