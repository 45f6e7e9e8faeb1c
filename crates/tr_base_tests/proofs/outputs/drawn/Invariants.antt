use Rattle.std.proofs.Common.{◌≡◌}
use Rattle.tr_base_tests.proofs.outputs.drawn.Given as goal

-- the screen keeps its size
abbrev pub invariant-loop-v : goal.invariant-loop-v
invariant-loop-v g l = l.screen.size ≡ record { wide = l.wide; high = l.high }
