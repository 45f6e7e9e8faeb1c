use Rattle.std.proofs.Common.{◌≡◌}
use Rattle.bench_mirror.proofs.updates.mixed.Given as goal

-- the screen keeps its size
abbrev pub invariant-loop-v : goal.invariant-loop-v
invariant-loop-v l = record {
  last : l.v-end ≡ 1024;
  high : l.screen.size.high ≡ 1024;
}
