use Rattle.std.proofs.Common.{◌≡◌}
use Rattle.bench_rows.proofs.scrolls.mixed.Given as goal

abbrev pub invariant-loop-v : goal.invariant-loop-v
invariant-loop-v l = l.screen.size ≡ l.initial.screen.size
