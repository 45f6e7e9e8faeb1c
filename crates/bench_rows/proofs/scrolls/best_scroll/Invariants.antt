use Rattle.std.proofs.Common.{◌≡◌}
use Rattle.bench_rows.proofs.scrolls.best_scroll.Given as goal

abbrev pub invariant-loop : goal.invariant-loop
invariant-loop g l = l.screen.size ≡ l.fn.screen.size
