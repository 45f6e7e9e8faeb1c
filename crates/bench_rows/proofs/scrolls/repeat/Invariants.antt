use Rattle.std.proofs.Common.{◌≡◌}
use Rattle.bench_rows.proofs.scrolls.repeat.Given as goal

abbrev pub invariant-loop : goal.invariant-loop
invariant-loop l = l.screen.size ≡ l.fn.screen.size
