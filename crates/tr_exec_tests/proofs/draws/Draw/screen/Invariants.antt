use Rattle.std.proofs.Common.{◌≡◌}
use Rattle.tr_exec_tests.proofs.draws.Draw.screen.Given as goal

-- the size and the kind stay
abbrev pub invariant-loop-v : goal.invariant-loop-v
invariant-loop-v g l = record {
  size : l.screen.size ≡ l.fn.size;
  kind : l.screen.kind ≡ l.fn.kind;
}
