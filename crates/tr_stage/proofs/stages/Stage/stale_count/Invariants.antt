use Rattle.std.proofs.Common.{◌≡◌}
use Rattle.tr_stage.specs.Stages.{state}
use Rattle.tr_stage.proofs.StaleLemmas.{count_stale}
use Rattle.tr_stage.proofs.stages.Stage.stale_count.Given as goal

abbrev pub invariant-loop-n : goal.invariant-loop-n
invariant-loop-n g l = record {
  count : l.count ≡ count_stale g.C.Client (state g.C.Client l.self) l.n;
  size : l.wanted.size ≡ l.self.screen.size;
  kind : l.wanted.kind ≡ l.self.screen.kind;
}
