use Rattle.std.proofs.Common.{◌≤◌, ◌-◌, length}
use Rattle.tr_grammar.specs.Texts.{lines_of}
use Rattle.tr_chunks.specs.Chunks.{IsBehind}
use Rattle.tr_chunks.proofs.scripts.pass_steps.Given as goal

abbrev pub invariant-loop-count : goal.invariant-loop-count
invariant-loop-count l = record {
  within : l.count ≤ length (lines_of l.bytes);
  behind : IsBehind l.bytes l.count l.behind;
  most : l.count ≤ l.most;
}

abbrev pub decreases-loop-count : goal.decreases-loop-count
decreases-loop-count l = l.most - l.count
