use Rattle.std.proofs.Common.{◌≡◌, ◌≤◌, ◌*◌, ◌-◌, vec_len}
use Rattle.tr_words.specs.Answers.{texts}
use Rattle.tr_chunks.specs.Chunks.{IsBehind}
use Rattle.tr_chunks.proofs.ChunkLemmas.{AreMarksOf}
use Rattle.tr_chunks.proofs.scripts.steps_ahead.Given as goal

-- each mark has 250 lines
abbrev pub invariant-loop-count : goal.invariant-loop-count
invariant-loop-count l = record {
  marks : AreMarksOf l.bytes l.count (texts l.marks.items);
  behind : IsBehind l.bytes l.count l.behind;
  most : l.count ≤ l.most;
  full : l.count ≡ vec_len l.marks * 250;
}

abbrev pub decreases-loop-count : goal.decreases-loop-count
decreases-loop-count l = l.most - l.count
