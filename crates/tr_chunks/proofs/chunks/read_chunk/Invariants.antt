use Rattle.std.proofs.Common.{◌≤◌, ◌-◌}
use Rattle.tr_chunks.proofs.ChunkLemmas.{IsReading}
use Rattle.tr_chunks.proofs.chunks.read_chunk.Given as goal

abbrev pub invariant-loop-index : goal.invariant-loop-index
invariant-loop-index l = record {
  reading : IsReading l.reader l.first l.bytes l.rest l.index l.steps;
  most : l.index ≤ l.count;
}

abbrev pub decreases-loop-index : goal.decreases-loop-index
decreases-loop-index l = l.count - l.index
