use Rattle.tr_chunks.proofs.ChunkLemmas.{IsAdding}
use Rattle.tr_chunks.proofs.chunks.add_chunks.Given as goal

abbrev pub invariant-loop-chunk : goal.invariant-loop-chunk
invariant-loop-chunk l = IsAdding l.fn.reader l.reader l.fn.chunks.items l.yielded l.chunk-iterator.rest.items
