use Rattle.std.proofs.Common.{ℕ, List, []}
use Rattle.std.specs.Borrow.{Bor}
use Rattle.tr_chunks.proofs.ChunkLemmas.{first_lines}
use Rattle.tr_chunks.proofs.chunks.read_marked.Goals as goal

no_bytes : Bor (List ℕ)
no_bytes = record { ref_ptr = (0, 0); now = [] }

pub returns-in-len1-up : goal.returns-in-len1-up
unfolding no_bytes
returns-in-len1-up c =
    let read = rw c.min-lines.ensures at c.read_chunk.ensures in
    rw (first_lines c.args.marks.now no_bytes c.in-len1-up.len_at_least) read
