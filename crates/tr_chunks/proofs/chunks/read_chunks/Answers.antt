use Rattle.std.proofs.Common.{◌+◌, ◌-◌, ◌*◌, ◌<◌, min, length, take, List, ℕ, ap, mul_assoc, subst, arith, slice_index_or}
use Rattle.std.specs.Borrow.{Bor}
use Rattle.std.specs.Fork.{slice_chunk}
use Rattle.tr_words.specs.Answers.{texts}
use Rattle.tr_chunks.specs.Chunks.{IsChunk, lines_from}
use Rattle.tr_chunks.proofs.ChunkLemmas.{chunk_lines, chunks_all, chunks_last}
use Rattle.tr_chunks.proofs.chunks.read_chunks.Goals as goal

pub returns-in-Ok : goal.returns-in-Ok
returns-in-Ok g c =
    let marks = c.args.marks.now in
    let size = c.args.size in
    let count = c.args.count in
    let reader = c.args.reader.now in
    let first = c.args.first in
    let lines = take count (lines_from (texts marks)) in
    let chunks = c.in-Ok.chunks in
    record {
      all = chunks_all count size marks c.requires.marks (length chunks.items) c.requires.size (omega (arith, chunks.ok, c.in-Ok.ensures.len));
      last = chunks_last count size marks c.requires.marks (length chunks.items) c.requires.size (omega (arith, chunks.ok, c.in-Ok.ensures.len));
      each = λ k d lt.
          let chunk = (c.in-Ok.ensures.each k d lt).1 in
          let within : k * size < length marks = omega (arith, chunk.argument_is.nonempty, chunk.argument_is.in_bounds) in
          let result = slice_index_or chunks.items k d in
          let start = first + k * size * 250 in
          let call =
          subst
          (λ (ps : List (Bor (List ℕ))). IsChunk reader start (take (min (length ps * 250) (count - k * size * 250)) (lines_from (texts ps))) result)
          chunk.argument_is.value chunk.call in
          let here = chunk_lines count size marks c.requires.marks k c.requires.size within in
          let lines_read = subst (λ (ts : List (List ℕ)). IsChunk reader start ts result) here call in
          subst (λ (n : ℕ). IsChunk reader n (slice_chunk lines (size * 250) k) result) (ap (λ (n : ℕ). first + n) (mul_assoc k size 250)) lines_read;
    }
