-- Private contracts alone cite this file.
-- The buffer between a text and its sink.
use Rattle.std.specs.Prelude.{◌≡◌, ℕ, List, [], All, vec_len}
use Rattle.tr_output.specs.declared.buffers.Buffer.{Buffer}
use Rattle.tr_output.specs.Lines.{SpellsRow}

-- a new buffer: no bytes wait, and its eight lines are of no pixels, for all kept pixels
pub record IsFresh (buffer : Buffer) : Type 0 where
  pub bytes : buffer.bytes.items ≡ []
  pub lines : (pixels : List ℕ) → All (SpellsRow pixels) buffer.lines.items
  pub count : vec_len buffer.lines ≡ 8
