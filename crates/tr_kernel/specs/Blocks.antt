-- Blocks of pixels: rows of equal length, at equal distances.
use Rattle.std.specs.Prelude.{◌≡◌, ℕ, ◌+◌, ◌*◌, ◌<◌, ◌≤◌, ◌⊎◌, List, slice_index}
use Rattle.tr_kernel.specs.declared.blocks.Block.{Block}

-- in the first `rows` rows, the first `count` pixels are those of f, by row and column; all other pixels keep their values
pub record AreWritten (f : ℕ → ℕ → ℕ) (block : Block) (count rows : ℕ) (old new : List ℕ) : Type 0 where
  pub written : (v k : ℕ) → v < rows → k < count → slice_index new (block.start + v * block.stride + k) ≡ f v k
  pub others : (i : ℕ) → ((v : ℕ) → v < rows → (i < block.start + v * block.stride) ⊎ (block.start + v * block.stride + count ≤ i)) →
      slice_index new i ≡ slice_index old i
