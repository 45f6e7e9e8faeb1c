-- A row that is painted through a pattern of bits.
use Rattle.std.specs.Prelude.{ℕ, ◌+◌, ◌/◌, Bool, if◌then◌else◌, List, length, map, slice_index}
use Rattle.std.specs.List.{range_with_len}
use Rattle.tr_base.specs.Ops.{eff}
use Rattle.tr_base.specs.Tiles.{is_set}
use Rattle.tr_base.specs.declared.ops.Kind.{Kind}
use Rattle.tr_base.specs.declared.ops.Pair.{Pair}

-- the model of a mask: the operation for a bit of 1, the operation for a bit of 0,
-- and the kind of the pixels
pub record Painting : Type 0 where
  pub ops : Pair
  pub kind : Kind

-- the bit of pixel k in the repeated bits of one byte
abbrev pub bit_in_byte : ℕ → ℕ → ℕ → Bool
bit_in_byte bits phase k = is_set bits (k + phase)

-- the bit of pixel k in the bits of successive bytes
abbrev pub bit_in_cells : List ℕ → ℕ → ℕ → Bool
bit_in_cells cells phase k = is_set (slice_index cells ((k + phase) / 8)) (k + phase)

-- the new value of a pixel, given whether its bit is set
abbrev pub painted : Painting → Bool → ℕ → ℕ
painted m bit old = eff m.kind (if bit then m.ops.one else m.ops.zero) old

-- the new pixels of a row, given the bit of each place
abbrev pub masked : Painting → (ℕ → Bool) → List ℕ → List ℕ
masked m bit row = map (λ k. painted m (bit k) (slice_index row k)) (range_with_len 0 (length row))
