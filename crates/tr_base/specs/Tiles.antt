-- Bits of a byte as points side by side, and tiles of eight such bytes.
use Rattle.std.specs.Prelude.{ℕ, ℤ, pos, ◌-◌, ◌%◌, ◌==◌, Bool, slice_index, unsigned_abs}
use Rattle.std.specs.Int.{bit_at, int_rem_euclid}
use Rattle.tr_base.specs.declared.tiles.Tile.{Tile}

-- the bit of a place is set: place 0 is the highest bit, the westmost pixel, and place 8 is place 0 again
abbrev pub is_set : ℕ → ℕ → Bool
is_set byte place = bit_at byte (7 - place % 8) == 1

-- the place of a coordinate in the tiles: its remainder by 8, which is never negative
abbrev pub tile_index : ℤ → ℕ
tile_index x = unsigned_abs (int_rem_euclid x (pos 8))

-- the bit at a point of the plane that repeats the tile in all directions
abbrev pub tile_bit : Tile → ℤ → ℤ → Bool
tile_bit tile h v = is_set (slice_index tile.rows (tile_index v)) (tile_index h)
