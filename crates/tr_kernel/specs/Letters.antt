-- Rows of letters that are written in two colours.
use Rattle.std.specs.Prelude.{ℕ, ◌+◌, ◌-◌, ◌*◌, ◌/◌, ◌%◌, Bool, List, slice_index, bit_and, bit_xor}
use Rattle.tr_base.specs.Fonts.{glyph_bit}
use Rattle.tr_kernel.specs.declared.letters.Inks.{Inks}

-- the bit of a column of letters side by side, each eight columns wide, in row v of their glyphs
abbrev pub bit_in_letters : List (List ℕ) → List ℕ → ℕ → ℕ → Bool
bit_in_letters font text v column = glyph_bit font (slice_index text (column / 8)) column v

-- the pixel in a column of letters side by side, from a row of all glyphs, which starts with that of byte 32
abbrev pub pixel_in : List ℕ → List ℕ → ℕ → ℕ
pixel_in source text column = slice_index source (8 * (slice_index text (column / 8) - 32) + column % 8)

-- the colour of a pixel of 255 or 0 in two colours
abbrev pub inked : Inks → ℕ → ℕ
inked inks pixel = bit_xor (bit_and pixel inks.change) inks.zero
