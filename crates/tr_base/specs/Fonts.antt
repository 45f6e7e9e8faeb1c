-- Fonts: the glyphs of the bytes 32 to 126, each with its 8 rows from north to south.
use Rattle.std.specs.Prelude.{◌≡◌, ℕ, ◌+◌, ◌-◌, ◌*◌, ◌<◌, nat_le, Bool, if◌then◌else◌, List, [], ◌∷◌, replicate, length, slice_index, slice_index_or}
use Rattle.tr_base.specs.Tiles.{is_set}

-- the glyph of a byte that was never set: a box
abbrev pub box_glyph : List ℕ
box_glyph = 255 ∷ 129 ∷ 129 ∷ 129 ∷ 129 ∷ 129 ∷ 129 ∷ 255 ∷ []

-- the font in which no glyph was set
abbrev pub empty_font : List (List ℕ)
empty_font = replicate 95 box_glyph

-- the glyph of a byte; the glyph of a byte outside 32 to 126 is the box
abbrev pub glyph_of : List (List ℕ) → ℕ → List ℕ
glyph_of font byte = if nat_le 32 byte then slice_index_or font (byte - 32) box_glyph else box_glyph

-- the bit of a byte's glyph in column h and row v of its cell
abbrev pub glyph_bit : List (List ℕ) → ℕ → ℕ → ℕ → Bool
glyph_bit font byte h v = is_set (slice_index (glyph_of font byte) v) h

-- the pixel of a bit: 255 if it is set, and else 0
abbrev pub pixel_of_bit : Bool → ℕ
pixel_of_bit bit = if bit then 255 else 0

-- the pixels row by row: in each row each of the 95 glyphs has its eight pixels
pub record HasPixels (glyphs : List (List ℕ)) (pixels : List ℕ) : Type 0 where
  pub count : length glyphs ≡ 95
  pub size : length pixels ≡ 6080
  pub each : (v place h : ℕ) → v < 8 → place < 95 → h < 8 → slice_index pixels (760 * v + (8 * place + h))
      ≡ pixel_of_bit (is_set (slice_index (slice_index_or glyphs place box_glyph) v) h)
