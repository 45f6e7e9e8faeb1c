-- Private contracts alone cite this file.
-- The pixels that a command paints along a run of points.
use Rattle.std.specs.Prelude.{◌≡◌, ℕ, ◌+◌, ◌*◌, ◌<◌, pos, neg_ℤ, ◌+ℤ◌, ◌≤ℤ◌, ◌<ℤ◌, ◌/◌, ◌%◌, List, map, length, slice_index}
use Rattle.std.specs.List.{range_with_len}
use Rattle.tr_base.specs.declared.Point.{Point}
use Rattle.tr_base.specs.declared.Size.{Size}
use Rattle.tr_base.specs.Fonts.{glyph_of}

-- the point that lies k columns east
abbrev pub east_of : Point → ℕ → Point
east_of p k = record { h = p.h +ℤ pos k; v = p.v }

-- the n points from p on lie within a picture of this size, whose corner is (0, 0)
pub record IsWithin (size : Size) (p : Point) (n : ℕ) : Type 0 where
  pub west : pos 0 ≤ℤ p.h
  pub east : (p.h +ℤ pos n) ≤ℤ pos size.wide
  pub north : pos 0 ≤ℤ p.v
  pub south : p.v <ℤ pos size.high

-- the n points from p on lie within the cells of a text of this number of bytes
pub record IsInCells (count : ℕ) (p : Point) (n : ℕ) : Type 0 where
  pub west : pos 0 ≤ℤ p.h
  pub east : (p.h +ℤ pos n) ≤ℤ pos (8 * count)
  pub north : pos 0 ≤ℤ p.v
  pub south : p.v <ℤ pos 8

-- the corner of a command's picture is at most 131,072 away from the screen's, each way
pub record IsCorner (at : Point) : Type 0 where
  pub west : neg_ℤ (pos 131072) ≤ℤ at.h
  pub east : at.h ≤ℤ pos 131072
  pub north : neg_ℤ (pos 131072) ≤ℤ at.v
  pub south : at.v ≤ℤ pos 131072

-- the bits are the rows of the glyphs of a text, each 80 bytes long
abbrev pub AreGlyphRows : List (List ℕ) → List ℕ → List ℕ → Type 0
AreGlyphRows font text bits =
    (v k : ℕ) → v < 8 → k < length text → slice_index bits (80 * v + k) ≡ slice_index (glyph_of font (slice_index text k)) v

-- the 32 bytes from place `start` on, after the two halves of 64 bytes are interleaved
abbrev pub by_turns : List ℕ → ℕ → List ℕ
by_turns bytes start = map (λ i. slice_index bytes (i / 2 + 32 * (i % 2))) (range_with_len start 32)
