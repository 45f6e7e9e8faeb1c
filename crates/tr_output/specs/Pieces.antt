-- Private contracts alone cite this file.
-- The pieces of a text; their rows are among the kept pixels.
use Rattle.std.specs.Prelude.{◌≡◌, ⊤, ℕ, ◌+◌, ◌≤◌, List, length, slice_range}
use Rattle.std.specs.List.{flat_map}
use Rattle.tr_output.specs.declared.pieces.Piece.{Piece}
use Rattle.tr_output.specs.declared.pieces.Piece.TheVariants.{Bytes, Row}
use Rattle.tr_output.specs.Texts.{row_text}

-- a piece: its bytes, or the line of its row
abbrev pub piece_text : List ℕ → Piece → List ℕ
piece_text pixels (Bytes bytes) = bytes.items
piece_text pixels (Row start wide) = row_text (slice_range pixels start (start + wide))

-- pieces, one after another
abbrev pub pieces_text : List ℕ → List Piece → List ℕ
pieces_text pixels pieces = flat_map (piece_text pixels) pieces

-- a row is within this many kept pixels, and is no wider than a screen
abbrev pub IsPieceWithin : ℕ → Piece → Type 0
IsPieceWithin many (Bytes bytes) = ⊤
IsPieceWithin many (Row start wide) = (start + wide ≤ many) × (wide ≤ 1024)

-- the pixels of this row are kept from `start` on
pub record IsKeptAt (pixels : List ℕ) (start : ℕ) (row : List ℕ) : Type 0 where
  pub within : start + length row ≤ length pixels
  pub same : slice_range pixels start (start + length row) ≡ row
