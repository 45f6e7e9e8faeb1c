-- The text of a row of pixels.
use Rattle.std.specs.Prelude.{ℕ, List, ◌++◌, codes}
use Rattle.hex.specs.Hex.{encode_lower}

-- a row of pixels: two hex digits for each, and a line feed
abbrev pub row_text : List ℕ → List ℕ
row_text row = encode_lower row ++ codes "\n"
