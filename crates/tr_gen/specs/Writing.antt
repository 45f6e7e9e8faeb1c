-- Private contracts alone cite this file.
-- The continuation of a text by drawings.
use Rattle.std.specs.Prelude.{ℕ, List, ◌++◌}
use Rattle.tr_gen.specs.Draws.{Drawing, ◌>>=◌, DrawnValue, give}
use Rattle.tr_gen.specs.Scripts.{text_of_lines}

-- a text, and after it a text that is made with the draws after it
abbrev pub continued : DrawnValue (List ℕ) → Drawing (List ℕ) → DrawnValue (List ℕ)
continued text more = let made = more text.state in record { value = text.value ++ made.value; state = made.state }

-- the text of lines that are made with draws
abbrev pub drawn_text : Drawing (List (List ℕ)) → Drawing (List ℕ)
drawn_text drawing = do
  lines ← drawing
  give (text_of_lines lines)
