-- Private contracts alone cite this file.
-- Spelled lines that are kept for equal rows.
use Rattle.std.specs.Prelude.{◌≡◌, ℕ, ◌+◌, ◌*◌, ◌≤◌, List, length, take, slice_range}
use Rattle.tr_output.specs.declared.lines.Line.{Line}
use Rattle.tr_output.specs.Texts.{row_text}

-- the text begins with the line of its row
pub record SpellsRow (pixels : List ℕ) (line : Line) : Type 0 where
  pub long : length line.text.items ≡ 2049
  pub wide : line.wide ≤ 1024
  pub text : take (2 * line.wide + 1) line.text.items ≡ row_text (slice_range pixels line.start (line.start + line.wide))
