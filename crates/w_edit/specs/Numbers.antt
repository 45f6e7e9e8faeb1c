-- The greatest length of a line, and the numbers of rows and columns.
use Rattle.std.specs.Prelude.{ℕ, ◌<◌, ◌≤◌}
use Rattle.tr_client.specs.Texts.{most_lines}

-- the most bytes of a line
abbrev pub most_bytes : ℕ
most_bytes = 80

-- the number of a row is less than the most lines
abbrev pub IsRowNumber : ℕ → Type 0
IsRowNumber row = row < most_lines

-- the number of a column is at most the length of the longest line: that column is behind its last byte
abbrev pub IsColumn : ℕ → Type 0
IsColumn column = column ≤ most_bytes
