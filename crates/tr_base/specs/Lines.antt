-- Short texts, each painted in one line.
use Rattle.std.specs.Prelude.{ℕ, ◌≤◌, ◌&&◌, nat_le, Bool, List, length}
use Rattle.std.specs.List.{AllPass}

-- a byte that may occur in a text: 32 to 126
abbrev pub is_printable : ℕ → Bool
is_printable c = nat_le 32 c && nat_le c 126

-- a text of at most 80 such bytes
pub record IsLine (text : List ℕ) : Type 0 where
  pub short : length text ≤ 80
  pub printable : AllPass is_printable text
