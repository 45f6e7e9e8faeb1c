-- Whole rows.
use Rattle.std.specs.Prelude.{ℕ, ◌+◌, List, ◌++◌, take, drop}

-- the n bytes at `to` become those that were at `from`, and the others stay
abbrev pub copied_within : ℕ → ℕ → ℕ → List ℕ → List ℕ
copied_within from to n rows = take to rows ++ (take n (drop from rows) ++ drop (to + n) rows)
