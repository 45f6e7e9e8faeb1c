-- A screen after one of its rows was lent.
use Rattle.std.specs.Prelude.{ℕ, List}
use Rattle.std.specs.Borrow.{Lends, MutBor, Fml, u8, Array}
use Rattle.tr_screen.specs.Pictures.{Picture, overwritten}
use Rattle.tr_screen.specs.contracts.screens.Screen.{the_row}

-- the final screen has the last value of r written over row v
abbrev pub LendsRow : MutBor Picture → ℕ → MutBor (List ℕ) → Fml
LendsRow p v r = Lends the_row (Array u8 0) p r (overwritten p.now v)
