-- A screen after one of its runs was lent.
use Rattle.std.specs.Prelude.{ℕ, List}
use Rattle.std.specs.List.{concat}
use Rattle.std.specs.Borrow.{Lends, MutBor, Fml, u8, Array}
use Rattle.tr_screen.specs.declared.runs.Run.{Run}
use Rattle.tr_screen.specs.Pictures.{Picture, picture_of, written_at}
use Rattle.tr_screen.specs.Runs.{start_of}
use Rattle.tr_screen.specs.contracts.screens.Screen.{the_row}

-- the picture with w written over its pixels from the run's first on; `Repaints` describes the painted points
unfoldable pub run_overwritten : Picture → Run → List ℕ → Picture
run_overwritten p r w = picture_of p.size p.kind (written_at (concat p.rows) (start_of p.size r) w)

-- the final screen has the last value of the pixels written over the run
abbrev pub LendsRun : MutBor Picture → Run → MutBor (List ℕ) → Fml
LendsRun p r pixels = Lends the_row (Array u8 0) p pixels (run_overwritten p.now r)
