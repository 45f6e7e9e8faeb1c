use Rattle.tr_screen.specs.Pictures.{pixel_of}
use Rattle.tr_screen.specs.Runs.{Repaints}
use Rattle.tr_screen.proofs.ResizingLemmas.{in_common}
use Rattle.tr_screen.proofs.screens.Screen.copy_common.Given as goal

-- the rows so far are copied
abbrev pub invariant-loop-v : goal.invariant-loop-v
invariant-loop-v l = Repaints (in_common l.other.size l.v) (pixel_of l.other) l.fn.self l.self
