use Rattle.std.proofs.Common.{drop}
use Rattle.tr_base.specs.Rects.{before_shift}
use Rattle.tr_screen.specs.Pictures.{pixel_of}
use Rattle.tr_screen.specs.Runs.{Repaints}
use Rattle.tr_repair.specs.Walks.{in_row}
use Rattle.tr_repair.proofs.moving.move_row_back.Given as goal

-- the rectangles from i on have their new pixels
abbrev pub invariant-loop-i : goal.invariant-loop-i
invariant-loop-i l = Repaints (in_row l.v (drop l.i l.row)) (λ p. pixel_of l.fn.screen (before_shift p l.fn.delta)) l.fn.screen l.screen
