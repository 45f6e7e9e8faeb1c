use Rattle.std.proofs.Common.{take}
use Rattle.tr_base.specs.Rects.{before_shift}
use Rattle.tr_screen.specs.Pictures.{pixel_of}
use Rattle.tr_screen.specs.Runs.{Repaints}
use Rattle.tr_repair.specs.Walks.{in_row}
use Rattle.tr_repair.proofs.moving.move_row_forth.Given as goal

-- the rectangles so far have their new pixels
abbrev pub invariant-loop-rect : goal.invariant-loop-rect
invariant-loop-rect l = Repaints (in_row l.v (take l.rect-index l.row)) (λ p. pixel_of l.fn.screen (before_shift p l.fn.delta)) l.fn.screen l.screen
