use Rattle.std.proofs.Common.{take}
use Rattle.tr_screen.specs.Pictures.{pixel_of}
use Rattle.tr_screen.specs.Runs.{Repaints}
use Rattle.tr_repair.specs.Walks.{in_row}
use Rattle.tr_exec.specs.Walks.{in_area}
use Rattle.tr_exec.proofs.walks.paint_row.Given as goal

-- the rectangles so far are painted
abbrev pub invariant-loop-rect : goal.invariant-loop-rect
invariant-loop-rect g l =
    Repaints (in_area (in_row l.v (take l.rect-index l.row)) (g.B.Brush.area l.brush))
    (λ p. g.B.Brush.pixel l.brush p (pixel_of l.fn.screen p)) l.fn.screen l.screen
