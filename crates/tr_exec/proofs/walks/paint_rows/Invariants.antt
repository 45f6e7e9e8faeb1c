use Rattle.tr_screen.specs.Pictures.{pixel_of}
use Rattle.tr_screen.specs.Runs.{Repaints}
use Rattle.tr_repair.specs.Walks.{in_columns, in_part}
use Rattle.tr_exec.specs.Walks.{in_area}
use Rattle.tr_exec.proofs.walks.paint_rows.Given as goal

-- the rows before v are painted
abbrev pub invariant-loop-v : goal.invariant-loop-v
invariant-loop-v g l =
    Repaints (in_part l.band.north l.v (in_area (in_columns l.band.rects.now) (g.B.Brush.area l.brush)))
    (λ p. g.B.Brush.pixel l.brush p (pixel_of l.fn.screen p)) l.fn.screen l.screen
