use Rattle.std.proofs.Common.{◌≤◌, ◌-◌}
use Rattle.tr_region.specs.Points.{holds}
use Rattle.tr_screen.specs.Pictures.{pixel_of}
use Rattle.tr_screen.specs.Runs.{Repaints}
use Rattle.tr_repair.specs.Walks.{in_part}
use Rattle.tr_exec.specs.Walks.{in_area}
use Rattle.tr_exec.proofs.walks.paint_within.Given as goal

-- the rows before v are painted
abbrev pub invariant-loop-v : goal.invariant-loop-v
invariant-loop-v g l = record {
  rows : l.initial.v ≤ l.v;
  done :
      Repaints (in_part l.initial.v l.v (in_area (holds l.visible) (g.B.Brush.area l.brush)))
      (λ p. g.B.Brush.pixel l.brush p (pixel_of l.fn.screen p)) l.fn.screen l.screen;
}

abbrev pub decreases-loop-v : goal.decreases-loop-v
decreases-loop-v g l = l.south - l.v
