use Rattle.std.proofs.Common.{◌≤◌, ◌-◌}
use Rattle.tr_base.specs.Rects.{before_shift}
use Rattle.tr_region.specs.Points.{holds}
use Rattle.tr_screen.specs.Pictures.{pixel_of}
use Rattle.tr_screen.specs.Runs.{Repaints}
use Rattle.tr_repair.specs.Walks.{in_part}
use Rattle.tr_repair.proofs.moving.move_forth.Given as goal

-- the rows before v have their new pixels
abbrev pub invariant-loop-v : goal.invariant-loop-v
invariant-loop-v l = record {
  rows : l.v ≤ l.high;
  done : Repaints (in_part 0 l.v (holds l.within)) (λ p. pixel_of l.fn.screen (before_shift p l.fn.delta)) l.fn.screen l.screen;
}

abbrev pub decreases-loop-v : goal.decreases-loop-v
decreases-loop-v l = l.high - l.v
