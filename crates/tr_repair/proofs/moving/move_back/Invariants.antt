use Rattle.std.proofs.Common.{◌≤◌}
use Rattle.tr_base.specs.Rects.{before_shift}
use Rattle.tr_region.specs.Points.{holds}
use Rattle.tr_screen.specs.Pictures.{pixel_of}
use Rattle.tr_screen.specs.Runs.{Repaints}
use Rattle.tr_repair.specs.Walks.{in_part}
use Rattle.tr_repair.proofs.moving.move_back.Given as goal

-- the rows from v on have their new pixels
abbrev pub invariant-loop-v : goal.invariant-loop-v
invariant-loop-v l = record {
  rows : l.v ≤ l.fn.screen.size.high;
  done : Repaints (in_part l.v l.fn.screen.size.high (holds l.within)) (λ p. pixel_of l.fn.screen (before_shift p l.fn.delta)) l.fn.screen l.screen;
}

abbrev pub decreases-loop-v : goal.decreases-loop-v
decreases-loop-v l = l.v
