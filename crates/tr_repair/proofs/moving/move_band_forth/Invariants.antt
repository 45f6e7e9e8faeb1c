use Rattle.tr_base.specs.Rects.{before_shift}
use Rattle.tr_screen.specs.Pictures.{pixel_of}
use Rattle.tr_screen.specs.Runs.{Repaints}
use Rattle.tr_repair.specs.Walks.{in_columns, in_part}
use Rattle.tr_repair.proofs.moving.move_band_forth.Given as goal

-- the rows before v have their new pixels
abbrev pub invariant-loop-v : goal.invariant-loop-v
invariant-loop-v l =
    Repaints (in_part l.fn.band.north l.v (in_columns l.fn.band.rects.now))
    (λ p. pixel_of l.fn.screen (before_shift p l.fn.delta)) l.fn.screen l.screen
