use Rattle.std.proofs.Common.{take}
use Rattle.tr_screen.specs.Runs.{Repaints}
use Rattle.tr_spot.specs.Spots.{spot}
use Rattle.tr_surface.specs.Surfaces.{any_holds, frame_colour}
use Rattle.tr_surface.proofs.frames.paint_frames.Given as goal

-- the frames of the nodes before n are painted
abbrev pub invariant-loop-n : goal.invariant-loop-n
invariant-loop-n l = Repaints (any_holds (take l.n l.frames)) (λ p. frame_colour (spot l.tree p)) l.fn.screen l.screen
