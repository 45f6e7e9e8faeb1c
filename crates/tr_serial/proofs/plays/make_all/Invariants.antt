use Rattle.std.proofs.Common.{length, take}
use Rattle.std.specs.Prelude.{map}
use Rattle.tr_run.specs.Runs.{makes}
use Rattle.tr_run.specs.Views.{Does}
use Rattle.tr_serial.proofs.ListLemmas.{IsLeft, taken}
use Rattle.tr_serial.proofs.plays.make_all.Given as goal

-- the steps that were taken out were made
abbrev pub invariant-loop-actor : goal.invariant-loop-actor
invariant-loop-actor g l = record {
  left : IsLeft l.fn.steps.items l.left.items;
  did : Does g.C.Client g.C.Cmd.Command.words l.fn.run l.run
      (map (λ made. makes made.0 made.1) (take (taken l.fn.steps.items l.left.items) l.fn.steps.items));
}

abbrev pub decreases-loop-actor : goal.decreases-loop-actor
decreases-loop-actor g l = length l.left.items
