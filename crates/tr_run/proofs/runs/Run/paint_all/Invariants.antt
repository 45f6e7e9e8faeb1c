use Rattle.std.proofs.Common.{[], ◌∷◌, length, take}
use Rattle.tr_levels.specs.declared.Level.TheVariants.{Mu}
use Rattle.tr_journal.specs.declared.steps.Actor.TheVariants.{Painter}
use Rattle.tr_machine.specs.Replays.{lines_of_steps}
use Rattle.tr_stage.specs.Stages.{state}
use Rattle.tr_run.specs.Views.{AddsLines}
use Rattle.tr_run.proofs.runs.Run.paint_all.Given as goal

-- the lines of the steps so far were added
abbrev pub invariant-loop-step : goal.invariant-loop-step
invariant-loop-step g l = record {
  can_next : (goal.iterator-loop-step g).can_next l.step-iterator;
  is_finite : (goal.iterator-loop-step g).is_finite l.step-iterator;
  adds : AddsLines g.C.Client g.C.Cmd.Command.words l.fn.self l.self
      (lines_of_steps g.C.Client Painter (Mu ∷ []) (state g.C.Client l.fn.self.stage) (take (length l.yielded) l.fn.steps.items));
}
