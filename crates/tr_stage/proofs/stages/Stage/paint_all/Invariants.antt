use Rattle.std.proofs.Common.{◌≡◌, [], ◌∷◌, ◌++◌, length, take}
use Rattle.tr_levels.specs.declared.Level.TheVariants.{Mu}
use Rattle.tr_journal.specs.declared.steps.Actor.TheVariants.{Painter}
use Rattle.tr_machine.specs.Replays.{lines_of_steps}
use Rattle.tr_stage.specs.Stages.{state}
use Rattle.tr_stage.proofs.stages.Stage.paint_all.Given as goal

abbrev pub invariant-loop-step : goal.invariant-loop-step
invariant-loop-step g l = record {
  can_next : (goal.iterator-loop-step g).can_next l.step-iterator;
  is_finite : (goal.iterator-loop-step g).is_finite l.step-iterator;
  opening : l.self.opening ≡ l.fn.self.opening;
  journal : l.self.journal ≡ l.fn.self.journal ++
      lines_of_steps g.C.Client Painter (Mu ∷ []) (state g.C.Client l.fn.self) (take (length l.yielded) l.fn.steps.items);
}
