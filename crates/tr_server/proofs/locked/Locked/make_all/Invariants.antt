use Rattle.std.proofs.Common.{◌≡◌, [], ◌∷◌, length, take}
use Rattle.tr_levels.specs.declared.Level.TheVariants.{Mu}
use Rattle.tr_machine.specs.Replays.{under}
use Rattle.tr_server.specs.Shares.{HasMade}
use Rattle.tr_server.proofs.locked.Locked.make_all.Given as goal

abbrev pub invariant-loop-step : goal.invariant-loop-step
invariant-loop-step g l = record {
  can_next : (goal.iterator-loop-step g).can_next l.step-iterator;
  is_finite : (goal.iterator-loop-step g).is_finite l.step-iterator;
  opening : l.self.opening ≡ l.fn.self.opening;
  actor : l.pass.actor ≡ l.fn.pass.actor;
  made : HasMade g.C.Client l.fn.self l.self l.fn.pass l.pass (take (length l.yielded) (under (Mu ∷ []) l.fn.steps.items));
}
