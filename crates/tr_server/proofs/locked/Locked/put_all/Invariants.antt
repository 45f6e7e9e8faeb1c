use Rattle.std.proofs.Common.{◌≡◌, length, take}
use Rattle.tr_machine.specs.SharedRepaints.{all_bad_leaves, at_shares}
use Rattle.tr_stage.specs.Stages.{state}
use Rattle.tr_server.specs.Shares.{HasMade}
use Rattle.tr_server.proofs.locked.Locked.put_all.Given as goal

abbrev pub invariant-loop-painted : goal.invariant-loop-painted
invariant-loop-painted g l = record {
  can_next : (goal.iterator-loop-painted g).can_next l.painted-iterator;
  is_finite : (goal.iterator-loop-painted g).is_finite l.painted-iterator;
  opening : l.self.opening ≡ l.fn.self.opening;
  actor : l.pass.actor ≡ l.fn.pass.actor;
  made : HasMade g.C.Client l.fn.self l.self l.fn.pass l.pass
      (take (length l.yielded) (at_shares (all_bad_leaves (state g.C.Client l.fn.self))));
}
