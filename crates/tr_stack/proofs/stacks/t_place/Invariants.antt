use Rattle.std.proofs.Common.{◌≡◌}
use Rattle.tr_stack.specs.Stacks.{t_places}
use Rattle.tr_stack.proofs.stacks.t_place.Given as goal

abbrev pub invariant-loop-k : goal.invariant-loop-k
invariant-loop-k l = l.places.items ≡ t_places l.rect l.shown l.k
