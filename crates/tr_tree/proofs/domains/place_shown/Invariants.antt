use Rattle.std.proofs.Common.{◌≡◌, length, take}
use Rattle.tr_stack.specs.Stacks.{t_places}
use Rattle.tr_tree.proofs.domains.place_shown.Given as goal

abbrev pub invariant-loop-i : goal.invariant-loop-i
invariant-loop-i l = record {
  count : length l.places ≡ length l.fn.places;
  so_far : take l.i l.places ≡ t_places l.rect l.shown l.i;
}
