use Rattle.std.proofs.Common.{◌≡◌, length, take}
use Rattle.tr_stack.specs.Stacks.{page_places}
use Rattle.tr_tree.proofs.domains.place_pages.Given as goal

abbrev pub invariant-loop-i : goal.invariant-loop-i
invariant-loop-i l = record {
  count : length l.places ≡ length l.fn.places;
  so_far : take l.i l.places ≡ page_places l.rect l.per l.page l.i;
}
