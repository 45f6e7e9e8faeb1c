use Rattle.std.proofs.Common.{◌≡◌, length}
use Rattle.tr_tree.proofs.LayLemmas.{Spreading}
use Rattle.tr_tree.proofs.domains.spread.Given as goal

-- the children so far have their places
abbrev pub invariant-loop-i : goal.invariant-loop-i
invariant-loop-i l = record {
  count : length l.domains.items ≡ length l.fn.domains.items;
  so_far : Spreading l.children l.places.items l.fn.domains.items l.i l.domains.items;
}
