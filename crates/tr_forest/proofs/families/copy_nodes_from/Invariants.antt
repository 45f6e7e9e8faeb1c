use Rattle.std.proofs.Common.{◌≡◌, take, length}
use Rattle.tr_forest.proofs.families.copy_nodes_from.Given as goal

-- the nodes so far are those of the others
abbrev pub invariant-loop-i : goal.invariant-loop-i
invariant-loop-i l = record {
  count : length l.nodes.items ≡ length l.others;
  so_far : take l.i l.nodes.items ≡ take l.i l.others;
}
