use Rattle.std.proofs.Common.{◌≡◌, length, map, take}
use Rattle.tr_tree.specs.Tables.{shape_in}
use Rattle.tr_tree.proofs.domains.gather.Given as goal

-- the shapes of the children so far
abbrev pub invariant-loop-i : goal.invariant-loop-i
invariant-loop-i l = record {
  count : length l.gathered.items ≡ length l.fn.gathered.items;
  so_far : take l.i l.gathered.items ≡ map (shape_in l.shapes) (take l.i l.children);
}
