use Rattle.std.proofs.Common.{◌≡◌, length}
use Rattle.tr_tree.proofs.FillLemmas.{AreFilled}
use Rattle.tr_tree.proofs.wishes.fill_shapes.Given as goal

abbrev pub invariant-loop-k : goal.invariant-loop-k
invariant-loop-k l = record {
  room : length l.room.items ≡ length l.fn.room.items;
  count : length l.shapes.items ≡ length l.fn.shapes.items;
  filled : AreFilled l.forest l.k l.shapes.items;
}
