use Rattle.std.proofs.Common.{◌≡◌, ◌-◌, drop, length}
use Rattle.tr_forest.specs.Families.{depth}
use Rattle.tr_tree.proofs.FillLemmas.{Filling}
use Rattle.tr_tree.proofs.wishes.+fill_below.Given as goal

-- how many levels there may be below
abbrev pub decreases-fill_below : goal.decreases-fill_below
decreases-fill_below l = 17 - depth l.forest.now l.n

abbrev pub invariant-loop-c : goal.invariant-loop-c
invariant-loop-c l = record {
  room : length l.room.items ≡ length l.fn.room.items;
  count : length l.shapes.items ≡ length l.fn.shapes.items;
  filling : Filling l.forest l.n (drop l.c-index l.c-items) l.fn.shapes.items l.shapes.items;
}
