use Rattle.std.proofs.Common.{◌≡◌, true, ◌+◌, length}
use Rattle.tr_base.specs.declared.Point.{Point}
use Rattle.tr_region.specs.Points.{holds}
use Rattle.tr_region.specs.RowParts.{AreInOrder}
use Rattle.tr_region.proofs.lists.are_apart.Given as goal

-- the points that the lists have in common are in both of what is left of them
abbrev pub invariant-loop-first : goal.invariant-loop-first
invariant-loop-first l = record {
  first : AreInOrder l.first;
  second : AreInOrder l.second;
  common : (p : Point) → holds l.fn.first p ≡ true → holds l.fn.second p ≡ true → (holds l.first p ≡ true) × (holds l.second p ≡ true);
}

abbrev pub decreases-loop-first : goal.decreases-loop-first
decreases-loop-first l = length l.first + length l.second
