use Rattle.std.proofs.Common.{◌≡◌, ◌≤ℤ◌, drop}
use Rattle.tr_base.specs.declared.Point.{Point}
use Rattle.tr_region.specs.Points.{holds}
use Rattle.tr_region.specs.RowParts.{AreInOrder}
use Rattle.tr_region.proofs.lists.from_row.Given as goal

abbrev pub invariant-loop-at : goal.invariant-loop-at
invariant-loop-at l = record {
  order : AreInOrder (drop l.at l.rects);
  points : (p : Point) → l.row ≤ℤ p.v → holds l.rects p ≡ holds (drop l.at l.rects) p;
}
