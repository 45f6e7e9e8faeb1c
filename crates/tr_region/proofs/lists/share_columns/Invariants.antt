use Rattle.std.proofs.Common.{◌≡◌, true, ◌+◌, ◌-◌, ◌<ℤ◌, length, drop}
use Rattle.tr_base.specs.declared.Point.{Point}
use Rattle.tr_region.specs.Points.{holds}
use Rattle.tr_region.proofs.ApartLemmas.{IsLeft}
use Rattle.tr_region.proofs.lists.share_columns.Given as goal

-- the points that the lists have in common are in both of what is left of them
abbrev pub invariant-loop-i : goal.invariant-loop-i
invariant-loop-i l = record {
  first : IsLeft l.row (drop l.i l.first);
  second : IsLeft l.row (drop l.j l.second);
  common : (p : Point) → p.v <ℤ l.row → holds l.first p ≡ true → holds l.second p ≡ true →
      (holds (drop l.i l.first) p ≡ true) × (holds (drop l.j l.second) p ≡ true);
}

abbrev pub decreases-loop-i : goal.decreases-loop-i
decreases-loop-i l = (length l.first - l.i) + (length l.second - l.j)
