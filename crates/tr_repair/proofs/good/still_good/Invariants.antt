use Rattle.std.proofs.Common.{◌≡◌}
use Rattle.tr_base.specs.declared.points.Point.{Point}
use Rattle.tr_region.specs.Points.{holds}
use Rattle.tr_repair.specs.Good.{stays_below}
use Rattle.tr_repair.proofs.good.still_good.Given as goal

-- the points of the parts so far
abbrev pub invariant-loop-i : goal.invariant-loop-i
invariant-loop-i l = (p : Point) → holds l.all p ≡ stays_below l.i l.old l.new p
