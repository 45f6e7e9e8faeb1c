use Rattle.std.proofs.Common.{◌≡◌}
use Rattle.tr_base.specs.declared.Point.{Point}
use Rattle.tr_region.specs.Points.{holds}
use Rattle.tr_surface.specs.Survivors.{in_moved}
use Rattle.tr_surface.proofs.tree_changes.TreeChange.follows.Given as goal

-- the points of the nodes so far
abbrev pub invariant-loop-i : goal.invariant-loop-i
invariant-loop-i l = (p : Point) → holds l.points p ≡ in_moved l.i l.self.is.now.nodes l.child l.good p
