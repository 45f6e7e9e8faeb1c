use Rattle.std.proofs.Common.{◌≡◌, ◌<◌}
use Rattle.tr_base.specs.declared.Point.{Point}
use Rattle.tr_base.specs.declared.NodeId.{NodeId}
use Rattle.tr_base.specs.Rects.{before_shift, has_point}
use Rattle.tr_tree.specs.Places.{domain}
use Rattle.tr_surface.specs.Survivors.{way_from}
use Rattle.tr_surface.proofs.tree_changes.TreeChange.moves_all.Given as goal

-- the nodes so far move as their points do
abbrev pub invariant-loop-i : goal.invariant-loop-i
invariant-loop-i l = (m : NodeId) (p : Point) → m.0 < l.i → has_point (domain l.self.is.now m) p
    ≡ has_point (domain l.self.was.now m) (before_shift p (way_from l.self.was.now l.self.is.now l.self.moved m))
