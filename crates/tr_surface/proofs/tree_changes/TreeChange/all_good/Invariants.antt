use Rattle.std.proofs.Common.{◌≡◌, ◌<◌, length}
use Rattle.tr_base.specs.declared.Point.{Point}
use Rattle.tr_base.specs.declared.NodeId.{NodeId}
use Rattle.tr_region.specs.Points.{holds}
use Rattle.tr_spot.specs.Spots.{region_of}
use Rattle.tr_surface.specs.Survivors.{good_at}
use Rattle.tr_surface.proofs.tree_changes.TreeChange.all_good.Given as goal

-- the nodes so far have their good points
abbrev pub invariant-loop-i : goal.invariant-loop-i
invariant-loop-i g l = record {
  count : length l.good.items ≡ l.i;
  points : (m : NodeId) (p : Point) → m.0 < l.i → holds (region_of l.good.items m) p
      ≡ good_at (g.K.Keeper.keeping l.keeper) l.self.was.now l.self.is.now l.self.moved l.self.good.now m p;
}
