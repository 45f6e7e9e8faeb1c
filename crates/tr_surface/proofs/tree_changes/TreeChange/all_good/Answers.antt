use Rattle.tr_base.specs.declared.Point.{Point}
use Rattle.tr_base.specs.declared.NodeId.{NodeId}
use Rattle.tr_surface.specs.Survivors.{good_at}
use Rattle.tr_surface.proofs.GoodLemmas.{count_push, regions_push}
use Rattle.tr_surface.proofs.tree_changes.TreeChange.all_good.Goals as goal

pub loop-i-preserved : goal.loop-i-preserved
loop-i-preserved g c =
    let s = c.args.self.now in
    record {
      count = count_push c.loop-i.good.items c.push.new.self.items c.loop-i.i c.in-Ok.region c.loop-i.invariant.count c.in-Ok-push.ensures.items;
      points = regions_push (λ (m : NodeId) (p : Point). good_at (g.K.Keeper.keeping c.args.keeper.now) s.was.now s.is.now s.moved s.good.now m p)
          c.loop-i.good.items c.push.new.self.items c.loop-i.i c.in-Ok.region c.loop-i.invariant.count c.in-Ok-push.ensures.items
          c.loop-i.invariant.points c.in-Ok.ensures;
    }
