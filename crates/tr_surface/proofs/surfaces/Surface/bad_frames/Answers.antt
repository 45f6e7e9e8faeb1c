use Rattle.tr_base.specs.declared.Point.{Point}
use Rattle.tr_base.specs.declared.NodeId.{NodeId}
use Rattle.std.proofs.Common.{◌&&◌}
use Rattle.tr_spot.specs.Spots.{is_on_frame, spot}
use Rattle.tr_surface.specs.Surfaces.{is_bad}
use Rattle.tr_surface.proofs.GoodLemmas.{count_push, regions_push}
use Rattle.tr_surface.proofs.surfaces.Surface.bad_frames.Goals as goal

pub loop-n-preserved : goal.loop-n-preserved
loop-n-preserved c = record {
  count = count_push c.loop-n.frames.items c.push.new.self.items c.loop-n.n c.in-Ok.bad c.loop-n.invariant.count c.in-Ok-push.ensures.items;
  points = regions_push (λ (m : NodeId) (p : Point). is_bad c.args.self.now p && is_on_frame m (spot c.args.self.now.tree p))
      c.loop-n.frames.items c.push.new.self.items c.loop-n.n c.in-Ok.bad c.loop-n.invariant.count
      c.in-Ok-push.ensures.items c.loop-n.invariant.points c.in-Ok.ensures;
}
