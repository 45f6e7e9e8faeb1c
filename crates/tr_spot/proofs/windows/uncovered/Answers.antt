use Rattle.std.proofs.Common.{◌&&◌, List, ap}
use Rattle.tr_base.specs.declared.NodeId.{NodeId}
use Rattle.tr_region.specs.Points.{holds}
use Rattle.tr_spot.specs.Ways.{front, is_nobody}
use Rattle.tr_spot.proofs.NodeLemmas.{children_are_nodes}
use Rattle.tr_spot.proofs.ChildLemmas.{holds_as}
use Rattle.tr_spot.proofs.windows.uncovered.Goals as goal

pub outside_all-requires : goal.outside_all-requires
outside_all-requires c = children_are_nodes c.args.tree.now.nodes c.requires.forest c.args.n c.children.result.now c.children.ensures

pub returns : goal.returns
returns c = holds_as c.outside_all.result
    (λ p. holds c.args.part p && is_nobody (front c.args.tree.now p c.children.result.now)) _
    (λ p. ap (λ (ks : List NodeId). holds c.args.part p && is_nobody (front c.args.tree.now p ks)) c.children.ensures) c.outside_all.ensures
