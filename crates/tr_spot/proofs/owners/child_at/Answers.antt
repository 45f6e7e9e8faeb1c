use Rattle.std.proofs.Common.{arith}
use Rattle.tr_spot.proofs.NodeLemmas.{listed_below}
use Rattle.tr_spot.proofs.owners.child_at.Goals as goal

pub domain-requires : goal.domain-requires
domain-requires c =
    (listed_below c.args.tree.now.nodes c.requires.forest c.args.n c.children-child-items.result.now c.loop-child.child-index
    c.children-child-items.ensures (omega arith)).is_node
