use Rattle.std.proofs.Common.{sym, ap}
use Rattle.tr_forest.specs.Nodes.{leaf_of}
use Rattle.tr_surface.proofs.goods.leaf_in.Goals as goal

pub returns-in-Leaf-clause-leaf : goal.returns-in-Leaf-clause-leaf
returns-in-Leaf-clause-leaf c = c.invariant.ensures.forest.numbered c.args.n c.in-Leaf.leaf (sym (ap leaf_of c.in-Leaf.ensures))
