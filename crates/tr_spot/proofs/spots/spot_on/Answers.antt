use Rattle.std.proofs.Common.{sym, ap}
use Rattle.tr_forest.specs.Nodes.{leaf_of}
use Rattle.tr_spot.proofs.spots.spot_on.Goals as goal

pub returns-in-Leaf-clause-leaf : goal.returns-in-Leaf-clause-leaf
returns-in-Leaf-clause-leaf c = c.requires.forest.numbered c.args.n c.in-Leaf.leaf (ap leaf_of (sym c.in-Leaf.ensures))
