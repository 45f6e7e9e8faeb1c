use Rattle.std.proofs.Common.{subst, get_or, ap, ◌∙◌}
use Rattle.tr_forest.specs.Nodes.{Nodes, node_of}
use Rattle.tr_forest.specs.Forests.{IsForest}
use Rattle.tr_forest.specs.Tables.{IsLeafTable}
use Rattle.tr_forest.proofs.FamilyLemmas.{same_id}
use Rattle.tr_forest.proofs.Adding.{place_is, place_is_node}
use Rattle.tr_forest.proofs.LeafLemmas.{leaf_is_node_of}
use Rattle.tr_forest.proofs.forests.Forest.node_of.Goals as goal

pub returns-clause-leaf : goal.returns-clause-leaf
returns-clause-leaf c = place_is c.args.self.now c.self.inside.leaves.items c.args.leaf c.index.result.now
    (subst (λ (t : Nodes). IsLeafTable t c.self.inside.leaves.items) c.self.view_is c.self.invariant) c.requires
    (c.index.ensures ∙ ap (λ k. get_or c.self.inside.leaves.items k c.index.result.now) c.from.ensures)

pub returns-clause-node : goal.returns-clause-node
returns-clause-node c = place_is_node c.args.self.now c.index.result.now c.args.leaf (returns-clause-leaf c)

pub returns-clause-is : goal.returns-clause-is
returns-clause-is c = same_id c.index.result.now (node_of c.args.self.now c.args.leaf)
    (leaf_is_node_of c.args.self.now c.index.result.now c.args.leaf (subst (λ (t : Nodes). IsForest t) c.self.view_is c.self.invariant.forest)
    (returns-clause-leaf c))
