use Rattle.std.proofs.Common.{subst}
use Rattle.tr_forest.specs.Forests.{IsForest}
use Rattle.tr_tree.specs.Trees.{Seen}
use Rattle.tr_tree.proofs.DomainLemmas.{domain_law}
use Rattle.tr_tree.proofs.ShapeLemmas.{shape_law}
use Rattle.tr_tree.proofs.trees.Tree.levels_suffice.Goals as goal

pub returns-clause-shapes : goal.returns-clause-shapes
returns-clause-shapes c = shape_law c.args.self.now.nodes (subst (λ (t : Seen). IsForest t.nodes) c.self.view_is c.invariant.ensures)

pub returns-clause-domains : goal.returns-clause-domains
returns-clause-domains c = domain_law c.args.self.now (subst (λ (t : Seen). IsForest t.nodes) c.self.view_is c.invariant.ensures)
