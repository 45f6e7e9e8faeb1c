use Rattle.std.proofs.Common.{subst}
use Rattle.tr_forest.specs.Nodes.{Nodes}
use Rattle.tr_forest.specs.Forests.{IsForest}
use Rattle.tr_forest.proofs.FamilyLemmas.{depth_law, height_law, under_law}
use Rattle.tr_forest.proofs.forests.Forest.levels_suffice.Goals as goal

pub returns-clause-depths : goal.returns-clause-depths
returns-clause-depths c = λ n. depth_law c.args.self.now n (subst (λ (t : Nodes). IsForest t) c.self.view_is c.self.invariant.forest)

pub returns-clause-heights : goal.returns-clause-heights
returns-clause-heights c = λ n. height_law c.args.self.now n (subst (λ (t : Nodes). IsForest t) c.self.view_is c.self.invariant.forest)

pub returns-clause-under : goal.returns-clause-under
returns-clause-under c = λ top n. under_law c.args.self.now top n (subst (λ (t : Nodes). IsForest t) c.self.view_is c.self.invariant.forest)
