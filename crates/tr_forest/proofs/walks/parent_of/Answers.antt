use Rattle.tr_forest.proofs.Steps.{parent_in}
use Rattle.tr_forest.proofs.walks.parent_of.Goals as goal

pub returns-clause-within : goal.returns-clause-within
returns-clause-within c = parent_in c.args.family.now c.args.n c.parent.result c.requires.forest c.parent.ensures
