use Rattle.tr_spot.proofs.OwnerLemmas.{owner_law}
use Rattle.tr_spot.proofs.owners.levels_suffice.Goals as goal

pub returns : goal.returns
returns c = owner_law c.args.tree.now c.invariant.ensures.forest
