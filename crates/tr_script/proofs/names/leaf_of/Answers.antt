use Rattle.tr_script.proofs.NameLemmas.{leaves_within}
use Rattle.tr_script.proofs.names.leaf_of.Goals as goal

pub returns-clause-within : goal.returns-clause-within
returns-clause-within c = leaves_within c.args.reader.now c.args.name.now c.leaf.result c.known.ensures c.leaf.ensures
