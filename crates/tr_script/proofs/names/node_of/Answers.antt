use Rattle.tr_script.proofs.NameLemmas.{nodes_within}
use Rattle.tr_script.proofs.names.node_of.Goals as goal

pub returns-clause-within : goal.returns-clause-within
returns-clause-within c = nodes_within c.args.reader.now c.args.name.now c.node.result c.known.ensures c.node.ensures
