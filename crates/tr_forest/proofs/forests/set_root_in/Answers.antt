use Rattle.std.proofs.Common.{sym, subst}
use Rattle.tr_forest.specs.Nodes.{Nodes}
use Rattle.tr_forest.specs.Tables.{IsLeafTable}
use Rattle.tr_forest.proofs.Adding.{kept_rooted}
use Rattle.tr_forest.proofs.forests.set_root_in.Goals as goal

pub returns-clause-kept : goal.returns-clause-kept
returns-clause-kept c = subst (λ (t : Nodes). IsLeafTable t c.args.leaves.now) (sym c.set_root.ensures)
    (kept_rooted c.args.family.now c.args.leaves.now c.args.n c.requires.kept c.requires.node c.requires.top)
