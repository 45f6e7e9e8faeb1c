use Rattle.std.proofs.Common.{sym, subst}
use Rattle.tr_forest.specs.Nodes.{Nodes}
use Rattle.tr_forest.specs.Tables.{IsLeafTable}
use Rattle.tr_forest.specs.Edits.{edited}
use Rattle.tr_forest.proofs.Keeping.{kept}
use Rattle.tr_forest.proofs.Editing.{follows_edited}
use Rattle.tr_forest.proofs.forests.edit_in.Goals as goal

pub returns-clause-kept : goal.returns-clause-kept
returns-clause-kept c = subst (λ (t : Nodes). IsLeafTable t c.args.leaves.now) (sym c.in_ok-apply.ensures.ok)
    (kept c.args.family.now (edited c.args.family.now c.args.edit.now) c.args.leaves.now c.requires.kept
    (follows_edited c.args.family.now c.args.edit.now c.requires.kept.forest c.requires.edit (sym c.in_default.ensures)))
