use Rattle.std.proofs.Common.{List, None, sym, subst, []}
use Rattle.tr_base.specs.declared.NodeId.{NodeId}
use Rattle.tr_forest.specs.Nodes.{Nodes}
use Rattle.tr_forest.specs.Tables.{IsLeafTable}
use Rattle.tr_forest.proofs.Adding.{kept_nothing}
use Rattle.tr_forest.proofs.forests.Forest.new.Goals as goal

pub invariant_of-result : goal.invariant_of-result
invariant_of-result c = subst (λ (t : Nodes). IsLeafTable t c.new-2.result.items) (sym c.new.ensures)
    (subst (λ (ns : List NodeId). IsLeafTable (record { entries = []; root = None }) ns) (sym c.new-2.ensures.items) kept_nothing)
