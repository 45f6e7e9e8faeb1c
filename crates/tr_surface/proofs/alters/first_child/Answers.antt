use Rattle.std.proofs.Common.{arith}
use Rattle.tr_forest.proofs.Steps.{child_in}
use Rattle.tr_surface.proofs.alters.first_child.Goals as goal

pub returns-in-len1-up-clause-node : goal.returns-in-len1-up-clause-node
returns-in-len1-up-clause-node c =
    child_in c.args.tree.now.nodes c.args.n c.children.result.now 0 (record { 0 = 0 }) c.invariant.ensures.forest
    c.children.ensures (omega (arith, c.in-len1-up.len_at_least))
