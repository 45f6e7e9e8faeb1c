use Rattle.std.proofs.Common.{subst}
use Rattle.tr_base.specs.Layouts.{IsDomain}
use Rattle.tr_tree.specs.Trees.{Seen}
use Rattle.tr_tree.specs.Places.{domain}
use Rattle.tr_tree.proofs.trees.Tree.domains_are_small.Goals as goal

pub returns : goal.returns
returns c = λ n.
    let laid = c.self.invariant.domains in
    subst (λ (t : Seen). IsDomain (domain t n)) c.self.view_is (subst IsDomain (laid.each c.self.inside.kind n) (laid.small n))
