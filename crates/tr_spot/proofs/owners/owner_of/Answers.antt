use Rattle.std.proofs.Common.{sym, ◌∙◌, arith}
use Rattle.tr_spot.proofs.NodeLemmas.{IsBelow}
use Rattle.tr_spot.proofs.OwnerLemmas.{front_below, owner_goes_on, owner_stays}
use Rattle.tr_spot.proofs.owners.owner_of.Goals as goal

pub loop-child-smaller : goal.loop-child-smaller
loop-child-smaller c =
    let below : IsBelow c.args.tree.now.nodes c.loop-child.n c.in-Some.child =
    front_below c.args.tree.now c.requires.forest c.loop-child.n c.in-Some.child c.args.p (sym c.in-Some.ensures) in
    omega (arith, below.deeper, below.most)

pub loop-child-preserved : goal.loop-child-preserved
loop-child-preserved c = record {
  node = (front_below c.args.tree.now c.requires.forest c.loop-child.n c.in-Some.child c.args.p (sym c.in-Some.ensures)).is_node;
  owner = sym (owner_goes_on c.args.tree.now c.requires.forest c.loop-child.n c.in-Some.child c.args.p (sym c.in-Some.ensures)) ∙ c.loop-child.invariant.owner;
}

pub returns-clause-owner : goal.returns-clause-owner
returns-clause-owner c =
    sym (owner_stays c.args.tree.now c.requires.forest c.loop-child.n c.args.p (sym c.child_at.ensures ∙ c.in_default.is)) ∙ c.loop-child.invariant.owner
