use Rattle.std.proofs.Common.{◌≡◌, ◌-◌, suc}
use Rattle.tr_forest.specs.Nodes.{IsNode}
use Rattle.tr_forest.specs.Families.{levels, depth}
use Rattle.tr_spot.specs.Spots.{owner}
use Rattle.tr_spot.proofs.owners.owner_of.Given as goal

-- the walk from here comes to the same owner
abbrev pub invariant-loop-child : goal.invariant-loop-child
invariant-loop-child l = record {
  node : IsNode l.tree.nodes l.n;
  owner : owner l.tree l.n l.p ≡ owner l.tree l.fn.top l.p;
}

abbrev pub decreases-loop-child : goal.decreases-loop-child
decreases-loop-child l = suc levels - depth l.tree.nodes l.n
