use Rattle.std.proofs.Common.{◌≡◌, drop}
use Rattle.tr_spot.specs.Ways.{front}
use Rattle.tr_spot.proofs.owners.child_at.Given as goal

-- what is first among the children that are left is first among all
abbrev pub invariant-loop-child : goal.invariant-loop-child
invariant-loop-child l = front l.tree l.p (drop l.child-index l.child-items) ≡ front l.tree l.p l.child-items
