use Rattle.std.proofs.Common.{◌≡◌, ◌+◌, drop}
use Rattle.tr_tree.specs.Places.{index_of}
use Rattle.tr_tree.proofs.domains.index_of.Given as goal

-- the child wasn't among those so far
abbrev pub invariant-loop-i : goal.invariant-loop-i
invariant-loop-i l = index_of l.child l.children ≡ l.i + index_of l.child (drop l.i l.children)
