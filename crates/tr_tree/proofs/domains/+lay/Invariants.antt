use Rattle.std.proofs.Common.{◌≡◌, ◌-◌, length, drop}
use Rattle.tr_forest.specs.Families.{depth}
use Rattle.tr_tree.specs.Laying.{laid, HasRoom}
use Rattle.tr_tree.proofs.LayLemmas.{Laying}
use Rattle.tr_tree.proofs.domains.+lay.Given as goal

-- no node lies deeper than 16, and each child is one deeper
abbrev pub decreases-lay : goal.decreases-lay
decreases-lay l = 17 - depth l.plan.now.forest.now l.n

-- the children so far are laid, with all below them
abbrev pub invariant-loop-child : goal.invariant-loop-child
invariant-loop-child l = record {
  room : HasRoom l.plan.forest.now l.room;
  count : length l.domains.items ≡ length l.plan.forest.now.entries;
  laying : Laying (laid l.plan.forest.now l.plan.size) l.fn.n l.fn.domains.items l.children (drop l.child-index l.children) l.domains.items;
}
