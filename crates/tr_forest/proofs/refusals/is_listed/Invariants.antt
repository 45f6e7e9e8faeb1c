use Rattle.std.proofs.Common.{◌≡◌, drop}
use Rattle.tr_forest.specs.Families.{is_among}
use Rattle.tr_forest.proofs.refusals.is_listed.Given as goal

-- the node is among those that are left where it is among all
abbrev pub invariant-loop-m : goal.invariant-loop-m
invariant-loop-m l = is_among l.n (drop l.m-index l.ns) ≡ is_among l.n l.ns
