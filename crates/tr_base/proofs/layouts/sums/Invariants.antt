use Rattle.std.proofs.Common.{◌≡◌, take, map}
use Rattle.tr_base.specs.Layouts.{along, sums_of}
use Rattle.tr_base.proofs.layouts.sums.Given as goal

abbrev pub invariant-loop-child : goal.invariant-loop-child
invariant-loop-child l = l.all ≡ sums_of (map (along l.down) (take l.child-index l.children))
