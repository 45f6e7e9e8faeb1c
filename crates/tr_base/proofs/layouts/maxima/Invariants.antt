use Rattle.std.proofs.Common.{◌≡◌, take, map}
use Rattle.tr_base.specs.Layouts.{along, maxima_of}
use Rattle.tr_base.proofs.layouts.maxima.Given as goal

abbrev pub invariant-loop-child : goal.invariant-loop-child
invariant-loop-child l = l.all ≡ maxima_of (map (along l.down) (take l.child-index l.children))
