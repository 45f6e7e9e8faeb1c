use Rattle.std.proofs.Common.{◌<◌}
use Rattle.tr_base.specs.declared.LeafId.{LeafId}
use Rattle.tr_stage.specs.Stages.{state}
use Rattle.tr_serial.specs.Values.{IsPaintable}
use Rattle.tr_serial.proofs.values.have_contents.Given as goal

-- so it is with the leaves so far
abbrev pub invariant-loop-n : goal.invariant-loop-n
invariant-loop-n g l = (leaf : LeafId) → leaf.0 < l.n → IsPaintable g.C.Client (state g.C.Client l.stage) leaf
