use Rattle.std.proofs.Common.{◌≡◌, false, take}
use Rattle.tr_paint.specs.Batches as spec
use Rattle.tr_paint.proofs.batches.Batch.touches.Given as goal

-- none of the commands so far has the point
abbrev pub invariant-loop-i : goal.invariant-loop-i
invariant-loop-i l = spec.touches (take l.i l.self) l.q ≡ false
