use Rattle.std.proofs.Common.{◌≡◌, ◌++◌, take}
use Rattle.tr_paint.proofs.batches.Batch.append.Given as goal

-- the other batch's commands so far are appended
abbrev pub invariant-loop-i : goal.invariant-loop-i
invariant-loop-i l = l.self ≡ l.fn.self ++ take l.i l.other
