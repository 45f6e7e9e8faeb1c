use Rattle.tr_paint.specs.Batches.{IsBatch}
use Rattle.tr_exec_tests.proofs.traces.copies_of.Given as goal

-- the copies so far are a batch
abbrev pub invariant-loop-i : goal.invariant-loop-i
invariant-loop-i g l = IsBatch l.copies.items
