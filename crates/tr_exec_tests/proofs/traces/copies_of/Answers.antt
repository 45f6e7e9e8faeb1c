use Rattle.std.proofs.Common.{subst, sym}
use Rattle.tr_paint.specs.Batches.{IsKept}
use Rattle.tr_paint.proofs.SumLemmas.{batch-append}
use Rattle.tr_exec_tests.proofs.traces.copies_of.Goals as goal

pub loop-i-preserved : goal.loop-i-preserved
loop-i-preserved g c =
    rw (c.push.ensures.items, c.made.ensures)
    (batch-append _ _ c.loop-i.invariant (subst IsKept (sym (rw c.made-copy.ensures at c.copy.ensures)) c.get.ensures.kept, tt))
