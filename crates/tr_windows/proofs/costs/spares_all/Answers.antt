use Rattle.std.proofs.Common.{take}
use Rattle.tr_paint.specs.Views.{viewed}
use Rattle.tr_paint.proofs.BatchLemmas.{take_next}
use Rattle.tr_windows.proofs.LossLemmas.{loses-more}
use Rattle.tr_windows.proofs.costs.spares_all.Goals as goal

pub loop-i-preserved : goal.loop-i-preserved
loop-i-preserved c =
    let commands = c.args.batch.now in
    let i = c.loop-i.i in
    let paint = viewed c.get-paint.result in
    λ look. rw (take_next commands i paint c.get-paint.ensures.value)
    (loses-more c.args.exposure.now look (take i commands) (c.loop-i.invariant look) paint (c.spares.ensures c.if-not-spares.false))
