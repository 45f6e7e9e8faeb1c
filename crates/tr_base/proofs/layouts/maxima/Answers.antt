use Rattle.std.proofs.Common.{arith}
use Rattle.tr_base.proofs.LayoutLemmas.{maxima_more}
use Rattle.tr_base.proofs.layouts.maxima.Goals as goal

pub loop-child-preserved : goal.loop-child-preserved
loop-child-preserved c =
    let more = maxima_more c.args.down c.args.children.now c.loop-child.child-index c.child-item.result c.loop-child.all (omega arith) c.child-item.is
    c.loop-child.invariant in
    rw (c.maximum-all.ensures, c.along.ensures) more
