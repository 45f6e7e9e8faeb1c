use Rattle.std.proofs.Common.{arith}
use Rattle.tr_chunks.proofs.ChunkLemmas.{none_behind, one_behind}
use Rattle.tr_chunks.proofs.scripts.pass_steps.Goals as goal

pub loop-count-init : goal.loop-count-init
loop-count-init c = record { within = omega arith; behind = none_behind c.args.bytes.now; most = omega arith }

pub loop-count-preserved : goal.loop-count-preserved
loop-count-preserved c =
    let next =
    one_behind c.args.bytes.now c.loop-count.count c.loop-count.behind.now c.first_line.result.0.now c.first_line.result.1.now
    c.loop-count.invariant.behind c.first_line.ensures.lines c.first_line.ensures.shorter in
    record { within = next.1; behind = next.0; most = omega (arith, c.loop-count-test.true) }
