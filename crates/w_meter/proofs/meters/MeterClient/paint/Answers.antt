use Rattle.tr_base.specs.Rects.{whole_of}
use Rattle.tr_paint.specs.Traces.{look_of}
use Rattle.tr_client.proofs.PlainLemmas.{meet-inside}
use Rattle.w_meter.proofs.meters.MeterClient.paint.Goals as goal

pub paints-requires-clause-part : goal.paints-requires-clause-part
paints-requires-clause-part c = rw c.part_of_window.ensures.edges (meet-inside (whole_of c.args.size) _)

pub returns-clause-painting : goal.returns-clause-painting
returns-clause-painting c =
    let painted = c.in_ok-batch.ensures (look_of c.args._env.now.kind c.args._env.now.font.now) in
    rw c.part_of_window.ensures.edges at painted
