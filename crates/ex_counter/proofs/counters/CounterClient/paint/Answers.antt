use Rattle.tr_base.specs.Rects.{meet_of, whole_of}
use Rattle.tr_paint.specs.Traces.{look_of}
use Rattle.ex_counter.specs.CounterLaws.{counter_painting}
use Rattle.ex_counter.proofs.counters.CounterClient.paint.Goals as goal

pub returns-clause-painting : goal.returns-clause-painting
returns-clause-painting c =
    rw (c.in_ok-batch.ensures, c.part_of_window.ensures.edges)
    (counter_painting (look_of c.args._env.now.kind c.args._env.now.font.now) c.args.size (meet_of (whole_of c.args.size) c.args.clip) c.args.self.now)
