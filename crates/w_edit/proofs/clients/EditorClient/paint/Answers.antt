use Rattle.tr_paint.specs.Traces.{look_of}
use Rattle.w_edit.proofs.clients.EditorClient.paint.Goals as goal

pub returns-clause-painting : goal.returns-clause-painting
returns-clause-painting c =
    let painted = c.in_ok-batch.ensures (look_of c.args._env.now.kind c.args._env.now.font.now) in
    rw c.part_of_window.ensures.edges at painted
