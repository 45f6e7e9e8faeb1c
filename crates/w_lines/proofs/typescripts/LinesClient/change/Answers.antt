use Rattle.tr_paint.specs.Traces.{look_of}
use Rattle.w_lines.proofs.typescripts.LinesClient.change.Goals as goal

pub returns-clause-patch : goal.returns-clause-patch
returns-clause-patch c = rw c.new-patch.ensures at (c.in_ok-put_patch.ensures.ok (look_of c.args._env.now.kind c.args._env.now.font.now))
