use Rattle.std.proofs.Common.{ap, ◌∙◌}
use Rattle.tr_paint.specs.Traces.{look_of}
use Rattle.w_edit.specs.Contents.{Contents}
use Rattle.w_edit.specs.Flat.{flat_text}
use Rattle.w_edit.specs.FlatLaws.{flat_steps}
use Rattle.w_edit.proofs.clients.EditorClient.apply.Goals as goal

pub returns-clause-batch_ok : goal.returns-clause-batch_ok
returns-clause-batch_ok c = c.in_default.ensures.patch (look_of c.args._env.now.kind c.args._env.now.font.now)

pub returns-clause-flat : goal.returns-clause-flat
returns-clause-flat c =
    ap (λ (y : Contents). flat_text y) c.in_default.ensures.next
    ∙ flat_steps c.args.self.now c.args.cmd.now c.invariant.ensures
