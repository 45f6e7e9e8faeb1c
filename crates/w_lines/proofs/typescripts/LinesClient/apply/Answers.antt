use Rattle.std.proofs.Math.Seq.{take-append_seam}
use Rattle.tr_paint.specs.Traces.{look_of}
use Rattle.w_lines.proofs.typescripts.LinesClient.apply.Goals as goal

pub returns-in-Err-take-clause-batch_err : goal.returns-in-Err-take-clause-batch_err
returns-in-Err-take-clause-batch_err c =
    let put = c.in_default.ensures.ok (look_of c.args._env.now.kind c.args._env.now.font.now) in
    rw (c.truncate-in-Err-take.ensures, c.len-before.ensures.value, put) (take-append_seam c.args.batch.now _)

pub returns-clause-batch_ok : goal.returns-clause-batch_ok
returns-clause-batch_ok c = c.in_default.ensures.ok (look_of c.args._env.now.kind c.args._env.now.font.now)
