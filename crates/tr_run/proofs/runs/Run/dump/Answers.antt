use Rattle.tr_run.proofs.RunLemmas.{dumps, dumps_some, settles_some}
use Rattle.tr_base.proofs.ResultFacts.{on_err}
use Rattle.tr_run.proofs.runs.Run.dump.Goals as goal

pub returns-clause-ok : goal.returns-clause-ok
returns-clause-ok g c =
    dumps g.C.Client g.C.Cmd.Command.words c.args.self.now c.settle.new.self c.answer.new.self c.in_ok-settle.ensures.lines c.in_ok-answer.ensures.ok

pub returns-in_err-settle-clause-err : goal.returns-in_err-settle-clause-err
returns-in_err-settle-clause-err g c =
    on_err c.from_residual.result
    (settles_some g.C.Client g.C.Cmd.Command.words c.args.self.now c.settle.new.self c.in_err-settle.ensures.err)

pub returns-in_err-answer-clause-err : goal.returns-in_err-answer-clause-err
returns-in_err-answer-clause-err g c =
    on_err c.from_residual-in_err-answer.result
    (dumps_some g.C.Client g.C.Cmd.Command.words c.args.self.now c.settle.new.self c.answer.new.self c.in_ok-settle.ensures.lines
    c.in_err-answer.ensures.err)
