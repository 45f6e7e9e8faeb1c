use Rattle.std.proofs.lemmas.Result.{on_ok_weaker, on_err_weaker}
use Rattle.tr_run.proofs.RunLemmas.{reports, reports_some}
use Rattle.tr_run.proofs.runs.Run.report.Goals as goal

pub returns-in_default-clause-ok : goal.returns-in_default-clause-ok
returns-in_default-clause-ok g c =
    on_ok_weaker c.answer.result
    (λ made. reports g.C.Client g.C.Cmd.Command.words c.args.self.now c.answer.new.self c.args.query c.in_default.not-Dump made) c.answer.ensures.ok

pub returns-in_default-clause-err : goal.returns-in_default-clause-err
returns-in_default-clause-err g c =
    on_err_weaker c.answer.result
    (λ unmade. reports_some g.C.Client g.C.Cmd.Command.words c.args.self.now c.answer.new.self c.args.query c.in_default.not-Dump unmade)
    c.answer.ensures.err
