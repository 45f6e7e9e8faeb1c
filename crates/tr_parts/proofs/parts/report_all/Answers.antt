use Rattle.std.proofs.lemmas.List.{get_or_default}
use Rattle.tr_base.proofs.ResultFacts.{on_err}
use Rattle.tr_run.proofs.RunLemmas.{Does-none}
use Rattle.tr_parts.proofs.PlayLemmas.{did_next, did_some, reported_next, reported_none}
use Rattle.tr_parts.proofs.parts.report_all.Goals as goal

pub loop-query-init : goal.loop-query-init
loop-query-init g c = record {
  reported = reported_none g.C.Client g.C.Cmd.Command.words c.args.run.now;
  did = Does-none g.C.Client g.C.Cmd.Command.words c.args.run.now;
}

pub loop-query-preserved : goal.loop-query-preserved
loop-query-preserved g c =
    let k = c.loop-query.query-index in
    let within = c.loop-query-test.true in
    let is = get_or_default c.args.reports.now k _ _ within in
    record {
      reported = reported_next g.C.Client g.C.Cmd.Command.words c.args.run.now c.loop-query.run c.report.new.run c.args.reports.now k _
          (within, is) c.loop-query.invariant.reported c.in_ok-report.ensures.ok;
      did = did_next g.C.Client g.C.Cmd.Command.words c.args.run.now c.loop-query.run c.report.new.run c.args.reports.now k _
          (within, is) c.loop-query.invariant.did c.in_ok-report.ensures.did;
    }

pub returns-in_err-report-clause-err : goal.returns-in_err-report-clause-err
returns-in_err-report-clause-err g c =
    let k = c.loop-query.query-index in
    let within = c.loop-query-test.true in
    on_err c.from_residual.result
    (did_some g.C.Client g.C.Cmd.Command.words c.args.run.now c.loop-query.run c.report.new.run c.args.reports.now k _
    (within, get_or_default c.args.reports.now k _ _ within) c.loop-query.invariant.did c.in_err-report.ensures.err)
