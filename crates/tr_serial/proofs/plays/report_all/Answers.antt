use Rattle.std.proofs.Common.{◌+◌, take}
use Rattle.std.specs.List.{flat_map}
use Rattle.std.proofs.lemmas.List.{get_or_default}
use Rattle.tr_run.specs.Runs.{reporting}
use Rattle.tr_serial.proofs.CueLemmas.{flat_map_next, goes_on}
use Rattle.tr_serial.proofs.plays.report_all.Goals as goal

pub loop-query-preserved : goal.loop-query-preserved
loop-query-preserved g c =
    let k = c.loop-query.query-index in
    let within = c.loop-query-test.true in
    goes_on g.C.Client g.C.Cmd.Command.words c.args.run.now c.loop-query.run c.report.new.self
    (flat_map reporting (take k c.args.reports.now)) (reporting _) (flat_map reporting (take (k + 1) c.args.reports.now))
    c.loop-query.invariant c.in_ok-report.ensures.ok
    (flat_map_next reporting c.args.reports.now k _ (record { within = within; is = get_or_default c.args.reports.now k _ _ within }))
