use Rattle.std.proofs.Common.{◌+◌, take, arith}
use Rattle.std.specs.List.{flat_map}
use Rattle.std.proofs.lemmas.List.{get_or_default}
use Rattle.tr_run.specs.Runs.{reporting}
use Rattle.tr_serial.proofs.CueLemmas.{flat_map_next}
use Rattle.tr_serial.proofs.StreamLemmas.{mirrors_more}
use Rattle.tr_serial.proofs.mirrors.mirror_all.Goals as goal

pub loop-query-preserved : goal.loop-query-preserved
loop-query-preserved g c =
    let k = c.loop-query.query-index in
    let within = c.loop-query-test.true in
    record {
      mirrors = mirrors_more g.C.Client g.C.Cmd.Command.words c.args.run.now c.loop-query.run c.mirror_one.new.run
          (flat_map reporting (take k c.args.reports.now)) (reporting _) (flat_map reporting (take (k + 1) c.args.reports.now))
          c.args.stream.now c.loop-query.stream c.mirror_one.new.stream
          c.loop-query.invariant.mirrors c.in_ok-mirror_one.ensures.mirrors
          (flat_map_next reporting c.args.reports.now k _ (record { within = within; is = get_or_default c.args.reports.now k _ _ within }));
      count = omega (arith, c.loop-query.invariant.count, c.in_ok-mirror_one.ensures.count);
    }
