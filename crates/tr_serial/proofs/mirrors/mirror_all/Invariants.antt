use Rattle.std.proofs.Common.{◌≤◌, ◌+◌, take}
use Rattle.std.specs.List.{flat_map}
use Rattle.tr_run.specs.Runs.{reporting}
use Rattle.tr_serial.specs.Streams.{Mirrors}
use Rattle.tr_serial.proofs.mirrors.mirror_all.Given as goal

-- the reports so far were made, and each has appended one group at most
abbrev pub invariant-loop-query : goal.invariant-loop-query
invariant-loop-query g l = record {
  mirrors : Mirrors g.C.Client g.C.Cmd.Command.words l.fn.run l.run (flat_map reporting (take l.query-index l.reports)) l.fn.stream l.stream;
  count : l.stream.writer.cuts ≤ l.fn.stream.writer.cuts + l.query-index;
}
