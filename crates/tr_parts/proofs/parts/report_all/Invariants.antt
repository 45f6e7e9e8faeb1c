use Rattle.std.proofs.Common.{take}
use Rattle.std.specs.List.{flat_map}
use Rattle.tr_run.specs.Runs.{reporting}
use Rattle.tr_run.specs.Views.{Does}
use Rattle.tr_parts.specs.Runs.{HasReported}
use Rattle.tr_parts.proofs.parts.report_all.Given as goal

-- the reports so far were made
abbrev pub invariant-loop-query : goal.invariant-loop-query
invariant-loop-query g l = record {
  reported : HasReported g.C.Client g.C.Cmd.Command.words l.fn.run l.run (take l.query-index l.reports);
  did : Does g.C.Client g.C.Cmd.Command.words l.fn.run l.run (flat_map reporting (take l.query-index l.reports));
}
