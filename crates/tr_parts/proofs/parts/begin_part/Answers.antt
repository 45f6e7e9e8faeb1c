use Rattle.std.proofs.Common.{if◌then◌else◌, ◌∷◌, []}
use Rattle.std.specs.List.{flat_map}
use Rattle.std.proofs.lemmas.Result.{on_err_weaker}
use Rattle.tr_base.proofs.ResultFacts.{on_err}
use Rattle.tr_journal.specs.declared.Actor.TheVariants.{Player}
use Rattle.tr_journal.specs.declared.Step.TheVariants.{Sync}
use Rattle.tr_run.specs.Runs.{makes, reporting}
use Rattle.tr_run.proofs.RunLemmas.{DoesSome-after, DoesSome-more}
use Rattle.tr_parts.proofs.parts.begin_part.Goals as goal

pub returns-in_err-begin-clause-err : goal.returns-in_err-begin-clause-err
returns-in_err-begin-clause-err g c =
    on_err c.from_residual.result
    (DoesSome-more g.C.Client g.C.Cmd.Command.words c.args.run.now c.begin.new.run
    (if c.args.is_later then makes Player Sync ∷ [] else []) (flat_map reporting c.args.reports.now) c.in_err-begin.ensures.err)

pub returns-clause-err : goal.returns-clause-err
returns-clause-err g c =
    on_err_weaker c.report_all.result
    (λ some. DoesSome-after g.C.Client g.C.Cmd.Command.words c.args.run.now c.begin.new.run c.report_all.new.run
    (if c.args.is_later then makes Player Sync ∷ [] else []) (flat_map reporting c.args.reports.now) c.in_ok-begin.ensures.ok some) c.report_all.ensures.err
