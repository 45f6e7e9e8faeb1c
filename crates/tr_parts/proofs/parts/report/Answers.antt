use Rattle.std.proofs.Common.{subst}
use Rattle.std.proofs.lemmas.Result.{on_ok_weaker}
use Rattle.tr_stage.specs.Stages.{StageView}
use Rattle.tr_stage.specs.Standings.{Stands}
use Rattle.tr_parts.proofs.PlayLemmas.{has_reported}
use Rattle.tr_parts.proofs.parts.report.Goals as goal

pub returns-clause-ok : goal.returns-clause-ok
returns-clause-ok g c =
    on_ok_weaker c.report.result
    (λ did. has_reported g.C.Client g.C.Cmd.Command.words c.args.run.now c.report.new.self c.args.query
    (subst (λ (s : StageView _ _). Stands g.C.Client s) c.stage.ensures c.invariant.ensures.stands) did) c.report.ensures.ok
