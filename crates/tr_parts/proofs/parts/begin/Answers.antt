use Rattle.std.proofs.lemmas.Result.{on_err_weaker}
use Rattle.tr_journal.specs.declared.Actor.TheVariants.{Player}
use Rattle.tr_journal.specs.declared.Step.TheVariants.{Sync}
use Rattle.tr_run.proofs.RunLemmas.{makes_some}
use Rattle.tr_parts.proofs.parts.begin.Goals as goal

pub returns-then-is_later-clause-err : goal.returns-then-is_later-clause-err
returns-then-is_later-clause-err g c =
    on_err_weaker c.make.result
    (λ unmade. rw c.if-is_later.true (makes_some g.C.Client g.C.Cmd.Command.words c.args.run.now c.make.new.self Player Sync unmade)) c.make.ensures.err
