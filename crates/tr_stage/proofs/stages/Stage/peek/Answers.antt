use Rattle.std.proofs.Common.{◌∙◌}
use Rattle.tr_stage.proofs.StaleLemmas.{waiting_counted}
use Rattle.tr_stage.proofs.stages.Stage.peek.Goals as goal

pub returns-clause-waiting : goal.returns-clause-waiting
returns-clause-waiting g c =
    c.waiting.ensures
    ∙ waiting_counted g.C.Client c.args.self.now c.self.invariant (record { spare = c.self.inside.journal.spare; is = c.self.view_is })
