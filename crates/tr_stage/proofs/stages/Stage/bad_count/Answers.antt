use Rattle.std.proofs.Common.{◌∙◌}
use Rattle.tr_stage.proofs.StaleLemmas.{bad_counted}
use Rattle.tr_stage.proofs.stages.Stage.bad_count.Goals as goal

pub returns : goal.returns
returns g c =
    c.bad_count.ensures
    ∙ bad_counted g.C.Client c.args.self.now c.self.invariant (record { spare = c.self.inside.journal.spare; is = c.self.view_is }) c.invariant.ensures.stands
