use Rattle.std.proofs.Common.{subst}
use Rattle.tr_screen.specs.Pictures.{IsPicture}
use Rattle.tr_stage.proofs.SettleLemmas.{stands_is}
use Rattle.tr_stage.proofs.stages.Stage.invariant.Goals as goal

pub returns-clause-stands : goal.returns-clause-stands
returns-clause-stands g c =
    stands_is g.C.Client c.args.self.now c.self.invariant c.invariant.ensures
    (subst (λ picture. IsPicture picture) c.screen.ensures c.invariant-2.ensures)
    (record { spare = c.self.inside.journal.spare; is = c.self.view_is })
