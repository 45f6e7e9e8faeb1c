use Rattle.std.proofs.Common.{subst}
use Rattle.tr_machine.specs.Promises.{Fits, IsSound, Lags}
use Rattle.tr_stage.specs.Stages.{StageView, state}
use Rattle.tr_stage.proofs.PartLemmas.{fits_at, lags_at}
use Rattle.tr_stage.proofs.stages.Stage.screen.Goals as goal

pub returns-clause-fits : goal.returns-clause-fits
returns-clause-fits g c =
    subst (λ (v : StageView _ _). Fits g.C.Client (state g.C.Client v)) c.self.view_is
    (fits_at g.C.Client c.self.invariant.kept c.invariant.ensures.forest)

pub returns-clause-lags : goal.returns-clause-lags
returns-clause-lags g c =
    subst (λ (v : StageView _ _). Lags g.C.Client (state g.C.Client v) v.screen) c.self.view_is
    (lags_at g.C.Client c.self.invariant.kept c.invariant.ensures.forest)

pub returns-clause-sound : goal.returns-clause-sound
returns-clause-sound g c =
    subst (λ (v : StageView _ _). IsSound g.C.Client (state g.C.Client v)) c.self.view_is c.self.invariant.kept.sound
