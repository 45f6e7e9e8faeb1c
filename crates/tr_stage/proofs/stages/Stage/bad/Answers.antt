use Rattle.std.proofs.Common.{◌≡◌, subst, ◌∙◌}
use Rattle.std.proofs.lemmas.Result.{IfOk-weaker}
use Rattle.std.specs.Prelude.{IfOk}
use Rattle.tr_base.specs.declared.Point.{Point}
use Rattle.tr_region.specs.Points.{holds}
use Rattle.tr_stage.specs.Stages.{state}
use Rattle.tr_stage.proofs.stages.Stage.bad.Goals as goal

pub returns : goal.returns
returns g c =
    subst (λ v. IfOk c.bad.result (λ r. (p : Point) → holds r p ≡ (state g.C.Client v).bad p)) c.self.view_is
    (IfOk-weaker c.bad.result _ _ (λ r h p. h p ∙ c.self.invariant.kept.bad p) c.bad.ensures)
