use Rattle.std.proofs.Common.{◌≡◌, subst}
use Rattle.tr_machine.specs.SharedRepaints as spec
use Rattle.tr_stage.specs.Stages.{state}
use Rattle.tr_stage.proofs.SettleLemmas.{bad_visible}
use Rattle.tr_stage.proofs.stages.Stage.has_bad.Goals as goal

pub returns : goal.returns
returns g c =
    subst (λ v. c.in_ok-bad.bad ≡ spec.has_bad (state g.C.Client v) c.args.leaf) c.self.view_is
    (bad_visible g.C.Client _ _ c.args.leaf c.in_ok-bad.bad c.self.invariant.kept c.in_ok-bad.ensures.some c.in_ok-bad.ensures.none)
