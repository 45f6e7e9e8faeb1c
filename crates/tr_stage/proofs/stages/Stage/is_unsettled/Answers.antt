use Rattle.std.proofs.Common.{◌≡◌, subst, true, arith}
use Rattle.tr_machine.specs.SettleSteps.{is_unsettled}
use Rattle.tr_stage.specs.Stages.{state}
use Rattle.tr_stage.proofs.SettleLemmas.{bad_visible, empty_batch, some_batch, unsettled_quiet, unsettled_waits, windows_of}
use Rattle.tr_stage.proofs.stages.Stage.is_unsettled.Goals as goal

pub batch-requires-after_bounds : goal.batch-requires-after_bounds
batch-requires-after_bounds g c κs within =
    omega (arith, c.requires, windows_of g.C.Client c.args.self.now c.self.invariant (record { spare = c.self.inside.journal.spare; is = c.self.view_is }))

pub returns-then-not-is_empty : goal.returns-then-not-is_empty
returns-then-not-is_empty g c =
    subst (λ v. true ≡ is_unsettled g.C.Client (state g.C.Client v) c.args.leaf) c.self.view_is
    (unsettled_waits g.C.Client _ _ c.args.leaf c.self.invariant.kept
    (some_batch c.is_empty.result _ _ c.is_empty.ensures c.batch.ensures c.if-not-is_empty.true))

pub returns : goal.returns
returns g c =
    subst (λ v. c.in_ok-bad.bad ≡ is_unsettled g.C.Client (state g.C.Client v) c.args.leaf) c.self.view_is
    (unsettled_quiet g.C.Client _ _ c.args.leaf c.in_ok-bad.bad c.self.invariant.kept
    (empty_batch c.is_empty.result _ _ c.is_empty.ensures c.batch.ensures c.if-not-is_empty.false)
    (bad_visible g.C.Client _ _ c.args.leaf c.in_ok-bad.bad c.self.invariant.kept c.in_ok-bad.ensures.some c.in_ok-bad.ensures.none))
