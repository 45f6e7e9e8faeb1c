use Rattle.std.proofs.Common.{◌≡◌, sym, ap, subst, ◌∙◌, arith}
use Rattle.tr_machine.specs.Promises.{Agrees}
use Rattle.tr_stage.specs.Stages.{state}
use Rattle.tr_stage.proofs.SettleLemmas.{empty_batch, windows_of}
use Rattle.tr_stage.proofs.StaleLemmas.{batch_seen, quiet_leaf, stale_apart}
use Rattle.tr_stage.proofs.stages.Stage.stale_in.Goals as goal

pub batch-requires-after_bounds : goal.batch-requires-after_bounds
batch-requires-after_bounds g c κs within =
    omega (arith, c.requires.leaf, windows_of g.C.Client c.args.self.now c.self.invariant (record { spare = c.self.inside.journal.spare; is = c.self.view_is }))

pub returns-then-is_empty-clause-count : goal.returns-then-is_empty-clause-count
returns-then-is_empty-clause-count g c =
    quiet_leaf g.C.Client c.args.self.now c.args.leaf c.invariant.ensures.stands
    (sym (batch_seen g.C.Client c.args.self.now c.args.leaf c.self.invariant (record { spare = c.self.inside.journal.spare; is = c.self.view_is }))
    ∙ empty_batch c.is_empty.result _ _ c.is_empty.ensures c.batch.ensures c.if-is_empty.true)

pub returns-clause-count : goal.returns-clause-count
returns-clause-count g c =
    let m = state g.C.Client c.args.self.now in
    let screen : c.screen.result.now ≡ c.args.self.now.screen = c.screen.ensures ∙ ap (λ v. v.screen) c.self.view_is in
    c.count_apart.ensures
    ∙ stale_apart g.C.Client m c.args.leaf c.in_ok-good.good c.screen.result.now c.paint_wanted.new.wanted
    (subst (λ s. Agrees g.C.Client m s) (sym screen) c.invariant.ensures.stands.agrees) c.in_ok-good.ensures.good c.in_ok-good.ensures.painted
