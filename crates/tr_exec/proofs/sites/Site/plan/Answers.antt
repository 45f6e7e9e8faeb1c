use Rattle.std.proofs.Common.{◌≡◌, take, length, ◌||◌, List, sym, ap, ◌∙◌, arith}
use Rattle.std.proofs.lemmas.List.{take_all}
use Rattle.tr_region.specs.Points.{holds}
use Rattle.tr_paint.specs.declared.Paint.{Paint}
use Rattle.tr_paint.specs.Views.{viewed}
use Rattle.tr_paint.proofs.BatchLemmas.{take_next}
use Rattle.tr_exec.proofs.PlanInvariant.{planned_kept, planned_none, planned_more}
use Rattle.tr_exec.proofs.PlanLemmas.{bad-is, zip_long}
use Rattle.tr_exec.proofs.sites.Site.plan.Goals as goal
use Rattle.tr_exec.proofs.sites.Site.plan.Goals.{then-keeps_known+in_ok-push, else-keeps_known+in_ok-area+in_ok-moved_by+in_ok-push-2+in_ok-unknown-2}

pub loop-i-init : goal.loop-i-init
loop-i-init c = planned_none _ _ _ c.in_ok-moves.moves.items c.in_ok-unknown.unknown c.in_ok-moves.ensures.items c.in_ok-unknown.ensures.points

pub loop-i-preserved : goal.loop-i-preserved
loop-i-preserved c =
    let items = c.args.batch.now in
    let i = c.loop-i.i in
    let item = viewed c.get-paint.result in
    let effect = c.effect_of-effect.ensures.value in
    rw (take_next items i item c.get-paint.ensures.value) (elim c.if-keeps_known.branch [
      | then-keeps_known+in_ok-push w ↦
          rw (w.moves-is, w.unknown-is, w.in_ok-push.ensures.items)
          (planned_kept _ _ _ (take i items) c.loop-i.moves.items c.loop-i.unknown item w.empty.result c.loop-i.invariant
          (rw effect at (sym c.keeps_known.ensures ∙ w.if-keeps_known.true)) w.empty.ensures)
      | else-keeps_known+in_ok-area+in_ok-moved_by+in_ok-push-2+in_ok-unknown-2 w ↦
          rw (w.moves-is, w.unknown-is, w.in_ok-push-2.ensures.items)
          (planned_more _ _ _ (take i items) c.loop-i.moves.items c.loop-i.unknown item
          w.in_ok-area.area w.in_ok-moved_by.field-0 w.in_ok-unknown-2.unknown c.loop-i.invariant
          (λ p. w.in_ok-area.ensures.points p ∙ w.area.ensures p)
          (rw effect at w.in_ok-moved_by.ensures)
          (rw effect at w.in_ok-unknown-2.ensures))
    ])

pub returns-clause-count : goal.returns-clause-count
returns-clause-count c =
    let all : take c.loop-i.i c.args.batch.now ≡ c.args.batch.now = take_all _ c.args.batch.now (omega (arith, c.loop-i-test.false)) in
    zip_long _ _ _ c.loop-i.invariant.moves ∙ ap (λ (l : List Paint). length l) all

pub returns-clause-bad : goal.returns-clause-bad
returns-clause-bad c = λ look screen p.
    let all : take c.loop-i.i c.args.batch.now ≡ c.args.batch.now = take_all _ c.args.batch.now (omega (arith, c.loop-i-test.false)) in
    let told = rw all at (c.loop-i.invariant.unknown look screen p) in
    c.in_ok-bad.ensures.points p ∙ ap (λ b. b || holds c.loop-i.unknown p) (c.in_ok-minus.ensures.points p)
    ∙ bad-is (holds c.args.self.now.visible.now p) (holds c.args.bad.now p) _ (holds c.loop-i.unknown p) told
