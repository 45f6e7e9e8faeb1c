use Rattle.std.proofs.Common.{◌||◌, List, take, sym, ap, ◌∙◌, arith}
use Rattle.std.proofs.lemmas.List.{take_all}
use Rattle.tr_base.specs.Rects.{Edges, has_point}
use Rattle.tr_paint.specs.declared.paints.Paint.{Paint}
use Rattle.tr_paint.specs.Paints.{area}
use Rattle.tr_paint.specs.Batches as spec
use Rattle.tr_paint.specs.Views.{viewed}
use Rattle.tr_paint.proofs.BatchLemmas.{take_next, touched_at, touches-push}
use Rattle.tr_paint.proofs.batches.Batch.touches.Goals as goal

pub returns-then-has : goal.returns-then-has
returns-then-has c =
    sym (touched_at c.args.self.now c.loop-i.i (viewed c.get-paint.result) c.args.q c.get-paint.ensures.value
    (ap (λ (e : Edges). has_point e c.args.q) (sym c.area.ensures.value) ∙ sym c.has.ensures ∙ c.if-has.true))

pub loop-i-preserved : goal.loop-i-preserved
loop-i-preserved c =
    let commands = c.args.self.now in
    let paint = viewed c.get-paint.result in
    ap (λ (cs : List Paint). spec.touches cs c.args.q) (take_next commands c.loop-i.i paint c.get-paint.ensures.value)
    ∙ touches-push (take c.loop-i.i commands) paint c.args.q
    ∙ ap (λ b. b || has_point (area paint) c.args.q) c.loop-i.invariant
    ∙ ap (λ (e : Edges). has_point e c.args.q) (sym c.area.ensures.value) ∙ sym c.has.ensures ∙ c.if-has.false

pub returns : goal.returns
returns c =
    let commands = c.args.self.now in
    sym (rw (take_all c.loop-i.i commands (omega (arith, c.loop-i-test.false))) at c.loop-i.invariant)
