use Rattle.std.proofs.Common.{◌≡◌, ◌+◌, Bool, true, false, ◌&&◌, ◌||◌, not, List, take, refl, sym, ap, ◌∙◌}
use Rattle.tr_base.specs.Rects.{Edges, has_point}
use Rattle.tr_region.specs.Points.{holds}
use Rattle.tr_paint.specs.declared.Paint.{Paint}
use Rattle.tr_paint.specs.Paints.{area}
use Rattle.tr_paint.specs.Batches.{touches}
use Rattle.tr_paint.specs.Views.{viewed}
use Rattle.tr_paint.proofs.BatchLemmas.{take_next, touches-push}
use Rattle.tr_surface.proofs.goods.untouched.Goals as goal

one_more : (rect before item : Bool) → ((rect && not before) && not item) ≡ (rect && not (before || item))
one_more true true item = refl
one_more true false item = refl
one_more false before item = refl

pub loop-i-preserved : goal.loop-i-preserved
loop-i-preserved c = λ q.
    let commands = c.args.batch.now in
    let i = c.loop-i.i in
    let paint = viewed c.get-paint.result in
    let rect = has_point c.args.rect q in
    let item : holds c.in-Ok.area q ≡ has_point (area paint) q =
    c.in-Ok.ensures.points q ∙ ap (λ (e : Edges). has_point e q) c.area.ensures.value in
    let more : touches (take (i + 1) commands) q ≡ (touches (take i commands) q || has_point (area paint) q) =
    ap (λ (cs : List Paint). touches cs q) (take_next commands i paint c.get-paint.ensures.value)
    ∙ touches-push (take i commands) paint q in
    c.in_ok-left-2.ensures.points q
    ∙ ap (λ b. b && not (holds c.in-Ok.area q)) (c.loop-i.invariant q)
    ∙ ap (λ b. (rect && not (touches (take i commands) q)) && not b) item
    ∙ one_more rect (touches (take i commands) q) (has_point (area paint) q)
    ∙ ap (λ b. rect && not b) (sym more)
