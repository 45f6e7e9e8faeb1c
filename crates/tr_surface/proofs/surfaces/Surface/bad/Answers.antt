use Rattle.std.proofs.Common.{◌≡◌, ◌≤◌, ◌&&◌, not, List, length, ap, subst, ◌∙◌}
use Rattle.tr_base.specs.Rects.{Edges}
use Rattle.tr_region.specs.Points.{holds}
use Rattle.tr_surface.specs.Surfaces.{Shown}
use Rattle.tr_surface.proofs.CountLemmas.{left_after, left_end, left_more}
use Rattle.tr_surface.proofs.surfaces.Surface.bad.Goals as goal

pub loop-good-preserved : goal.loop-good-preserved
loop-good-preserved c = λ p.
    c.in_ok-bad-2.ensures.points p
    ∙ ap (λ b. b && not (holds c.good-item.result p)) (c.loop-good.invariant p)
    ∙ left_more c.args.self.now.tree c.deref-good-items.result.now c.loop-good.good-index c.good-item.result c.loop-good-test.true c.good-item.is p

pub returns : goal.returns
returns c = λ p.
    let s = c.args.self.now in
    let same : c.deref-good-items.result.now ≡ s.good = c.deref-good-items.ensures.value ∙ ap (λ (w : Shown). w.good) c.self.view_is in
    c.loop-good.invariant p
    ∙ ap (λ (g : List (List Edges)). left_after s.tree g c.loop-good.good-index p) same
    ∙ left_end s c.loop-good.good-index
    (subst (λ (g : List (List Edges)). length g ≤ c.loop-good.good-index) same c.loop-good-test.false) p
