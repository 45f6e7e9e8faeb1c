use Rattle.std.proofs.Common.{◌&&◌, not, List, sym, ap, ◌∙◌}
use Rattle.std.proofs.lemmas.Result.{IfOk-weaker}
use Rattle.tr_base.specs.Rects.{Edges, before_shift, has_point}
use Rattle.tr_base.specs.declared.Point.{Point}
use Rattle.tr_paint.specs.declared.Paint.{Paint}
use Rattle.tr_paint.specs.Batches.{touches}
use Rattle.tr_tree.specs.Places.{domain}
use Rattle.tr_surface.specs.Survivors.{corner_of}
use Rattle.tr_spot.proofs.WayLemmas.{and_left}
use Rattle.tr_surface.proofs.NearLemmas.{around_whole, corner_step}
use Rattle.tr_surface.proofs.tree_changes.TreeChange.kept_points.Goals as goal

pub shifted-kept-requires-clause-points : goal.shifted-kept-requires-clause-points
shifted-kept-requires-clause-points g c = λ q h.
    around_whole c.args.from c.requires.fits.1.wide c.requires.fits.1.high q (c.keeps-rect.ensures.first q (and_left _ _ (sym (c.in_ok-left.ensures q) ∙ h)))

pub shifted-kept-requires-clause-delta : goal.shifted-kept-requires-clause-delta
shifted-kept-requires-clause-delta g c = rw (c.corner.ensures.value) (corner_step c.domain.result c.domain.ensures.small)

pub returns : goal.returns
returns g c = IfOk-weaker c.shifted-kept.result _ _ (λ r h p.
    let k = g.K.Keeper.keeping c.args.keeper.now in
    let q = before_shift p (corner_of (domain c.args.self.now.is.now c.args.n)) in
    let at = c.corner.ensures.value ∙ ap corner_of c.domain.ensures.domain in
    h p ∙ c.in_ok-left.ensures (before_shift p c.corner.result)
    ∙ ap (λ (o : Point). has_point c.keeps-rect.result (before_shift p o) && not (touches c.batch.result.now (before_shift p o))) at
    ∙ ap (λ (e : Edges). has_point e q && not (touches c.batch.result.now q)) c.keeps-rect.ensures.value
    ∙ ap (λ (b : List Paint). has_point (k.keeps c.args.leaf c.args.from c.args.to) q && not (touches b q)) c.batch.ensures.value) c.shifted-kept.ensures
