use Rattle.std.proofs.Common.{◌&&◌, not, ap, ◌∙◌}
use Rattle.std.proofs.lemmas.Result.{IfOk-weaker}
use Rattle.tr_region.specs.Points.{holds}
use Rattle.tr_spot.specs.Spots.{is_in_leaf, spot}
use Rattle.tr_surface.specs.Surfaces.{is_bad}
use Rattle.tr_surface.proofs.GoodLemmas.{left_bad}
use Rattle.tr_surface.proofs.surfaces.Surface.bad_of.Goals as goal

pub returns : goal.returns
returns c = IfOk-weaker c.less.result _ _ (λ r h p.
    let s = c.args.self.now in
    h p ∙ ap (λ b. b && not (holds c.good_of.result.now p)) (c.in_ok-visible.ensures p)
    ∙ left_bad (is_in_leaf c.args.leaf (spot s.tree p)) (is_bad s p) (holds c.good_of.result.now p) (c.good_of.ensures p)) c.less.ensures.points
