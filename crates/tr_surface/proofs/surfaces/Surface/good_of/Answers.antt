use Rattle.std.proofs.Common.{◌≡◌, ◌&&◌, not, List, ap, subst, ◌∙◌}
use Rattle.tr_base.specs.Rects.{Edges}
use Rattle.tr_region.specs.Points.{holds}
use Rattle.tr_spot.specs.Spots.{is_in_leaf, region_of, spot}
use Rattle.tr_surface.specs.Surfaces.{Shown, is_bad}
use Rattle.tr_surface.proofs.GoodLemmas.{good_leaf}
use Rattle.tr_surface.proofs.surfaces.Surface.good_of.Goals as goal

pub returns : goal.returns
returns c = λ p.
    let in_it : Shown = record { tree = c.self.inside.tree; screen = c.self.inside.screen; good = c.self.inside.good.items } in
    ap (λ (r : List Edges). holds r p) c.good.ensures
    ∙ subst (λ (s : Shown). holds (region_of s.good c.node_of.result) p ≡ (is_in_leaf c.args.leaf (spot s.tree p) && not (is_bad s p))) c.self.view_is
    (good_leaf in_it c.self.invariant.0 c.args.leaf c.node_of.result c.node_of.ensures.node c.node_of.ensures.leaf p)
