use Rattle.std.proofs.Common.{List, ◌||◌, ap, ◌∙◌}
use Rattle.std.proofs.lemmas.Result.{IfOk-weaker}
use Rattle.tr_base.specs.Rects.{Edges}
use Rattle.tr_region.specs.Points.{holds}
use Rattle.tr_tree.specs.Trees.{Seen}
use Rattle.tr_spot.specs.Spots.{is_on_frame, region_of, spot}
use Rattle.tr_surface.proofs.surfaces.Surface.good_frame.Goals as goal

pub returns : goal.returns
returns c = IfOk-weaker c.union-all.result _ _ (λ r h p.
    let s = c.args.self.now in
    let n = c.args.n in
    h p
    ∙ ap (λ (g : List Edges). holds g p || holds c.in_ok-frame.frame p) c.good.ensures
    ∙ ap (λ b. holds (region_of s.good n) p || b)
    (c.in_ok-frame.ensures.points p ∙ ap (λ (t : Seen). is_on_frame n (spot t p)) c.tree.ensures.value)) c.union-all.ensures.points
