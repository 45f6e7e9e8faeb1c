use Rattle.std.proofs.Common.{List, ◌&&◌, not, ap, ◌∙◌}
use Rattle.std.proofs.lemmas.Result.{IfOk-weaker}
use Rattle.tr_base.specs.Rects.{Edges}
use Rattle.tr_region.specs.Points.{holds}
use Rattle.tr_tree.specs.Trees.{Seen}
use Rattle.tr_spot.specs.Spots.{is_on_frame, spot}
use Rattle.tr_surface.proofs.FrameLemmas.{frame_bad}
use Rattle.tr_surface.proofs.surfaces.Surface.bad_frame.Goals as goal

pub returns : goal.returns
returns c = IfOk-weaker c.less.result _ _ (λ r h p.
    let s = c.args.self.now in
    let n = c.args.n in
    h p
    ∙ ap (λ b. b && not (holds c.good.result.now p))
    (c.in_ok-frame.ensures.points p ∙ ap (λ (t : Seen). is_on_frame n (spot t p)) c.tree.ensures.value)
    ∙ ap (λ (g : List Edges). is_on_frame n (spot s.tree p) && not (holds g p)) c.good.ensures
    ∙ frame_bad s c.tree.ensures.invariant n c.requires p) c.less.ensures.points
