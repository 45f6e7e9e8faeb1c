use Rattle.std.proofs.Common.{sym, ap, ◌∙◌}
use Rattle.tr_base.specs.declared.Kind.{Kind}
use Rattle.tr_base.specs.Ops.{resolved}
use Rattle.tr_spot.specs.Spots.{spot}
use Rattle.tr_surface.specs.Surfaces.{frame_colour}
use Rattle.tr_surface.proofs.FrameLemmas.{colour_is, painted_one}
use Rattle.tr_surface.proofs.frames.paint_one.Goals as goal

pub returns : goal.returns
returns c =
    let t = c.args.tree.now in
    let pixel =
    c.eff-pixel.ensures ∙ ap (λ (kind : Kind). resolved kind c.tint_of.result) c.kind.ensures ∙ ap (resolved t.kind) c.tint_of.ensures in
    painted_one (λ p. frame_colour (spot t p)) c.args.frame.now c.extents-area.result c.eff-pixel.result
    c.args.screen.now c.paint_within.new.screen c.paint_within.ensures
    (λ p held. (c.extents-area.ensures.points p held, pixel ∙ sym (colour_is t c.args.n p (c.requires.points p held))))
