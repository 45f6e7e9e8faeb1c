use Rattle.std.proofs.Common.{refl}
use Rattle.tr_screen.specs.Pictures.{pixel_of}
use Rattle.tr_exec.proofs.PaintingLemmas.{opaque-eff, repaints_as}
use Rattle.tr_exec.proofs.tints.fill_tint.Goals as goal

pub returns : goal.returns
returns c =
    let tint = c.args.tint in
    let old = c.args.screen.now in
    repaints_as _ _ _ _ old c.paint_within.new.screen (rw c.eff.ensures at c.paint_within.ensures)
    (λ p. refl) (λ p. opaque-eff tint.kind tint.op (pixel_of old p) c.requires.opaque)
