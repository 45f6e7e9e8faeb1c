use Rattle.std.proofs.Common.{◌∙◌, ap, replicate}
use Rattle.tr_screen.proofs.PictureLemmas.{picture_of-replicate}
use Rattle.tr_screen.proofs.screens.Screen.fill.Goals as goal

pub returns : goal.returns
returns c =
    let s = c.self.inside in
    let pixels = c.fill.ensures.items (λ _ same. same) ∙ ap (λ n. replicate n c.args.pixel) c.self.invariant.1 in
    rw (← c.self.view_is) (picture_of-replicate s.size s.kind c.args.pixel c.fill.new.self.items pixels)
