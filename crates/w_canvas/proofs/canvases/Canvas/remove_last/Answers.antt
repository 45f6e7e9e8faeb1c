use Rattle.std.proofs.Common.{arith}
use Rattle.std.proofs.lemmas.List.{length-take}
use Rattle.std.proofs.lemmas.List.Elements.{All-take}
use Rattle.w_canvas.specs.Canvases.{IsFigure}
use Rattle.w_canvas.proofs.canvases.Canvas.remove_last.Goals as goal

pub invariant_of-self : goal.invariant_of-self
invariant_of-self c =
    let xs = c.self.inside.figures.items in
    let left = c.saturating_sub-left.result in
    rw c.truncate.ensures.items (record {
      most = omega (arith, length-take left xs, c.self.invariant.most);
      each = All-take IsFigure left xs c.self.invariant.each;
    })
