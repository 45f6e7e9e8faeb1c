use Rattle.std.proofs.Common.{◌≡◌, List, [], ◌∷◌, ◌++◌, ap, ◌∙◌}
use Rattle.w_canvas.specs.declared.canvases.Figure.{Figure}
use Rattle.w_canvas.specs.CanvasLaws.{grown-valid}
use Rattle.w_canvas.proofs.canvases.Canvas.with.Goals as goal

pub invariant_of-result : goal.invariant_of-result
invariant_of-result c =
    let figures = c.figures-figures.result.now in
    let copied : c.extend_from_slice.new.self.items ≡ figures =
    c.in_ok-extend_from_slice.ensures.items ∙ ap (λ (l : List Figure). l ++ figures) c.in_ok-more.ensures.items in
    let grown : c.push.new.self.items ≡ figures ++ c.args.figure ∷ [] =
    c.in_ok-push.ensures.items ∙ ap (λ (l : List Figure). l ++ c.args.figure ∷ []) copied in
    let valid = rw (← c.figures-figures.ensures.value) at c.figures-figures.ensures.invariant in
    rw grown (grown-valid figures c.args.figure c.if-figures-lt-FIGURES.true valid c.requires)
