use Rattle.std.proofs.Common.{◌≡◌, ap, ◌∙◌}
use Rattle.tr_base.specs.Rects.{Edges, meet_of, whole_of}
use Rattle.tr_paint.specs.Traces.{look_of}
use Rattle.w_canvas.specs.Canvases.{canvas_paints}
use Rattle.w_canvas.specs.CanvasLaws.{canvas_painting}
use Rattle.w_canvas.proofs.canvases.CanvasClient.paint.Goals as goal

pub returns-clause-painting : goal.returns-clause-painting
returns-clause-painting c =
    let part = meet_of (whole_of c.args.size) c.args.clip in
    let is : c.in_ok-batch.batch ≡ canvas_paints part c.args.self.now =
    c.in_ok-batch.ensures
    ∙ ap (λ (p : Edges). canvas_paints p c.figures.result.now) c.part_of_window.ensures.edges
    ∙ ap (canvas_paints part) c.figures.ensures.value in
    rw is (canvas_painting (look_of c.args._env.now.kind c.args._env.now.font.now) c.args.size part c.args.self.now)
