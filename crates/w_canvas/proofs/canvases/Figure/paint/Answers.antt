use Rattle.tr_paint.proofs.NearLemmas.{near-meet}
use Rattle.w_canvas.proofs.canvases.Figure.paint.Goals as goal

pub returns-clause-near : goal.returns-clause-near
returns-clause-near c = rw c.meet.ensures.edges (near-meet _ _ c.requires)
