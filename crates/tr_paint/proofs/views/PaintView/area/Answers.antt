use Rattle.std.proofs.Common.{◌<◌, rules}
use Rattle.tr_paint.specs.Paints.{IsNearPoint}
use Rattle.tr_paint.proofs.NearLemmas.{near-meet, whole-in_reach}
use Rattle.tr_paint.proofs.views.PaintView.area.Goals as goal

pub shift-requires : goal.shift-requires
shift-requires c =
    let wide : c.size.result.wide < 65536 = search rules in
    let high : c.size.result.high < 65536 = search rules in
    let near : IsNearPoint c.in-Pixels.delta = (rw c.in-Pixels.is at c.requires).1 in
    rw c.whole.ensures.edges (whole-in_reach c.size.result c.in-Pixels.delta wide high near)

pub returns-in-Pixels-clause-near : goal.returns-in-Pixels-clause-near
returns-in-Pixels-clause-near c = rw c.meet.ensures.edges (near-meet _ _ (rw c.in-Pixels.is at c.requires).0)

pub returns-in-Text-clause-near : goal.returns-in-Text-clause-near
returns-in-Text-clause-near c = rw c.part_in_cells.ensures (near-meet _ _ (rw c.in-Text.is at c.requires).0)
