use Rattle.std.proofs.Common.{arith, ap, ◌∙◌}
use Rattle.std.proofs.lemmas.Int.{ints}
use Rattle.tr_base.specs.Rects.{meet_of, InReach}
use Rattle.tr_base.proofs.RectLemmas.{cast-rect}
use Rattle.tr_paint.proofs.NearLemmas.{near-meet}
use Rattle.w_meter.proofs.bars.bar_rows.Goals as goal

pub returns-clause-edges : goal.returns-clause-edges
returns-clause-edges c =
    let south : InReach c.from-south.result = rw c.from-south.ensures (record { low = omega (arith, ints); high = omega (arith, ints) }) in
    c.meet.ensures.edges ∙ ap (meet_of c.args.part.now)
    (cast-rect _ _ _ _ _ _ _ _ _ c.first_column.ensures.reach c.column_after.ensures.reach c.top.ensures.reach south c.edges.ensures.edges
    c.first_column.ensures.value c.column_after.ensures.value c.top.ensures.value c.from-south.ensures)

pub returns-clause-near : goal.returns-clause-near
returns-clause-near c = rw c.meet.ensures.edges (near-meet _ _ c.requires.near)
