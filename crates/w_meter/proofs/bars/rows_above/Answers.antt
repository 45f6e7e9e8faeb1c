use Rattle.std.proofs.Common.{pos, arith, refl, ap, ◌∙◌}
use Rattle.std.proofs.lemmas.Int.{ints}
use Rattle.tr_base.specs.Rects.{meet_of, InReach}
use Rattle.tr_base.proofs.RectLemmas.{cast-rect}
use Rattle.tr_paint.proofs.NearLemmas.{near-meet}
use Rattle.w_meter.proofs.bars.rows_above.Goals as goal

pub returns-clause-edges : goal.returns-clause-edges
returns-clause-edges c =
    let north : InReach (pos 0) = record { low = omega (arith, ints); high = omega (arith, ints) } in
    c.meet.ensures.edges ∙ ap (meet_of c.args.part.now)
    (cast-rect _ _ _ _ _ _ _ _ _ c.first_column.ensures.reach c.column_after.ensures.reach north c.top.ensures.reach c.edges.ensures.edges
    c.first_column.ensures.value c.column_after.ensures.value refl c.top.ensures.value)

pub returns-clause-near : goal.returns-clause-near
returns-clause-near c = rw c.meet.ensures.edges (near-meet _ _ c.requires.near)
