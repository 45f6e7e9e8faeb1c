use Rattle.std.proofs.Common.{arith, ap, ◌∙◌}
use Rattle.std.proofs.lemmas.Int.{ints}
use Rattle.tr_base.specs.Rects.{meet_of, InReach}
use Rattle.tr_base.proofs.RectLemmas.{cast-rect}
use Rattle.tr_paint.proofs.NearLemmas.{near-meet}
use Rattle.ex_counter.proofs.counters.columns.Goals as goal

pub returns-clause-edges : goal.returns-clause-edges
returns-clause-edges c =
    let west : InReach c.from-west.result = rw c.from-west.ensures (record { low = omega (arith, ints); high = omega (arith, ints) }) in
    let east : InReach c.from-east.result = rw c.from-east.ensures (record { low = omega (arith, ints); high = omega (arith, ints) }) in
    c.meet.ensures.edges ∙ ap (meet_of c.args.part.now)
    (cast-rect _ _ _ _ _ _ _ _ _ west east c.north.ensures.reach c.south.ensures.reach c.edges.ensures.edges
    c.from-west.ensures c.from-east.ensures c.north.ensures.value c.south.ensures.value)

pub returns-clause-near : goal.returns-clause-near
returns-clause-near c = rw c.meet.ensures.edges (near-meet _ _ c.requires)
