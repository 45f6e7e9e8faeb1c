use Rattle.tr_base.proofs.RectLemmas.{cast-in_reach}
use Rattle.tr_paint.proofs.HullLemmas.{within-all}
use Rattle.tr_paint.proofs.hulls.is_within.Goals as goal

pub returns-then-lies_within : goal.returns-then-lies_within
returns-then-lies_within c = λ h.
    let across = rw (
      cast-in_reach _ c.west.ensures.reach,
      cast-in_reach _ c.east.ensures.reach,
      cast-in_reach _ c.west-2.ensures.reach,
      cast-in_reach _ c.east-2.ensures.reach,
      c.west.ensures.value,
      c.east.ensures.value,
      c.west-2.ensures.value,
      c.east-2.ensures.value,
    ) at (c.lies_within.ensures c.if-lies_within.true) in
    let down = rw (
      cast-in_reach _ c.north.ensures.reach,
      cast-in_reach _ c.south.ensures.reach,
      cast-in_reach _ c.north-then-lies_within.ensures.reach,
      cast-in_reach _ c.south-then-lies_within.ensures.reach,
      c.north.ensures.value,
      c.south.ensures.value,
      c.north-then-lies_within.ensures.value,
      c.south-then-lies_within.ensures.value,
    ) at (c.lies_within-then-lies_within.ensures h) in
    within-all c.args.outer.now c.args.inner.now across.0 across.1 down.0 down.1
