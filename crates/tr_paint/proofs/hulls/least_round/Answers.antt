use Rattle.std.proofs.Common.{sym, ◌∙◌}
use Rattle.tr_base.proofs.RectLemmas.{cast-in_reach, cast-max, cast-min}
use Rattle.tr_paint.proofs.HullLemmas.{lies, round-first, round-least, round-second}
use Rattle.tr_paint.proofs.hulls.least_round.Goals as goal

pub returns-clause-first : goal.returns-clause-first
returns-clause-first c = λ q h.
    let west = cast-min _ _ _ _ _ c.west.ensures.value c.west-2.ensures.value c.west.ensures.reach c.west-2.ensures.reach c.lesser.ensures.value in
    let east = cast-max _ _ _ _ _ c.east.ensures.value c.east-2.ensures.value c.east.ensures.reach c.east-2.ensures.reach c.greater.ensures.value in
    let north = cast-min _ _ _ _ _ c.north.ensures.value c.north-2.ensures.value c.north.ensures.reach c.north-2.ensures.reach c.lesser-2.ensures.value in
    let south = cast-max _ _ _ _ _ c.south.ensures.value c.south-2.ensures.value c.south.ensures.reach c.south-2.ensures.reach c.greater-2.ensures.value in
    let points = rw (
      cast-in_reach _ c.lesser.ensures.reach,
      cast-in_reach _ c.greater.ensures.reach,
      cast-in_reach _ c.lesser-2.ensures.reach,
      cast-in_reach _ c.greater-2.ensures.reach,
      west,
      east,
      north,
      south,
    ) at (c.edges.ensures.points q) in
    points ∙ round-first c.args.a.now c.args.b.now q h

pub returns-clause-second : goal.returns-clause-second
returns-clause-second c = λ q h.
    let west = cast-min _ _ _ _ _ c.west.ensures.value c.west-2.ensures.value c.west.ensures.reach c.west-2.ensures.reach c.lesser.ensures.value in
    let east = cast-max _ _ _ _ _ c.east.ensures.value c.east-2.ensures.value c.east.ensures.reach c.east-2.ensures.reach c.greater.ensures.value in
    let north = cast-min _ _ _ _ _ c.north.ensures.value c.north-2.ensures.value c.north.ensures.reach c.north-2.ensures.reach c.lesser-2.ensures.value in
    let south = cast-max _ _ _ _ _ c.south.ensures.value c.south-2.ensures.value c.south.ensures.reach c.south-2.ensures.reach c.greater-2.ensures.value in
    let points = rw (
      cast-in_reach _ c.lesser.ensures.reach,
      cast-in_reach _ c.greater.ensures.reach,
      cast-in_reach _ c.lesser-2.ensures.reach,
      cast-in_reach _ c.greater-2.ensures.reach,
      west,
      east,
      north,
      south,
    ) at (c.edges.ensures.points q) in
    points ∙ round-second c.args.a.now c.args.b.now q h

pub returns-clause-least : goal.returns-clause-least
returns-clause-least c = λ e first second q h.
    let west = cast-min _ _ _ _ _ c.west.ensures.value c.west-2.ensures.value c.west.ensures.reach c.west-2.ensures.reach c.lesser.ensures.value in
    let east = cast-max _ _ _ _ _ c.east.ensures.value c.east-2.ensures.value c.east.ensures.reach c.east-2.ensures.reach c.greater.ensures.value in
    let north = cast-min _ _ _ _ _ c.north.ensures.value c.north-2.ensures.value c.north.ensures.reach c.north-2.ensures.reach c.lesser-2.ensures.value in
    let south = cast-max _ _ _ _ _ c.south.ensures.value c.south-2.ensures.value c.south.ensures.reach c.south-2.ensures.reach c.greater-2.ensures.value in
    let points = rw (
      cast-in_reach _ c.lesser.ensures.reach,
      cast-in_reach _ c.greater.ensures.reach,
      cast-in_reach _ c.lesser-2.ensures.reach,
      cast-in_reach _ c.greater-2.ensures.reach,
      west,
      east,
      north,
      south,
    ) at (c.edges.ensures.points q) in
    let a = c.args.a.now in
    let b = c.args.b.now in
    round-least a b e (lies a c.invariant.ensures c.requires.one) (lies b c.invariant-2.ensures c.requires.other)
    first second q (sym points ∙ h)
