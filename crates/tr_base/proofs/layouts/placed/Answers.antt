use Rattle.std.proofs.Common.{arith}
use Rattle.std.proofs.lemmas.Int.{ints}
use Rattle.tr_base.proofs.RectLemmas.{cast-rect, cast-moved}
use Rattle.tr_base.proofs.LayoutLemmas.{cast_size}
use Rattle.tr_base.proofs.layouts.placed.Goals as goal

pub returns : goal.returns
returns c =
    let west = cast-moved _ _ _ _ c.west.ensures.value c.west.ensures.reach (omega (arith, ints)) c.moved-west.ensures.value in
    let north = cast-moved _ _ _ _ c.north.ensures.value c.north.ensures.reach (omega (arith, ints)) c.moved-north.ensures.value in
    cast-rect _ _ _ _ _ _ _ _ _ c.moved-west.ensures.reach c.moved-east.ensures.reach c.moved-north.ensures.reach c.moved-south.ensures.reach
    c.edges.ensures.edges
    west
    (cast_size _ _ _ _ west c.moved-west.ensures.reach c.requires.wide c.moved-east.ensures.value)
    north
    (cast_size _ _ _ _ north c.moved-north.ensures.reach c.requires.high c.moved-south.ensures.value)
