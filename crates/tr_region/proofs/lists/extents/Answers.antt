use Rattle.std.proofs.Common.{◌∙◌}
use Rattle.tr_base.proofs.RectLemmas.{cast-in_reach}
use Rattle.tr_base.proofs.RectFacts.{edges_are}
use Rattle.tr_region.specs.Extents.{extents_of}
use Rattle.tr_region.proofs.OrderLemmas.{AreInOrder-canonical}
use Rattle.tr_region.proofs.ExtentsLemmas.{extents_of-more, extents_of-whole, IsFull-some, north-at, south-at}
use Rattle.tr_region.proofs.lists.extents.Goals as goal

pub loop-rect-preserved : goal.loop-rect-preserved
loop-rect-preserved c =
    let more = extents_of-more c.index-rects-0.result c.args.rects.now c.loop-rect.rect-index c.rect-item.result c.loop-rect-test.true c.rect-item.is in
    let least = c.lesser-west.ensures in
    let greatest = c.greater-east.ensures in
    let west = rw (cast-in_reach _ c.west.ensures.reach, c.west.ensures.value, c.loop-rect.invariant.west) at least.value in
    let east = rw (cast-in_reach _ c.east.ensures.reach, c.east.ensures.value, c.loop-rect.invariant.east) at greatest.value in
    rw (cast-in_reach _ least.reach, cast-in_reach _ greatest.reach, more)
    (record { west = west; east = east; west_reach = least.reach; east_reach = greatest.reach })

pub spanning-requires-clause-across : goal.spanning-requires-clause-across
spanning-requires-clause-across c =
    let rects = c.args.rects.now in
    let whole = extents_of-whole c.index-rects-0.result rects c.loop-rect.rect-index c.requires.some c.index-rects-0.is c.loop-rect-test.false in
    let full = IsFull-some rects c.requires.some (AreInOrder-canonical rects c.requires.canonical) in
    rw (c.loop-rect.invariant.west ∙ whole.0, c.loop-rect.invariant.east ∙ whole.1) full.across

pub spanning-requires-clause-down : goal.spanning-requires-clause-down
spanning-requires-clause-down c =
    let rects = c.args.rects.now in
    let ordered = AreInOrder-canonical rects c.requires.canonical in
    let north = c.north.ensures.value ∙ north-at rects c.index-rects-0.result c.requires.some ordered c.index-rects-0.is in
    let south = c.south.ensures.value ∙ south-at rects c.index-rects-rects.result c.requires.some ordered c.index-rects-rects.is in
    let full = IsFull-some rects c.requires.some ordered in
    rw (cast-in_reach _ c.north.ensures.reach ∙ north, cast-in_reach _ c.south.ensures.reach ∙ south) full.down

pub returns : goal.returns
returns c =
    let rects = c.args.rects.now in
    let ordered = AreInOrder-canonical rects c.requires.canonical in
    let whole = extents_of-whole c.index-rects-0.result rects c.loop-rect.rect-index c.requires.some c.index-rects-0.is c.loop-rect-test.false in
    let north = c.north.ensures.value ∙ north-at rects c.index-rects-0.result c.requires.some ordered c.index-rects-0.is in
    let south = c.south.ensures.value ∙ south-at rects c.index-rects-rects.result c.requires.some ordered c.index-rects-rects.is in
    c.spanning.ensures
    ∙ edges_are (extents_of rects) _ _ _ _ (c.loop-rect.invariant.west ∙ whole.0) (c.loop-rect.invariant.east ∙ whole.1)
    (cast-in_reach _ c.north.ensures.reach ∙ north) (cast-in_reach _ c.south.ensures.reach ∙ south)
