use Rattle.std.proofs.Common.{◌∙◌}
use Rattle.tr_base.proofs.RectLemmas.{cast-in_reach}
use Rattle.tr_base.proofs.RectFacts.{edges_are}
use Rattle.w_canvas.proofs.AreaLemmas.{short-edge, made-rect, made-area, rect_of-rect_of, keeps-area}
use Rattle.w_canvas.proofs.areas.Area.edges.Goals as goal

pub short-requires : goal.short-requires
short-requires c =
    let area = made-area _ _ _ _ _ c.requires.west c.requires.east c.requires.north c.requires.south c.edges-rect.ensures.edges in
    rw (cast-in_reach _ c.west.ensures.reach, c.west.ensures.value) area.west

pub short-requires-2 : goal.short-requires-2
short-requires-2 c =
    let area = made-area _ _ _ _ _ c.requires.west c.requires.east c.requires.north c.requires.south c.edges-rect.ensures.edges in
    rw (cast-in_reach _ c.east.ensures.reach, c.east.ensures.value) area.east

pub short-requires-3 : goal.short-requires-3
short-requires-3 c =
    let area = made-area _ _ _ _ _ c.requires.west c.requires.east c.requires.north c.requires.south c.edges-rect.ensures.edges in
    rw (cast-in_reach _ c.north.ensures.reach, c.north.ensures.value) area.north

pub short-requires-4 : goal.short-requires-4
short-requires-4 c =
    let area = made-area _ _ _ _ _ c.requires.west c.requires.east c.requires.north c.requires.south c.edges-rect.ensures.edges in
    rw (cast-in_reach _ c.south.ensures.reach, c.south.ensures.value) area.south

pub invariant_of-result : goal.invariant_of-result
invariant_of-result c =
    let area = made-area _ _ _ _ _ c.requires.west c.requires.east c.requires.north c.requires.south c.edges-rect.ensures.edges in
    let made = made-rect _ _ _ _ _ c.requires.west c.requires.east c.requires.north c.requires.south c.edges-rect.ensures.edges in
    keeps-area _ _ _ _ _ (rw made (rect_of-rect_of c.args.west c.args.east c.args.north c.args.south)) area
    (short-edge _ _ _ area.west c.west.ensures.reach c.west.ensures.value c.short.ensures)
    (short-edge _ _ _ area.east c.east.ensures.reach c.east.ensures.value c.short-2.ensures)
    (short-edge _ _ _ area.north c.north.ensures.reach c.north.ensures.value c.short-3.ensures)
    (short-edge _ _ _ area.south c.south.ensures.reach c.south.ensures.value c.short-4.ensures)

pub returns : goal.returns
returns c =
    let area = made-area _ _ _ _ _ c.requires.west c.requires.east c.requires.north c.requires.south c.edges-rect.ensures.edges in
    edges_are _ _ _ _ _
    (short-edge _ _ _ area.west c.west.ensures.reach c.west.ensures.value c.short.ensures)
    (short-edge _ _ _ area.east c.east.ensures.reach c.east.ensures.value c.short-2.ensures)
    (short-edge _ _ _ area.north c.north.ensures.reach c.north.ensures.value c.short-3.ensures)
    (short-edge _ _ _ area.south c.south.ensures.reach c.south.ensures.value c.short-4.ensures)
    ∙ made-rect _ _ _ _ _ c.requires.west c.requires.east c.requires.north c.requires.south c.edges-rect.ensures.edges
