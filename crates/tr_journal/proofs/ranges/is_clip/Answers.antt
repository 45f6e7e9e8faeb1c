use Rattle.tr_base.proofs.RectLemmas.{cast-in_reach}
use Rattle.tr_journal.proofs.ranges.is_clip.Goals as goal

pub returns-then-are_edges : goal.returns-then-are_edges
returns-then-are_edges c =
    let west = cast-in_reach _ c.west.ensures.reach in
    let east = cast-in_reach _ c.east.ensures.reach in
    let north = cast-in_reach _ c.north.ensures.reach in
    let south = cast-in_reach _ c.south.ensures.reach in
    let across = rw (west, c.west.ensures.value, east, c.east.ensures.value) at c.are_edges.ensures.0 c.if-are_edges.true in
    let down = rw (north, c.north.ensures.value, south, c.south.ensures.value) at c.are_edges-then-are_edges.ensures in (
      λ yes. record { west = across.0; east = across.1; north = (down.0 yes).0; south = (down.0 yes).1 },
      λ clip. down.1 (clip.north, clip.south),
    )
