use Rattle.std.proofs.Common.{refl}
use Rattle.tr_base.proofs.RectLemmas.{cast-rect}
use Rattle.tr_journal.specs.Steps.{IsEdge}
use Rattle.tr_script.proofs.EdgeLemmas.{reach-edge, clip-rect_of}
use Rattle.tr_script.proofs.act_lines.clip_of.Goals as goal

pub returns-clause-range : goal.returns-clause-range
returns-clause-range c =
    let west : IsEdge c.in_ok-west.west = record { low = c.in_ok-west.ensures.low; high = c.in_ok-west.ensures.high } in
    let east : IsEdge c.in_ok-east.east = record { low = c.in_ok-east.ensures.low; high = c.in_ok-east.ensures.high } in
    let north : IsEdge c.in_ok-north.north = record { low = c.in_ok-north.ensures.low; high = c.in_ok-north.ensures.high } in
    let south : IsEdge c.in_ok-south.south = record { low = c.in_ok-south.ensures.low; high = c.in_ok-south.ensures.high } in
    rw (cast-rect _ _ _ _ _ _ _ _ _ (reach-edge _ west) (reach-edge _ east) (reach-edge _ north) (reach-edge _ south) c.edges.ensures.edges
    refl refl refl refl)
    (clip-rect_of _ _ _ _ west east north south)
