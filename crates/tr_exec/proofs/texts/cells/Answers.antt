use Rattle.std.proofs.Common.{pos, ◌+ℤ◌, arith}
use Rattle.std.proofs.lemmas.Int.{ints}
use Rattle.tr_base.specs.Rects.{InReach}
use Rattle.tr_base.proofs.RectLemmas.{cast-in_reach}
use Rattle.tr_exec.proofs.texts.cells.Goals as goal

pub returns : goal.returns
returns c =
    let at = c.args.text.now.at in
    let corner = c.args.text.now.corner in
    let west : InReach at.h = record { low = omega (arith, ints, corner.west); high = omega (arith, ints, corner.east) } in
    let north : InReach at.v = record { low = omega (arith, ints, corner.north); high = omega (arith, ints, corner.south) } in
    let south : InReach (at.v +ℤ pos 8) = record { low = omega (arith, ints, corner.north); high = omega (arith, ints, corner.south) } in
    rw (
      cast-in_reach at.v north,
      cast-in_reach (at.v +ℤ pos 8) south,
      cast-in_reach at.h west,
      cast-in_reach c.end_of.result c.end_of.ensures.reach,
      c.end_of.ensures.value,
    ) at c.edges.ensures.edges
