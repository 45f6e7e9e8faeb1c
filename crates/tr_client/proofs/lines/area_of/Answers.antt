use Rattle.std.proofs.Common.{ℕ, ◌*◌, ◌≤◌, pos, refl, arith}
use Rattle.std.proofs.lemmas.Int.{ints}
use Rattle.tr_base.specs.Rects.{InReach}
use Rattle.tr_base.proofs.RectLemmas.{cast-rect}
use Rattle.tr_paint.specs.Paints.{IsNearZero}
use Rattle.tr_paint.proofs.NearLemmas.{rect_of-near}
use Rattle.tr_client.proofs.lines.area_of.Goals as goal

near-length : (n : ℕ) → n ≤ 4096 → IsNearZero (pos n)
near-length n small = record { low = omega (arith, ints); high = omega (arith, ints) }

pub returns-clause-near : goal.returns-clause-near
returns-clause-near c =
    let origin : InReach (pos 0) = record { low = omega (arith, ints); high = omega (arith, ints) } in
    let east : InReach c.from.result = rw c.from.ensures (record { low = omega (arith, ints); high = omega (arith, ints) }) in
    let edges = cast-rect _ _ _ _ _ _ _ _ _ origin east c.north_of.ensures.reach c.north_of-2.ensures.reach c.edges.ensures.edges
    refl c.from.ensures c.north_of.ensures.value c.north_of-2.ensures.value in
    rw edges
    (rect_of-near _ _ _ _ (near-length 0 (omega arith)) (near-length c.args.size.wide c.requires.size.wide)
    (near-length (8 * c.args.above) c.requires.above) (near-length (8 * c.args.end) c.requires.end))
