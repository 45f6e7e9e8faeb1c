use Rattle.std.proofs.Common.{◌≤ℤ◌, w32, to_z, of_z, arith}
use Rattle.std.proofs.lemmas.Int.{ints, clamps}
use Rattle.tr_region.proofs.ApartLemmas.{order_later, held_from}
use Rattle.tr_region.proofs.lists.from_row.Goals as goal

pub loop-at-preserved : goal.loop-at-preserved
loop-at-preserved c =
    let row = to_z w32 (of_z w32 c.args.row) in
    let ends : c.index-rects-at.result.south ≤ℤ row = omega (arith, ints, clamps) in
    record {
      order = order_later row c.args.rects.now c.loop-at.at c.index-rects-at.result c.loop-at-test.true c.index-rects-at.is c.loop-at.invariant.order;
      points = λ p from. held_from row c.args.rects.now c.loop-at.at c.index-rects-at.result c.loop-at-test.true c.index-rects-at.is ends p from
          (c.loop-at.invariant.points p from);
    }
