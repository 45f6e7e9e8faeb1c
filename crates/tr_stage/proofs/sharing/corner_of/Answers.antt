use Rattle.std.proofs.Common.{arith}
use Rattle.std.proofs.lemmas.Int.{ints}
use Rattle.tr_base.proofs.LayoutLemmas.{ordered}
use Rattle.tr_stage.proofs.sharing.corner_of.Goals as goal

pub returns-clause-origin : goal.returns-clause-origin
returns-clause-origin c =
    let small = c.domain-domain.ensures.small in
    let order = ordered c.domain-domain.result c.invariant.ensures in
    rw c.corner.ensures.value (record {
      west = small.west;
      east = omega (arith, ints, small.east, order.0);
      north = small.north;
      south = omega (arith, ints, small.south, order.1);
    })
