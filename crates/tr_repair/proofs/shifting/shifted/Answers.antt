use Rattle.tr_region.proofs.OrderLemmas.{AreInOrder-canonical}
use Rattle.tr_repair.proofs.NearLemmas.{all_in_reach}
use Rattle.tr_repair.proofs.shifting.shifted.Goals as goal

pub shift-requires : goal.shift-requires
shift-requires c =
    all_in_reach c.args.region.now c.args.delta
    (AreInOrder-canonical c.args.region.now c.invariant.ensures) c.requires.points c.requires.delta
