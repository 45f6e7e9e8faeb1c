use Rattle.tr_region.proofs.OrderLemmas.{AreInOrder-canonical}
use Rattle.tr_region.proofs.ExtentsLemmas.{no_extents}
use Rattle.tr_region.proofs.RegionLemmas.{stored_extents, stored_canonical, stored_holds}
use Rattle.tr_region.proofs.regions.Region.extents.Goals as goal

pub returns-clause-points : goal.returns-clause-points
returns-clause-points c = λ p h. stored_holds _ _ c.args.self.now p c.self.invariant c.self.view_is h

pub returns-clause-none : goal.returns-clause-none
returns-clause-none c =
    let canonical = stored_canonical _ _ c.args.self.now c.self.invariant c.self.view_is in
    rw (stored_extents _ _ c.args.self.now c.self.invariant c.self.view_is) (no_extents c.args.self.now (AreInOrder-canonical c.args.self.now canonical))
