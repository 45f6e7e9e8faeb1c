use Rattle.std.proofs.Common.{◌≡◌, length, []}
use Rattle.tr_base.specs.declared.NodeId.{NodeId}
use Rattle.tr_spot.specs.Spots.{region_of}
use Rattle.tr_surface.proofs.surfaces.empty_regions.Given as goal

abbrev pub invariant-loop-n : goal.invariant-loop-n
invariant-loop-n l = record {
  count : length l.regions.items ≡ l._n;
  empty : (n : NodeId) → region_of l.regions.items n ≡ [];
}
