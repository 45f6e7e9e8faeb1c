use Rattle.std.proofs.Common.{◌≡◌}
use Rattle.tr_surface.specs.Counts.{count_on}
use Rattle.tr_surface.proofs.CountLemmas.{left_after}
use Rattle.tr_surface.proofs.surfaces.Surface.bad_count.Given as goal

-- the good points of the nodes so far are taken off
abbrev pub invariant-loop-region : goal.invariant-loop-region
invariant-loop-region l = l.count ≡ count_on l.self.tree.size (left_after l.self.tree l.region-items l.region-index)
