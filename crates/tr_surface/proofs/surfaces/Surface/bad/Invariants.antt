use Rattle.std.proofs.Common.{◌≡◌}
use Rattle.tr_base.specs.declared.Point.{Point}
use Rattle.tr_region.specs.Points.{holds}
use Rattle.tr_surface.proofs.CountLemmas.{left_after}
use Rattle.tr_surface.proofs.surfaces.Surface.bad.Given as goal

-- the good points of the nodes so far are taken off
abbrev pub invariant-loop-good : goal.invariant-loop-good
invariant-loop-good l = (p : Point) → holds l.bad p ≡ left_after l.self.tree l.good-items l.good-index p
