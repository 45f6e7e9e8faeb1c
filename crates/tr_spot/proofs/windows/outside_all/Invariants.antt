use Rattle.std.proofs.Common.{◌≡◌, ◌&&◌, drop}
use Rattle.tr_base.specs.declared.Point.{Point}
use Rattle.tr_region.specs.Points.{holds}
use Rattle.tr_spot.specs.Ways.{front, is_nobody}
use Rattle.tr_spot.proofs.windows.outside_all.Given as goal

-- of the rest the nodes that are left leave what all of them leave of the part
abbrev pub invariant-loop-at : goal.invariant-loop-at
invariant-loop-at l = (p : Point) → (holds l.left p && is_nobody (front l.tree p (drop l.at l.nodes)))
    ≡ (holds l.fn.part p && is_nobody (front l.tree p l.nodes))
