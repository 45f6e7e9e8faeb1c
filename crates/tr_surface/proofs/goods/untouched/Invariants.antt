use Rattle.std.proofs.Common.{◌≡◌, ◌&&◌, not, take}
use Rattle.tr_base.specs.declared.Point.{Point}
use Rattle.tr_base.specs.Rects.{has_point}
use Rattle.tr_region.specs.Points.{holds}
use Rattle.tr_paint.specs.Batches.{touches}
use Rattle.tr_surface.proofs.goods.untouched.Given as goal

-- the points that the commands so far don't touch
abbrev pub invariant-loop-i : goal.invariant-loop-i
invariant-loop-i l = (q : Point) → holds l.left q ≡ (has_point l.fn.rect q && not (touches (take l.i l.batch) q))
