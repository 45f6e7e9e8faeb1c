use Rattle.std.proofs.Common.{◌≡◌, ◌&&◌, pos}
use Rattle.tr_region.specs.Points.{count_below, holds, sum_below}
use Rattle.tr_stage.specs.Stages.{is_different}
use Rattle.tr_stage.proofs.counts.count_apart.Given as goal

abbrev pub invariant-loop-v : goal.invariant-loop-v
invariant-loop-v l = l.count ≡ sum_below l.v (λ y. count_below l.a.size.wide (λ h.
    holds l.region (record { h = pos h; v = pos y }) && is_different l.a l.b (record { h = pos h; v = pos y })))
