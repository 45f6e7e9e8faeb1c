use Rattle.tr_kernel.proofs.LaneLemmas.{flip_lanes, flip_at, flips_made, lanes_made, lane_made}
use Rattle.tr_kernel.proofs.lanes.exchanged_lanes.Goals as goal

pub returns-clause-lanes : goal.returns-clause-lanes
returns-clause-lanes g c = let a = c.args in lanes_made (flip_at a.old a.x a.y) (flip_lanes a.old a.x a.y)
    (flips_made a.old a.x a.y c.fits-old.0 c.fits-x.0 c.fits-y.0)

pub returns-clause-each : goal.returns-clause-each
returns-clause-each g c k lt = let a = c.args in lane_made (flip_at a.old a.x a.y) (flip_lanes a.old a.x a.y)
    (flips_made a.old a.x a.y c.fits-old.0 c.fits-x.0 c.fits-y.0) k 0 lt
