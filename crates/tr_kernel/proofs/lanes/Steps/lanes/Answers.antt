use Rattle.tr_kernel.proofs.LaneLemmas.{step_lanes, merge_at, steps_made, step_at, lanes_made}
use Rattle.tr_kernel.proofs.lanes.Steps.lanes.Goals as goal

pub returns-clause-lanes : goal.returns-clause-lanes
returns-clause-lanes g c =
    let e = c.exchanged_lanes.result in
    lanes_made (merge_at c.args.self c.args.bits e) (step_lanes c.args.self c.args.bits e)
    (steps_made c.args.self c.args.bits e c.fits-bits.0 c.exchanged_lanes.ensures.lanes)

pub returns-clause-each : goal.returns-clause-each
returns-clause-each g c =
    step_at c.args.self c.args.bits c.args.old c.exchanged_lanes.result c.fits-bits.0 c.exchanged_lanes.ensures.lanes c.exchanged_lanes.ensures.each
