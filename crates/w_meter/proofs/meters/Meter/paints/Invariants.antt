use Rattle.std.proofs.Common.{take}
use Rattle.tr_paint.specs.Traces.{Look}
use Rattle.tr_paint.specs.Paintings.{IsPainting}
use Rattle.w_meter.specs.Meters.{meter_pic}
use Rattle.w_meter.proofs.meters.Meter.paints.Given as goal

-- the bars so far are painted
abbrev pub invariant-loop-bar : goal.invariant-loop-bar
invariant-loop-bar l = (look : Look) → IsPainting look l.part l.batch (meter_pic look l.size (take l.bar l.height-items))
