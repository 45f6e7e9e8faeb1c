use Rattle.std.proofs.Common.{take}
use Rattle.tr_paint.specs.Traces.{Look}
use Rattle.tr_paint.specs.Paintings.{IsPainting}
use Rattle.tr_client.specs.Texts.{colour_in}
use Rattle.tr_client.proofs.lines.paint_lines.Given as goal

-- the lines so far are painted
abbrev pub invariant-loop-above : goal.invariant-loop-above
invariant-loop-above l = (look : Look) → IsPainting look l.part l.batch (colour_in look (take l.above l.lines))
