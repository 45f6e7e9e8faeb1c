use Rattle.std.proofs.Common.{take}
use Rattle.tr_parts.specs.Turns.{HasRun}
use Rattle.tr_play.proofs.orders.make_all.Given as goal

-- the steps so far were made
abbrev pub invariant-loop-made : goal.invariant-loop-made
invariant-loop-made g l = HasRun l.fn.stage l.stage (take l.made-index l.steps)
