use Rattle.tr_exec.proofs.PaintingLemmas.{repaints_own}
use Rattle.tr_exec.proofs.tints.paint_tint.Goals as goal

pub returns-in-Transparent : goal.returns-in-Transparent
returns-in-Transparent c = rw c.in-Transparent.is (repaints_own _ c.args.screen.now)

pub returns-in-Exchange : goal.returns-in-Exchange
returns-in-Exchange c = rw c.in-Exchange.is (rw (c.resolved.ensures, c.resolved-in-Exchange.ensures) at c.paint_within.ensures)
