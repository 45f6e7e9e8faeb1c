use Rattle.std.proofs.Common.{take}
use Rattle.tr_exec.proofs.PlanInvariant.{IsPlanned}
use Rattle.tr_exec.proofs.sites.Site.plan.Given as goal

abbrev pub invariant-loop-i : goal.invariant-loop-i
invariant-loop-i l = IsPlanned l.self.origin l.self.visible.now l.bad (take l.i l.batch) l.moves.items l.unknown
