use Rattle.std.proofs.Common.{◌≡◌, []}
use Rattle.tr_play.proofs.contexts.Context.paint.Given as goal

-- the pass is the same actor's, and no lock is held
abbrev pub invariant-loop-repaint : goal.invariant-loop-repaint
invariant-loop-repaint g l = (l.pass.actor ≡ l.fn.pass.actor) × (l.free ≡ [])
