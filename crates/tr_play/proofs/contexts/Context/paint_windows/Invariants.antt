use Rattle.std.proofs.Common.{◌≡◌, []}
use Rattle.tr_play.proofs.contexts.Context.paint_windows.Given as goal

-- the pass is the painter's, and no lock is held
abbrev pub invariant-loop-n : goal.invariant-loop-n
invariant-loop-n g l = (l.pass.actor ≡ l.fn.pass.actor) × (l.free ≡ [])
