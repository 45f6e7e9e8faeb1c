use Rattle.std.proofs.Common.{◌≡◌}
use Rattle.tr_play.proofs.contexts.Context.paint_all.Given as goal

-- the pass is the painter's, on a stage with the same opening
abbrev pub invariant-loop-n : goal.invariant-loop-n
invariant-loop-n g l = (l.pass.actor ≡ l.fn.pass.actor) × (l.mu.opening ≡ l.fn.mu.opening)
