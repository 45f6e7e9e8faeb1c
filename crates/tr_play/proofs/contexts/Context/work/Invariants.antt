use Rattle.std.proofs.Common.{◌≡◌, ◌*◌, [], ◌++◌, take}
use Rattle.tr_play.proofs.contexts.Context.work.Given as goal

-- the steps so far were made with the pass, and no lock is held
abbrev pub invariant-loop-n : goal.invariant-loop-n
invariant-loop-n g l = (l.pass.actor ≡ l.fn.pass.actor) × (l.pass.mine ≡ l.fn.pass.mine ++ take (l.n * 16) l.list) × (l.free ≡ [])
