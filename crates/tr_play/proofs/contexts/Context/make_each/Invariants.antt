use Rattle.std.proofs.Common.{◌≡◌, [], ◌++◌, take}
use Rattle.tr_play.proofs.contexts.Context.make_each.Given as goal

-- the steps so far were made with the pass, and no lock is held
abbrev pub invariant-loop-k : goal.invariant-loop-k
invariant-loop-k g l = (l.pass.actor ≡ l.fn.pass.actor) × (l.pass.mine ≡ l.fn.pass.mine ++ take l.k l.list) × (l.free ≡ [])
