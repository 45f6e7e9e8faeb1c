use Rattle.std.proofs.Common.{◌≡◌, ◌++◌, take}
use Rattle.tr_play.proofs.contexts.Context.make_all_under.Given as goal

-- the steps so far were made with the pass, on a stage with the same opening
abbrev pub invariant-loop-k : goal.invariant-loop-k
invariant-loop-k g l =
    (l.mu.opening ≡ l.fn.mu.opening) × (l.pass.actor ≡ l.fn.pass.actor) × (l.pass.mine ≡ l.fn.pass.mine ++ take l.k l.list)
