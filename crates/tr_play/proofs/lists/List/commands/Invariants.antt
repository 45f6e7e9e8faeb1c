use Rattle.std.proofs.Common.{◌≡◌, ◌↔◌, take}
use Rattle.tr_play.specs.Workers.{AreNoCommands}
use Rattle.tr_play.proofs.lists.List.commands.Given as goal

-- where none was counted none of the steps so far is one
abbrev pub invariant-loop-k : goal.invariant-loop-k
invariant-loop-k g l = (l.commands ≡ 0) ↔ AreNoCommands (take l.k l.self)
