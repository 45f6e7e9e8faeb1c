use Rattle.std.proofs.Common.{◌≡◌, ◌+◌}
use Rattle.tr_player.proofs.CheckLemmas.{steps_before}
use Rattle.tr_player.proofs.checks.are_few.Given as goal

-- what is left, and the steps of the parts so far, are as many as may be
abbrev pub invariant-loop-part : goal.invariant-loop-part
invariant-loop-part l = l.left + steps_before l.part-index l.parts ≡ 2000
