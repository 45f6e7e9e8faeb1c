use Rattle.std.proofs.Common.{◌≡◌, true, take}
use Rattle.std.specs.List.{list_all}
use Rattle.tr_player.specs.Checks.{is_small_step}
use Rattle.tr_player.proofs.checks.are_small.Given as goal

-- those so far pass the test
abbrev pub invariant-loop-step : goal.invariant-loop-step
invariant-loop-step l = list_all is_small_step (take l.step-index l.steps) ≡ true
