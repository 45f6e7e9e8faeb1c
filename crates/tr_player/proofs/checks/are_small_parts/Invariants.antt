use Rattle.std.proofs.Common.{◌≡◌, true, take}
use Rattle.std.specs.List.{list_all}
use Rattle.tr_player.specs.Checks.{is_small_part}
use Rattle.tr_player.proofs.checks.are_small_parts.Given as goal

-- those so far pass the test
abbrev pub invariant-loop-part : goal.invariant-loop-part
invariant-loop-part l = list_all is_small_part (take l.part-index l.parts) ≡ true
