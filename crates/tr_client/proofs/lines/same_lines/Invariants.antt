use Rattle.std.proofs.Common.{◌≡◌, take}
use Rattle.tr_client.proofs.lines.same_lines.Given as goal

-- the lines so far are the same
abbrev pub invariant-loop-i : goal.invariant-loop-i
invariant-loop-i l = take l.i l.lines ≡ take l.i l.others
