use Rattle.std.proofs.Common.{◌≡◌, ◌++◌, take}
use Rattle.tr_client.proofs.lines.append_lines.Given as goal

-- the lines so far are copied behind the others
abbrev pub invariant-loop-line : goal.invariant-loop-line
invariant-loop-line l = l.all.items ≡ l.fn.all.items ++ take l.line-index l.lines
