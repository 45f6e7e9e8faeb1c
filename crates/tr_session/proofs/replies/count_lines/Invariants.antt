use Rattle.std.proofs.Common.{◌≡◌, ◌≤◌, take}
use Rattle.tr_session.specs.Answers.{line_count}
use Rattle.tr_session.proofs.replies.count_lines.Given as goal

-- the line feeds so far are counted
abbrev pub invariant-loop-byte : goal.invariant-loop-byte
invariant-loop-byte l = (l.count ≡ line_count (take l.byte-index l.text)) × (l.count ≤ l.byte-index)
