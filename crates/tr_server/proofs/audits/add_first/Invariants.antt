use Rattle.std.proofs.Common.{◌≡◌, take}
use Rattle.tr_server.proofs.audits.add_first.Given as goal

-- the entries so far are copied
abbrev pub invariant-loop-k : goal.invariant-loop-k
invariant-loop-k g l = l.part.lines ≡ take l.k l.journal.lines
