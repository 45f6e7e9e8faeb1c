use Rattle.std.proofs.Common.{length}
use Rattle.tr_grammar.specs.Texts.{lines_of}
use Rattle.tr_session.proofs.TakenAgainLemmas.{IsTaking}
use Rattle.tr_session.proofs.sessions.Session.take_lines.Given as goal

-- the lines of the rest come after those that were taken
abbrev pub invariant-loop-rest : goal.invariant-loop-rest
invariant-loop-rest l = IsTaking l.fn.self l.self (lines_of l.text) (lines_of l.rest)

abbrev pub decreases-loop-rest : goal.decreases-loop-rest
decreases-loop-rest l = length l.rest
