use Rattle.std.proofs.Common.{◌≡◌, length}
use Rattle.tr_grammar.specs.States.{nothing_yet}
use Rattle.tr_grammar.specs.Texts.{lines_of}
use Rattle.tr_grammar.specs.Scripts.{after_all_lines}
use Rattle.tr_session.proofs.openings.reader_of.Given as goal

-- the lines of the rest come after those that were read
abbrev pub invariant-loop-rest : goal.invariant-loop-rest
invariant-loop-rest l = after_all_lines l.reader (lines_of l.rest) ≡ after_all_lines nothing_yet (lines_of l.text)

abbrev pub decreases-loop-rest : goal.decreases-loop-rest
decreases-loop-rest l = length l.rest
