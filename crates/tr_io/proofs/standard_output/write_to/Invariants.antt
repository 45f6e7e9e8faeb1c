use Rattle.tr_io.specs.Attempts.{OfKnown, Tried, write_attempt}
use Rattle.tr_io.proofs.standard_output.write_to.Given as goal

-- each call so far was interrupted
abbrev pub invariant-loop : goal.invariant-loop
invariant-loop g l = OfKnown (g.O.Output.answers l.fn.output) (g.O.Output.answers l.output) (Tried (write_attempt l.piece) l.counter)
