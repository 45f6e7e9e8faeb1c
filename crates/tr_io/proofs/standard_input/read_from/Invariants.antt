use Rattle.tr_io.specs.Attempts.{OfKnown, Tried, read_attempt}
use Rattle.tr_io.proofs.standard_input.read_from.Given as goal

-- each call so far was interrupted
abbrev pub invariant-loop : goal.invariant-loop
invariant-loop g l = OfKnown (g.I.Input.answers l.fn.input) (g.I.Input.answers l.input) (Tried read_attempt l.counter)
