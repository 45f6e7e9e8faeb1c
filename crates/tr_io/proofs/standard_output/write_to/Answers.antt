use Rattle.std.proofs.Common.{sym, ◌∙◌, ap, arith}
use Rattle.tr_io.specs.Attempts.{write_attempt, settled}
use Rattle.tr_io.proofs.AttemptLemmas.{not_tried, tried_again, asked, gave_up}
use Rattle.tr_io.proofs.standard_output.write_to.Goals as goal

pub loop-init : goal.loop-init
loop-init g c = not_tried _ _

pub returns-in-Moved-clause-asked : goal.returns-in-Moved-clause-asked
returns-in-Moved-clause-asked g c =
    asked (write_attempt c.args.piece.now) _ _ _ _ _ _ (ap settled (sym c.write_attempt.ensures ∙ c.in-Moved.is))
    c.loop.invariant c.ask.ensures.told

pub returns-in-Fault-clause-asked : goal.returns-in-Fault-clause-asked
returns-in-Fault-clause-asked g c =
    asked (write_attempt c.args.piece.now) _ _ _ _ _ _ (ap settled (sym c.write_attempt.ensures ∙ c.in-Fault.is))
    c.loop.invariant c.ask.ensures.told

pub loop-preserved : goal.loop-preserved
loop-preserved g c = tried_again (write_attempt c.args.piece.now) _ _ _ _ _ (sym c.write_attempt.ensures ∙ c.in-Again.is) c.loop.invariant c.ask.ensures.told

pub returns-clause-asked : goal.returns-clause-asked
returns-clause-asked g c = gave_up _ _ _ _ (omega arith) c.loop.invariant
