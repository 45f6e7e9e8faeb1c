use Rattle.tr_session.proofs.ScriptLemmas.{ended_fault, ended_meaning, ended_none}
use Rattle.tr_session.proofs.scripts.Script.read.Goals as goal

pub returns-then-self-clause-none : goal.returns-then-self-clause-none
returns-then-self-clause-none c =
    ended_none c.args.self.now.reader c.args.self.now.has_ended c.args.line.now c.if-self.true c.silent_line.result c.silent_line.ensures.ok

pub returns-then-self-clause-meaning : goal.returns-then-self-clause-meaning
returns-then-self-clause-meaning c =
    ended_meaning c.args.self.now.reader c.args.self.now.has_ended c.args.line.now c.if-self.true c.silent_line.result c.silent_line.ensures.ok

pub returns-then-self-clause-fault : goal.returns-then-self-clause-fault
returns-then-self-clause-fault c =
    ended_fault c.args.self.now.reader c.args.self.now.has_ended c.args.line.now c.if-self.true c.silent_line.result c.silent_line.ensures.fault
