use Rattle.tr_journal.proofs.rights.is_held.Goals as goal
use Rattle.tr_journal.proofs.HeldLemmas.{is_held-from}

pub returns : goal.returns
returns c = is_held-from c.has.result c.args.held.now c.args.level c.has.ensures.member
