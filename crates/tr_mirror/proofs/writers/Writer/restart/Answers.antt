use Rattle.tr_mirror.proofs.WriterLemmas.{HasSent-none}
use Rattle.tr_mirror.proofs.writers.Writer.restart.Goals as goal

pub returns-clause-sent : goal.returns-clause-sent
returns-clause-sent c = HasSent-none
