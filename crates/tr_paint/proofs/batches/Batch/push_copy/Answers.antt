use Rattle.tr_paint.proofs.BatchLemmas.{kept-one}
use Rattle.tr_paint.proofs.batches.Batch.push_copy.Goals as goal

pub push-requires : goal.push-requires
push-requires c = rw c.in_ok-copied.ensures c.requires.near

pub returns-clause-ok : goal.returns-clause-ok
returns-clause-ok c = rw (c.in_ok-copied.ensures, kept-one _ c.requires) at c.push.ensures.ok
