use Rattle.tr_paint.proofs.BatchLemmas.{kept_at}
use Rattle.tr_paint.proofs.batches.Batch.get.Goals as goal

pub returns-clause-kept : goal.returns-clause-kept
returns-clause-kept c = kept_at _ c.args.i _ c.self.invariant.batch c.get.ensures
