use Rattle.tr_audit.proofs.progress.followed.Goals as goal

pub loop-k-preserved : goal.loop-k-preserved
loop-k-preserved g c = c.follow_entry.ensures c.args.from c.loop-k.auto.k c.loop-k.invariant
