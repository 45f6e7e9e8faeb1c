use Rattle.tr_journal.specs.Actors.{entries_of}
use Rattle.tr_audit.proofs.AuditLemmas.{kept_more}
use Rattle.tr_audit.proofs.audits.first_kept_apart.Goals as goal

pub loop-k-preserved : goal.loop-k-preserved
loop-k-preserved g c =
    kept_more (entries_of c.args.kept.now.lines) (entries_of c.args.journal.now.lines) c.loop-k.k c.get.result.now c.get.ensures
    (c.has_entry.ensures.0 c.if-not-has_entry.false) c.loop-k.invariant
