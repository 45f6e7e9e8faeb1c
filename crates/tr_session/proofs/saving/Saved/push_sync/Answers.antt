use Rattle.tr_session.proofs.saving.Saved.push_sync.Goals as goal
use Rattle.tr_gen_valid.proofs.Rounds.{sync_plain}

pub push-requires-clause-plain : goal.push-requires-clause-plain
push-requires-clause-plain c = sync_plain
