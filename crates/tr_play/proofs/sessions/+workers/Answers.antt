-- What both halves of the workers did, all did.
use Rattle.tr_play.proofs.WorkerLemmas.{taken_both}
use Rattle.tr_play.proofs.sessions.+workers.Goals as goal

pub all_work-returns : goal.all_work-returns
all_work-returns g t c =
    let cut = c.split_at_mut-front in
    taken_both c.args.lists.now c.args.workers.now cut.result.0.now cut.result.1.now c.both_halves.new.front c.both_halves.new.back
    cut.ensures.value c.both_halves.ensures.front c.both_halves.ensures.back
