use Rattle.std.proofs.Common.{arith}
use Rattle.tr_paint.proofs.CommandListLemmas.{stored-found, like-same}
use Rattle.tr_paint.proofs.places.is_scroll_at.Goals as goal

pub returns : goal.returns
returns c = λ h.
    stored-found c.args.stored.now c.index-stored-k.result _ c.args.k (omega arith) c.index-stored-k.is
    (like-same c.index-stored-k.result _ (c.is_scroll.ensures h))
