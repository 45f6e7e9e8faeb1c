use Rattle.std.proofs.Common.{arith}
use Rattle.tr_paint.proofs.CommandListLemmas.{stored-found}
use Rattle.tr_paint.proofs.places.is_text_at.Goals as goal

pub returns : goal.returns
returns c = λ at text h. stored-found c.args.stored.now c.index-stored-k.result _ c.args.k (omega arith) c.index-stored-k.is (c.is_text.ensures at text h)
