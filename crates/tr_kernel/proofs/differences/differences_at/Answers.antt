use Rattle.tr_kernel.proofs.PairLemmas.{bitmask-differing}
use Rattle.tr_kernel.proofs.differences.differences_at.Goals as goal

pub returns : goal.returns
returns c = bitmask-differing c.args.a.now c.args.b.now c.requires.same c.args.at c.requires.within
