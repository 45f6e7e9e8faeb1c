use Rattle.std.proofs.Common.{ap, not, ◌==◌}
use Rattle.tr_kernel.proofs.PairLemmas.{bitmask-differing}
use Rattle.tr_kernel.proofs.differences.differ_from.Goals as goal

pub returns : goal.returns
returns c =
    ap (λ n. not (n == 0)) (bitmask-differing c.args.a.now c.args.b.now c.requires.same c.args.at c.requires.within)
