use Rattle.std.proofs.Common.{ap, not, ◌==◌}
use Rattle.tr_words.proofs.LaneLemmas.{unprintable_bits}
use Rattle.tr_words.proofs.lanes.has_unprintable.Goals as goal

pub returns : goal.returns
returns c = ap (λ n. not (n == 0)) (unprintable_bits c.args.at c.args.line.now c.requires)
