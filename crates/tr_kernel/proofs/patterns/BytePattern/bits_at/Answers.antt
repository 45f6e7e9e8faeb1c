use Rattle.tr_kernel.proofs.PatternLemmas.{byte_bit}
use Rattle.tr_kernel.proofs.patterns.BytePattern.bits_at.Goals as goal

pub returns-clause-bits : goal.returns-clause-bits
returns-clause-bits c k lt reach = rw c.from.ensures (byte_bit c.args.self.now.bits c.args.self.now.phase c.args.at k lt)
