use Rattle.std.proofs.Common.{arith}
use Rattle.tr_kernel.proofs.PatternLemmas.{whole_bit}
use Rattle.tr_kernel.proofs.patterns.WholeCellsPattern.whole_bits_at.Goals as goal

pub returns-clause-bits : goal.returns-clause-bits
returns-clause-bits c k lt =
    let last = c.requires.reached 15 (omega arith) in
    whole_bit c.args.self.now.cells.now c.args.at c.requires.even (omega (arith, last)) k lt
