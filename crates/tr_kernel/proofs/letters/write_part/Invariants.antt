use Rattle.std.proofs.Common.{get_or}
use Rattle.tr_kernel.specs.Letters.{inked}
use Rattle.tr_kernel.proofs.DoneLemmas.{IsDoneTo}
use Rattle.tr_kernel.proofs.letters.write_part.Given as goal

abbrev pub invariant-loop-k : goal.invariant-loop-k
invariant-loop-k l = IsDoneTo (λ k. inked l.inks (get_or l.pixels k 0)) l.fn.row l.row l.k
