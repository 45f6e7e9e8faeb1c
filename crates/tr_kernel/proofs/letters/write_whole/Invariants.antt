use Rattle.std.proofs.Common.{◌*◌}
use Rattle.tr_kernel.specs.Letters.{inked, pixel_in}
use Rattle.tr_kernel.proofs.DoneLemmas.{IsDoneTo}
use Rattle.tr_kernel.proofs.letters.write_whole.Given as goal

-- the pairs so far are written
abbrev pub invariant-loop-i : goal.invariant-loop-i
invariant-loop-i l = IsDoneTo (λ k. inked l.inks (pixel_in l.source l.text k)) l.fn.row l.row (16 * l.i)
