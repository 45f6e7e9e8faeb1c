use Rattle.std.proofs.Common.{[], ◌∷◌}
use Rattle.tr_base.specs.Fonts.{pixel_of_bit}
use Rattle.tr_kernel.specs.Letters.{bit_in_letters, inked}
use Rattle.tr_kernel.specs.Blocks.{AreWritten}
use Rattle.tr_kernel.proofs.blocks.write_single.Given as goal

-- the rows so far are written
abbrev pub invariant-loop-v : goal.invariant-loop-v
invariant-loop-v l = AreWritten (λ v k. inked l.inks (pixel_of_bit (bit_in_letters l.font (l.letter ∷ []) v k))) l.block 8 l.v l.fn.pixels l.pixels
