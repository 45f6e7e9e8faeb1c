use Rattle.tr_base.specs.Fonts.{pixel_of_bit}
use Rattle.tr_kernel.specs.Letters.{bit_in_letters, inked}
use Rattle.tr_kernel.specs.Blocks.{AreWritten}
use Rattle.tr_kernel.proofs.blocks.write_pair.Given as goal

-- the rows so far are written
abbrev pub invariant-loop-v : goal.invariant-loop-v
invariant-loop-v l = AreWritten (λ v k. inked l.inks (pixel_of_bit (bit_in_letters l.font l.fn.pair v k))) l.block 16 l.v l.fn.pixels l.pixels
