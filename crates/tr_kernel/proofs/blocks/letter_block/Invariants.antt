use Rattle.std.proofs.Common.{◌*◌, cond}
use Rattle.tr_kernel.specs.Letters.{bit_in_letters}
use Rattle.tr_kernel.specs.Blocks.{AreWritten}
use Rattle.tr_kernel.proofs.blocks.letter_block.Given as goal

-- the pairs so far are written
abbrev pub invariant-loop-i : goal.invariant-loop-i
invariant-loop-i l =
    AreWritten (λ v k. cond (bit_in_letters l.lettering.font.now l.text v k) l.lettering.one l.lettering.zero) l.block (16 * l.i) 8 l.fn.pixels l.pixels
