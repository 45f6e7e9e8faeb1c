use Rattle.std.proofs.Common.{arith}
use Rattle.tr_base.proofs.FontLemmas.{boxes_have_pixels}
use Rattle.tr_base.proofs.fonts.box_pixels.Goals as goal

pub returns : goal.returns
returns c = boxes_have_pixels c.loop-i.pixels.items (omega arith) (λ k lt. c.loop-i.invariant.1 k (omega arith))
