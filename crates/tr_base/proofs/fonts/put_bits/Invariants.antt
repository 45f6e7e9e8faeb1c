use Rattle.tr_base.specs.Fonts.{pixel_of_bit}
use Rattle.tr_base.specs.Tiles.{is_set}
use Rattle.tr_base.proofs.FontLemmas.{IsPutAt}
use Rattle.tr_base.proofs.fonts.put_bits.Given as goal

abbrev pub invariant-loop-h : goal.invariant-loop-h
invariant-loop-h l = IsPutAt (λ h. pixel_of_bit (is_set l.bits h)) l.fn.pixels l.pixels l.at l.h
