use Rattle.std.proofs.Common.{arith}
use Rattle.tr_mirror.proofs.PixelLemmas.{all_zero}
use Rattle.tr_mirror.proofs.pixels.Pixels.new.Goals as goal

pub invariant_of-result : goal.invariant_of-result
invariant_of-result c = (
  record { some_wide = omega arith; wide = omega arith; some_high = omega arith; high = omega arith },
  c.in_ok-vec.ensures.len,
  λ _. all_zero 1048576 c.in_ok-vec.field-0.items (c.in_ok-vec.ensures.items_if_clones_equal (λ y same. same)),
)
