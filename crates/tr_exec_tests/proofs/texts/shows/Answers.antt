use Rattle.std.proofs.Common.{ap, arith}
use Rattle.tr_base.specs.declared.Size.{Size}
use Rattle.tr_exec_tests.proofs.texts.shows.Goals as goal

pub row-requires : goal.row-requires
row-requires c = let high = ap (λ (s : Size). s.high) c.requires in omega (arith, high)
