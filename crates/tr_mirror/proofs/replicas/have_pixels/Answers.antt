use Rattle.std.proofs.Common.{arith, rules}
use Rattle.tr_mirror.proofs.PixelLemmas.{all_below}
use Rattle.tr_mirror.proofs.replicas.have_pixels.Goals as goal

pub returns-in-Map8 : goal.returns-in-Map8
returns-in-Map8 c =
    let all = all_below 256 c.args.pixels.now (λ i. omega (arith, c.type_inv.pixels i)) in
    search rules
