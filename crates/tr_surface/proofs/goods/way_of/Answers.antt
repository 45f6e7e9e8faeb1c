use Rattle.tr_surface.proofs.NearLemmas.{domain_step}
use Rattle.tr_surface.proofs.goods.way_of.Goals as goal

pub returns-clause-near : goal.returns-clause-near
returns-clause-near c =
    rw (c.from_corner.ensures, c.corner.ensures.value)
    (domain_step c.domain-from.result c.domain-to.result c.domain-from.ensures.small c.domain-to.ensures.small)
