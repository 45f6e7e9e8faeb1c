use Rattle.tr_surface.proofs.BadLemmas.{some_point, not_both}
use Rattle.tr_surface.proofs.bads.holds_some.Goals as goal

pub returns-clause-some : goal.returns-clause-some
returns-clause-some c = λ yes.
    some_point c.args.region c.invariant.ensures (λ none. not_both c.is_empty.result yes (c.is_empty.ensures.list.1 none))
