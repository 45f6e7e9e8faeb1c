use Rattle.tr_region.proofs.EndLemmas.{none_begun}
use Rattle.tr_region.proofs.sweeps.Made.begin.Goals as goal

pub returns-then-not-kept-clause-last : goal.returns-then-not-kept-clause-last
returns-then-not-kept-clause-last c = none_begun c.args.kept c.args.lead.now c.if-not-kept.true
