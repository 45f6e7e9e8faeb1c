use Rattle.tr_base.proofs.RectLemmas.{is_full}
use Rattle.tr_region.proofs.RegionLemmas.{IsStored-single, holds-single, listed-none, listed-one}
use Rattle.tr_region.proofs.regions.Region.single.Goals as goal

pub invariant_of-result : goal.invariant_of-result
invariant_of-result c = rw c.new.ensures.items (IsStored-single c.args.rect c.invariant.ensures)

pub returns-clause-points : goal.returns-clause-points
returns-clause-points c = λ p. rw c.new.ensures.items (holds-single c.args.rect p)

pub returns-clause-none : goal.returns-clause-none
returns-clause-none c = λ h. rw c.new.ensures.items (listed-none c.args.rect h)

pub returns-clause-one : goal.returns-clause-one
returns-clause-one c = λ h. rw c.new.ensures.items (listed-one c.args.rect (is_full c.args.rect c.invariant.ensures h).0)
