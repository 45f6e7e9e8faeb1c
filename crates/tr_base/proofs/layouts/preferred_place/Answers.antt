use Rattle.std.proofs.Common.{◌∙◌}
use Rattle.tr_base.proofs.RectLemmas.{false-true, is_full}
use Rattle.tr_base.proofs.LayoutLemmas.{near-placed, preferred_in_full}
use Rattle.tr_base.proofs.layouts.preferred_place.Goals as goal

pub returns-clause-place : goal.returns-clause-place
returns-clause-place c =
    let full = is_full c.args.rect.now c.is_empty.ensures.invariant (λ h. false-true (c.if-is_empty.ensures.value.1 h)) in
    c.placed.ensures ∙ preferred_in_full c.args.rect.now c.args.by c.args.child.now c.preferred_size.result full c.preferred_size.ensures.size

pub returns-clause-near : goal.returns-clause-near
returns-clause-near c = rw c.placed.ensures
    (near-placed 2048 c.args.rect.now c.args.by c.preferred_size.result c.requires.offset c.preferred_size.ensures.wide c.preferred_size.ensures.high)
