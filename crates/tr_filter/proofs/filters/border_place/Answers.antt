use Rattle.std.proofs.Common.{pos, ◌+ℤ◌, ◌-ℤ◌, ap, ◌∙◌, arith}
use Rattle.std.proofs.lemmas.Int.{ints}
use Rattle.tr_base.specs.Rects.{Edges}
use Rattle.tr_base.proofs.RectLemmas.{cast-rect}
use Rattle.tr_filter.specs.Filters.{border_place}
use Rattle.tr_filter.proofs.FilterLemmas.{border_part, border_empty}
use Rattle.tr_filter.proofs.filters.border_place.Goals as goal

pub returns-clause-place : goal.returns-clause-place
returns-clause-place c =
    let r = c.args.rect in
    let by = pos c.args.width in
    cast-rect _ _ _ _ _ (r.west +ℤ by) (r.east -ℤ by) (r.north +ℤ by) (r.south -ℤ by) c.raised.ensures.reach c.lowered.ensures.reach
    c.raised-2.ensures.reach c.lowered-2.ensures.reach c.edges.ensures.edges
    (omega (arith, ints)) (omega (arith, ints)) (omega (arith, ints)) (omega (arith, ints))

pub returns-clause-part : goal.returns-clause-part
returns-clause-part c = rw (returns-clause-place c) (border_part c.args.rect c.args.width)

pub returns-clause-empty : goal.returns-clause-empty
returns-clause-empty c = λ h. returns-clause-place c ∙ ap (λ (e : Edges). border_place e c.args.width) h ∙ border_empty c.args.width
