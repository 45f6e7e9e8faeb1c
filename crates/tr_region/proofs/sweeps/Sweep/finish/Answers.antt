use Rattle.std.proofs.Common.{◌≡◌, ◌||◌, [], ap, ⊎_elim}
use Rattle.std.proofs.lemmas.Bool.{iff_false}
use Rattle.std.proofs.lemmas.Result.{IfOk-weaker}
use Rattle.tr_region.specs.Bands.{bands_of, in_spans, spans_at}
use Rattle.tr_region.proofs.BandLemmas.{holds-canonical}
use Rattle.tr_region.proofs.EndLemmas.{first_left, second_left}
use Rattle.tr_region.proofs.sweeps.Sweep.finish.Goals as goal

pub returns-then-is_empty-clause-points : goal.returns-then-is_empty-clause-points
returns-then-is_empty-clause-points c =
    let sweep = c.args.self in
    let none : sweep.first ≡ [] = c.is_empty.ensures.0 c.if-is_empty.true in
    IfOk-weaker c.finish.result _ _
    (λ v e p. rw (e p, c.keeps.ensures, none, holds-canonical sweep.made.rects.items p c.requires.made.canonical.bands)
    (ap (λ t. in_spans (spans_at (bands_of sweep.made.rects.items) p.v) p.h || t)
    (second_left sweep.operation (in_spans (spans_at sweep.second p.v) p.h))))
    c.finish.ensures.points

pub returns-else-is_empty-clause-points : goal.returns-else-is_empty-clause-points
returns-else-is_empty-clause-points c =
    let sweep = c.args.self in
    let none : sweep.second ≡ [] = ⊎_elim (λ h. absurd (iff_false c.is_empty.ensures c.if-is_empty.false h)) (λ h. h) c.requires.over in
    IfOk-weaker c.finish-else-is_empty.result _ _
    (λ v e p. rw (e p, c.keeps-else-is_empty.ensures, none, holds-canonical sweep.made.rects.items p c.requires.made.canonical.bands)
    (ap (λ t. in_spans (spans_at (bands_of sweep.made.rects.items) p.v) p.h || t)
    (first_left sweep.operation (in_spans (spans_at sweep.first p.v) p.h))))
    c.finish-else-is_empty.ensures.points
