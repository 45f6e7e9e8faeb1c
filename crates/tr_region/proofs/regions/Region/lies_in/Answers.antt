use Rattle.std.proofs.Common.{◌≡◌, sym, ap, ◌∙◌}
use Rattle.std.proofs.lemmas.Bool.{and_parts}
use Rattle.tr_base.specs.Rects.{Edges, has_point}
use Rattle.tr_base.proofs.RectFacts.{same_edges}
use Rattle.tr_region.proofs.regions.Region.lies_in.Goals as goal

pub returns : goal.returns
returns c = λ h p held.
    let same : c.meet.result ≡ c.extents-extents.result = (same_edges c.meet.result c.extents-extents.result).0 (sym c.eq.ensures ∙ h) in
    (and_parts (has_point c.extents-extents.result p) (has_point c.args.rect.now p)
    (sym (c.meet.ensures.points p) ∙ ap (λ (e : Edges). has_point e p) same ∙ c.extents-extents.ensures.points p held)).1
