use Rattle.std.proofs.Common.{ap, sym, ◌∙◌}
use Rattle.std.proofs.lemmas.Bool.{and_parts}
use Rattle.tr_base.specs.Rects.{Edges, has_point}
use Rattle.tr_base.proofs.RectFacts.{same_edges}
use Rattle.tr_region.proofs.RegionLemmas.{stored_holds, single_holds}
use Rattle.tr_region.proofs.regions.Region.surrounds.Goals as goal

pub returns-then-is_single : goal.returns-then-is_single
returns-then-is_single c = λ same p h.
    let there = stored_holds _ _ c.args.other.now p c.other.invariant c.other.view_is h in
    let around = (same_edges c.meet.result c.other.inside.extents).0 (sym c.eq.ensures ∙ same) in
    let both = sym (c.meet.ensures.points p) ∙ ap (λ (r : Edges). has_point r p) around ∙ there in
    single_holds _ _ c.args.self.now c.self.invariant c.self.view_is (c.is_single.ensures c.if-is_single.true) p
    ∙ (and_parts (has_point c.self.inside.extents p) (has_point c.other.inside.extents p) both).0
