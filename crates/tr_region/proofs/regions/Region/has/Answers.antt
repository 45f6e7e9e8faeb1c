use Rattle.std.proofs.Common.{List, sym, ap, ◌∙◌}
use Rattle.std.proofs.lemmas.Bool.{eqb-false, false_from_ne_true, both_ways}
use Rattle.tr_base.specs.Rects.{Edges}
use Rattle.tr_region.specs.Points.{holds}
use Rattle.tr_region.proofs.RegionLemmas.{stored_canonical, stored_many, stored_holds, some_items}
use Rattle.tr_region.proofs.regions.Region.has.Goals as goal

pub returns-then-not-has : goal.returns-then-not-has
returns-then-not-has c =
    let out = sym c.has.ensures ∙ c.if-not-has.true in
    sym (false_from_ne_true (holds c.args.self.now c.args.p)
    (λ h. both_ways _ out (stored_holds _ _ c.args.self.now c.args.p c.self.invariant c.self.view_is h)))

pub holds_point-requires : goal.holds_point-requires
holds_point-requires c =
    let many = stored_many c.self.inside.extents c.self.inside.many.items c.args.self.now c.self.view_is
    (some_items c.self.inside.many.ok.0 (eqb-false _ _ (sym c.is_empty.ensures ∙ c.if-is_empty.false))) in
    rw (c.deref.ensures.value ∙ many) (stored_canonical _ _ c.args.self.now c.self.invariant c.self.view_is)

pub returns-else-is_empty : goal.returns-else-is_empty
returns-else-is_empty c =
    let many = stored_many c.self.inside.extents c.self.inside.many.items c.args.self.now c.self.view_is
    (some_items c.self.inside.many.ok.0 (eqb-false _ _ (sym c.is_empty.ensures ∙ c.if-is_empty.false))) in
    c.holds_point.ensures ∙ ap (λ (rects : List Edges). holds rects c.args.p) (c.deref.ensures.value ∙ many)
