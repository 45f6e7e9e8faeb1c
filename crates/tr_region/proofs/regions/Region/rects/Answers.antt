use Rattle.std.proofs.Common.{◌∙◌, sym, arith}
use Rattle.std.proofs.lemmas.Bool.{both_ways, eqb-true, eqb-false}
use Rattle.tr_region.proofs.RegionLemmas.{stored_many, stored_one, stored_none, some_items}
use Rattle.tr_region.proofs.regions.Region.rects.Goals as goal
use Rattle.tr_region.proofs.regions.Region.rects.Goals.{else-is_empty-via-then-is_empty+else-not-is_empty, else-is_empty-via-else-is_empty}

pub returns-then-not-is_empty-clause-value : goal.returns-then-not-is_empty-clause-value
returns-then-not-is_empty-clause-value c =
    let told = c.is_empty-then-is_empty.ensures in
    c.from_ref.ensures.value
    ∙ sym (stored_one c.self.inside.extents c.self.inside.many.items c.args.self.now told.invariant c.self.view_is
    (omega (arith, c.self.inside.many.ok.0, eqb-true _ _ (sym c.is_empty.ensures ∙ c.if-is_empty.true)))
    (λ e. both_ways _ c.if-not-is_empty.true (told.value.1 e)))

pub returns-else-is_empty-clause-value : goal.returns-else-is_empty-clause-value
returns-else-is_empty-clause-value c =
    c.deref.ensures.value
    ∙ elim c.else-is_empty.branch [
      | else-is_empty-via-then-is_empty+else-not-is_empty w ↦
          stored_none c.self.inside.extents c.self.inside.many.items c.args.self.now c.self.view_is
          (omega (arith, c.self.inside.many.ok.0, eqb-true _ _ (sym c.is_empty.ensures ∙ w.if-is_empty.true)))
          (w.is_empty-then-is_empty.ensures.value.0 w.if-not-is_empty.false)
      | else-is_empty-via-else-is_empty w ↦
          stored_many c.self.inside.extents c.self.inside.many.items c.args.self.now c.self.view_is
          (some_items c.self.inside.many.ok.0 (eqb-false _ _ (sym c.is_empty.ensures ∙ w.if-is_empty.false)))
    ]
