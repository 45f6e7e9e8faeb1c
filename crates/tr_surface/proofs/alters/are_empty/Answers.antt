use Rattle.std.proofs.Common.{◌≡◌, inl, inr, [], get_or, sym, ap, ◌∙◌, arith}
use Rattle.std.proofs.lemmas.Bool.{cases_lt}
use Rattle.std.proofs.lemmas.List.{get_or_default, get_or_past}
use Rattle.tr_surface.proofs.alters.are_empty.Goals as goal

pub loop-region-init : goal.loop-region-init
loop-region-init c = λ i lt. absurd (omega (arith, lt))

pub loop-region-preserved : goal.loop-region-preserved
loop-region-preserved c = λ i lt.
    let all = c.args.regions.now in
    let k = c.loop-region.region-index in
    elim (cases_lt i k) [
      | inl h ↦ c.loop-region.invariant i h
      | inr h ↦
          let same : i ≡ k = omega (arith, lt, h) in
          ap (λ j. get_or all j []) same ∙ get_or_default all k [] c.region-item.result c.loop-region-test.true
          ∙ sym c.region-item.is ∙ c.is_empty.ensures.list.0 c.if-not-is_empty.false
    ]

pub returns : goal.returns
returns c = λ yes n.
    elim (cases_lt n.0 c.loop-region.region-index) [
      | inl h ↦ c.loop-region.invariant n.0 h
      | inr h ↦ get_or_past c.args.regions.now n.0 [] (omega (arith, h, c.loop-region-test.false))
    ]
