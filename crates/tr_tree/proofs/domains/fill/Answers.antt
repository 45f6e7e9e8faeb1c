use Rattle.std.proofs.Common.{◌≡◌, All, refl, subst, arith}
use Rattle.std.proofs.lemmas.List.{take_all, take_more_set}
use Rattle.std.proofs.lemmas.List.Elements.{All-push, All-same}
use Rattle.tr_base.specs.Rects.{Edges}
use Rattle.tr_tree.proofs.domains.fill.Goals as goal

pub loop-place-preserved : goal.loop-place-preserved
loop-place-preserved c =
    let r = c.args.rect in
    All-same (λ (place : Edges). place ≡ r) _ _ (take_more_set c.loop-place.places c.loop-place.place-index r (omega arith))
    (All-push (λ (place : Edges). place ≡ r) _ r c.loop-place.invariant refl)

pub returns-clause-rects : goal.returns-clause-rects
returns-clause-rects c =
    subst (All (λ (place : Edges). place ≡ c.args.rect)) (take_all c.loop-place.place-index c.loop-place.places (omega arith)) c.loop-place.invariant
