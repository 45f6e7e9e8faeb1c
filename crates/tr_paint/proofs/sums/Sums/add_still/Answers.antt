use Rattle.std.proofs.Common.{[], ◌∷◌, ◌∙◌}
use Rattle.std.proofs.lemmas.List.Elements.{All-append}
use Rattle.tr_paint.specs.Sums.{IsHull, IsOneOf}
use Rattle.tr_paint.proofs.SumLemmas.{hull-append, hull-one, cost-append, cost-one, spoils-still, scrolls-one, no_scroll-one}
use Rattle.tr_paint.proofs.sums.Sums.add_still.Goals as goal

pub returns : goal.returns
returns c = λ front paint is weighs still none some.
    let one : IsHull c.args.touched.now (paint ∷ []) = rw is (hull-one paint) in
    record {
      hull = hull-append _ _ _ front (paint ∷ []) c.hull-self.ensures.first c.hull-self.ensures.second c.hull-self.ensures.least some.hull one;
      cost =
          c.saturating_add-self.ensures
          ∙ cost-append _ _ front (paint ∷ []) some.cost (cost-one paint _ (rw (← is, ← weighs) (cc c.saturating_mul.ensures)));
      spoils = some.spoils ∙ spoils-still paint front still;
      scrolls = All-append (IsOneOf _) front (paint ∷ []) some.scrolls (scrolls-one _ paint (no_scroll-one _ paint none));
      near = some.near;
    }
