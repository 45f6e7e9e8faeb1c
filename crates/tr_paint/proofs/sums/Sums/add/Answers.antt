use Rattle.std.proofs.Common.{◌≡◌, ◌||◌, Bool, true, false, [], ◌∷◌, refl, ◌∙◌}
use Rattle.std.proofs.lemmas.List.Folds.{list_any-append}
use Rattle.tr_paint.specs.Sums.{IsHull, is_spoil}
use Rattle.tr_paint.specs.Views.{viewed}
use Rattle.tr_paint.proofs.SumLemmas.{hull-append, hull-one, cost-append, scrolls-append, scrolls-one}
use Rattle.tr_paint.proofs.sums.Sums.add.Goals as goal

alone : (b : Bool) → (b || false) ≡ b
alone true = refl
alone false = refl

pub returns : goal.returns
returns c = λ front some.
    let paint = viewed c.args.paint.now in
    let one : IsHull c.args.area.now (paint ∷ []) = rw c.requires.area (hull-one paint) in
    record {
      hull = hull-append _ _ _ front (paint ∷ []) c.hull-self.ensures.first c.hull-self.ensures.second c.hull-self.ensures.least some.hull one;
      cost = c.saturating_add-self.ensures ∙ cost-append _ _ front (paint ∷ []) some.cost c.cost_of_one.ensures;
      spoils =
          c.either-self.ensures
          ∙ cc (list_any-append is_spoil front (paint ∷ []), some.spoils, c.is_spoil.ensures, alone (is_spoil paint));
      scrolls =
          scrolls-append _ _ _ front (paint ∷ []) c.both_scrolls-self.ensures.some c.both_scrolls-self.ensures.others some.scrolls
          (scrolls-one _ paint c.scrolls_of.ensures.one);
      near = c.both_scrolls-self.ensures.near some.near c.scrolls_of.ensures.near;
    }
