use Rattle.std.proofs.Common.{◌≡◌, ℕ, ◌-◌, ◌*◌, ◌^◌, ◌≤◌, [], ◌∷◌, ◌∙◌, arith}
use Rattle.std.specs.Prelude.{min}
use Rattle.std.proofs.lemmas.List.Elements.{All-append}
use Rattle.std.proofs.lemmas.Nat.{mul-le}
use Rattle.tr_paint.specs.Sums.{IsHull, IsOneOf}
use Rattle.tr_paint.proofs.SumLemmas.{hull-append, hull-one, cost-append, cost-one, spoils-still, scrolls-one}
use Rattle.tr_paint.proofs.sums.Sums.add_within.Goals as goal

-- a cost that no limit cuts
whole-cost : (a b w : ℕ) → a ≤ 2097152 → b ≤ 2097152 → w ≤ 3 → a * b * w ≡ min (a * b * w) (2 ^ 64 - 1)
whole-cost a b w wide high small =
    let points = mul-le a b 2097152 2097152 wide high in
    let cost = mul-le (a * b) w (2097152 * 2097152) 3 points small in
    omega (arith, cost)

pub returns : goal.returns
returns c = λ front paint is weighs still allowed some.
    let one : IsHull c.args.touched.now (paint ∷ []) = rw is (hull-one paint) in
    let cost = whole-cost _ _ c.args.weight c.sides-wide.ensures.wide c.sides-wide.ensures.high c.requires.weight in
    let own = rw (c.sides-wide.ensures.value, is, weighs) at cost in
    record {
      hull = hull-append _ _ _ front (paint ∷ []) (λ q h. h) c.requires.within (λ outer all _. all) some.hull one;
      cost =
          c.saturating_add-self.ensures
          ∙ cost-append _ _ front (paint ∷ []) some.cost
          (rw (c.from.ensures, c.from-2.ensures, c.sides-wide.ensures.value, is, weighs) (cost-one paint _ own));
      spoils = some.spoils ∙ spoils-still paint front still;
      scrolls = All-append (IsOneOf _) front (paint ∷ []) some.scrolls (scrolls-one _ paint allowed);
      near = some.near;
    }
