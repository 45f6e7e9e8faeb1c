-- The test of points that stay in one region, as a fact.
use Rattle.std.proofs.Common.{◌≡◌, ℕ, ◌+◌, ◌<◌, Bool, true, ◌&&◌, ◌||◌, List, length, add-one, refl, sym, ap, ◌∙◌}
use Rattle.std.specs.Prelude.{◌↔◌}
use Rattle.std.specs.Bool.{Decides}
use Rattle.std.proofs.lemmas.Bool.Decides.{Decides-and, Decides-below_or}
use Rattle.tr_base.specs.declared.points.Point.{Point}
use Rattle.tr_base.specs.Rects.{Edges}
use Rattle.tr_base.proofs.BoolLemmas.{or_swap}
use Rattle.tr_repair.specs.Good.{held_by, StaysInOne, any_below, stays_below}

pub any_below-more : (n : ℕ) (test : ℕ → Bool) → any_below (n + 1) test ≡ any_below n test || test n
unfolding any_below
any_below-more n test = ap (λ m. any_below m test) (add-one n)

Decides-itself : (b : Bool) → Decides b (b ≡ true)
Decides-itself b = (λ h. h, λ h. h)

Decides-stays_below : (old new : List (List Edges)) (p : Point) (n : ℕ) →
    Decides (stays_below n old new p) ((i : ℕ) × (i < n) × ((held_by old p i ≡ true) × (held_by new p i ≡ true)))
unfolding any_below
Decides-stays_below old new p n =
    let both : ℕ → Bool = λ i. held_by old p i && held_by new p i in
    Decides-below_or both _ (λ k. any_below k both)
    (λ i. Decides-and _ _ (Decides-itself (held_by old p i)) (Decides-itself (held_by new p i)))
    refl (λ k. or_swap (any_below k both) (both k)) n

-- what is tested is what is said
pub stays_exactly : (old new : List (List Edges)) (result good : Point → Bool) →
    ((p : Point) → result p ≡ stays_below (length new) old new p && good p) → (p : Point) →
    (result p ≡ true) ↔ (StaysInOne old new p × (good p ≡ true))
stays_exactly old new result good is p =
    let d = Decides-and _ _ (Decides-stays_below old new p (length new)) (Decides-itself (good p)) in
    (λ h. let k = d.0 (sym (is p) ∙ h) in ((k.0.0, k.0.1, k.0.2.0, k.0.2.1), k.1), λ k. is p ∙ d.1 ((k.0.0, k.0.1, (k.0.2, k.0.3)), k.1))
