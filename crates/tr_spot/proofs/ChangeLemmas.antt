-- Lists of children without one child, and tests that agree on a list.
use Rattle.std.proofs.Common.{◌≡◌, Bool, true, cond, List, [], ◌∷◌, Option, Some, None, refl, ap, ◌∙◌}
use Rattle.std.specs.List.{find}
use Rattle.tr_base.specs.declared.NodeId.{NodeId}
use Rattle.tr_forest.specs.Families.{is_among}
use Rattle.tr_forest.proofs.FamilyLemmas.{among_first, among_later}
use Rattle.tr_forest.proofs.Lists.{among_left}
use Rattle.tr_spot.specs.Changes.{without_child}

pub among_others : (child : Option NodeId) (c : NodeId) (cs : List NodeId) → is_among c (without_child child cs) ≡ true → is_among c cs ≡ true
among_others None c cs h = h
among_others (Some n) c cs h = (among_left c n cs h).0

-- two tests that agree on each of a list find the same
pub find_same : (u v : NodeId → Bool) (cs : List NodeId) → ((c : NodeId) → is_among c cs ≡ true → u c ≡ v c) → find u cs ≡ find v cs
find_same u v [] h = refl
find_same u v (c ∷ cs) h =
    ap (λ b. cond b (Some c) (find u cs)) (h c (among_first c cs))
    ∙ ap (λ o. cond (v c) (Some c) o) (find_same u v cs (λ d k. h d (among_later d c cs k)))
