-- The walk to the owner: one step of it, that 16 levels are enough, and that it ends where no child has the point.
use Rattle.std.proofs.Common.{◌≡◌, ℕ, zero, suc, ◌+◌, ◌≤◌, List, Option, Some, None, refl, sym, ap, ◌∙◌, arith}
use Rattle.tr_base.specs.declared.Point.{Point}
use Rattle.tr_base.specs.declared.NodeId.{NodeId}
use Rattle.tr_base.specs.Rects.{has_point}
use Rattle.tr_forest.specs.Nodes.{node}
use Rattle.tr_forest.specs.Families.{levels, depth}
use Rattle.tr_forest.specs.Forests.{IsForest}
use Rattle.tr_tree.specs.Trees.{Seen}
use Rattle.tr_tree.specs.Places.{domain}
use Rattle.tr_spot.specs.Spots.{followed, owner, owner_within}
use Rattle.tr_spot.specs.Ways.{front}
use Rattle.tr_spot.proofs.NodeLemmas.{IsBelow, child_below, find_among}

pub followed_same : (n : NodeId) (o : Option NodeId) (u v : NodeId → NodeId) → ((c : NodeId) → o ≡ Some c → u c ≡ v c) → followed n u o ≡ followed n v o
followed_same n None u v h = refl
followed_same n (Some c) u v h = h c refl

followed_none : (n : NodeId) (o : Option NodeId) (u : NodeId → NodeId) → ((c : NodeId) → o ≡ Some c → ⊥) → followed n u o ≡ n
followed_none n None u h = refl
followed_none n (Some c) u h = absurd (h c refl)

-- what the walk goes on to is a child
pub front_below : (t : Seen) → IsForest t.nodes → (n c : NodeId) (p : Point) → front t p (node t.nodes n).children ≡ Some c → IsBelow t.nodes n c
front_below t forest n c p e = child_below t.nodes forest n c (find_among (λ k. has_point (domain t k) p) (node t.nodes n).children c e)

owner_enough : (f : ℕ) (t : Seen) → IsForest t.nodes → (n : NodeId) (p : Point) → levels ≤ f + depth t.nodes n →
    owner_within (suc f) t n p ≡ owner_within f t n p
unfolding owner_within
owner_enough zero t forest n p h = followed_none n (front t p (node t.nodes n).children) (λ c. owner_within zero t c p) (λ c e.
    let below : IsBelow t.nodes n c = front_below t forest n c p e in
    omega (arith, below.deeper, below.most))
owner_enough (suc f) t forest n p h =
    followed_same n (front t p (node t.nodes n).children)
    (λ c. owner_within (suc f) t c p) (λ c. owner_within f t c p) (λ c e.
    let below : IsBelow t.nodes n c = front_below t forest n c p e in
    owner_enough f t forest c p (omega (arith, below.deeper)))

-- the owner at a node with these children
abbrev owner_among : Seen → NodeId → List NodeId → Point → NodeId
owner_among t n cs p = followed n (λ c. owner t c p) (front t p cs)

owner_next : (t : Seen) (n : NodeId) (p : Point) → owner_within (suc levels) t n p ≡ owner_among t n (node t.nodes n).children p
unfolding owner_within
owner_next t n p = refl

-- the owner, by an equation that counts no levels
pub owner_law : (t : Seen) → IsForest t.nodes → (n : NodeId) (p : Point) → owner t n p ≡ owner_among t n (node t.nodes n).children p
owner_law t forest n p = sym (owner_enough levels t forest n p (omega arith)) ∙ owner_next t n p

-- where no child has the point, and where one has it
pub owner_stays : (t : Seen) → IsForest t.nodes → (n : NodeId) (p : Point) → front t p (node t.nodes n).children ≡ None → owner t n p ≡ n
owner_stays t forest n p none = owner_law t forest n p ∙ ap (λ o. followed n (λ c. owner t c p) o) none

pub owner_goes_on : (t : Seen) → IsForest t.nodes → (n c : NodeId) (p : Point) → front t p (node t.nodes n).children ≡ Some c → owner t n p ≡ owner t c p
owner_goes_on t forest n c p at = owner_law t forest n p ∙ ap (λ o. followed n (λ c. owner t c p) o) at
