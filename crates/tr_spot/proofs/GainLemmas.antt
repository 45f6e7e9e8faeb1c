-- The region of a node by its number, and owners that are nodes.
use Rattle.std.proofs.Common.{◌≡◌, ℕ, zero, suc, ◌<◌, List, [], Option, Some, None, length, get_or, refl}
use Rattle.std.proofs.lemmas.List.{get_or_read_under}
use Rattle.tr_base.specs.declared.Point.{Point}
use Rattle.tr_base.specs.declared.NodeId.{NodeId}
use Rattle.tr_base.specs.Rects.{Edges}
use Rattle.tr_forest.specs.Nodes.{node, IsNode}
use Rattle.tr_forest.specs.Forests.{IsForest}
use Rattle.tr_tree.specs.Trees.{Seen}
use Rattle.tr_spot.specs.Spots.{followed, owner_within, region_of}
use Rattle.tr_spot.specs.Ways.{front}
use Rattle.tr_spot.proofs.OwnerLemmas.{front_below}

-- the region of one node, as the code reads it
pub read_region : (regions : List (List Edges)) (n : NodeId) (i : ℕ) (r : List Edges) → r ≡ get_or regions i r → i ≡ n.0 →
    n.0 < length regions → r ≡ region_of regions n
read_region regions n i r is same lt = get_or_read_under regions n.0 (length regions) r [] (rw (← same) is) lt refl

-- the owner is a node
followed_is_node : (f : ℕ) (t : Seen) → IsForest t.nodes → (n : NodeId) (p : Point) → IsNode t.nodes n →
    ((c : NodeId) → IsNode t.nodes c → IsNode t.nodes (owner_within f t c p)) →
    (o : Option NodeId) → front t p (node t.nodes n).children ≡ o → IsNode t.nodes (followed n (λ c. owner_within f t c p) o)
followed_is_node f t forest n p h down None e = h
followed_is_node f t forest n p h down (Some c) e = down c (front_below t forest n c p e).is_node

pub owner_is_node : (f : ℕ) (t : Seen) → IsForest t.nodes → (n : NodeId) (p : Point) → IsNode t.nodes n → IsNode t.nodes (owner_within f t n p)
unfolding owner_within
owner_is_node zero t forest n p h = h
owner_is_node (suc f) t forest n p h = followed_is_node f t forest n p h (λ c k. owner_is_node f t forest c p k) (front t p (node t.nodes n).children) refl
