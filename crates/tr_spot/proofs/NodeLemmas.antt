-- Nodes by their numbers, and that a child is a node, one deeper than its parent.
use Rattle.std.proofs.Common.{◌≡◌, ℕ, suc, ◌+◌, ◌<◌, ◌≤◌, Bool, true, false, cond, ◌||◌, ◌==◌, List, [], ◌∷◌, Some, length, get_or, inl, inr, refl, sym, ap, ◌∙◌}
use Rattle.std.specs.List.{find, All}
use Rattle.std.proofs.lemmas.Bool.{cases_lt}
use Rattle.std.proofs.lemmas.List.{get_or_past}
use Rattle.std.proofs.lemmas.List.Elements.{All-from_get_or}
use Rattle.tr_base.specs.declared.NodeId.{NodeId}
use Rattle.tr_base.proofs.RectLemmas.{false-true}
use Rattle.tr_base.proofs.BoolLemmas.{or_true, same_number}
use Rattle.tr_forest.specs.declared.NodeKind.TheVariants as kinds
use Rattle.tr_forest.specs.Nodes.{Entry, Nodes, IsNode, node, new_entry}
use Rattle.tr_forest.specs.Families.{levels, is_among, depth, depth_within, deeper}
use Rattle.tr_forest.specs.Forests.{IsForest}
use Rattle.tr_forest.proofs.FamilyLemmas.{among_at, hanger_is_node, depth_enough}

-- what has a child is a node
pub has_child_is_node : (t : Nodes) → IsForest t → (parent n : NodeId) → (node t n).parent ≡ Some parent → IsNode t parent
has_child_is_node t forest parent n up = elim (cases_lt parent.0 (length t.entries)) [ inl lt ↦ record { within = lt } | inr le ↦ absurd (no_child le) ]
  where
    no_child : length t.entries ≤ parent.0 → ⊥
    no_child le =
        let is : node t parent ≡ new_entry kinds.H 0 = get_or_past t.entries parent.0 (new_entry kinds.H 0) le in
        false-true (sym (ap (λ (e : Entry). is_among n e.children) is) ∙ forest.parents n parent up)

depth_next : (t : Nodes) (n : NodeId) → depth_within (suc levels) t n ≡ deeper (node t n).parent (depth t)
unfolding depth_within
depth_next t n = refl

-- a node that has a parent lies one deeper
pub depth_below : (t : Nodes) → IsForest t → (parent n : NodeId) → (node t n).parent ≡ Some parent → depth t n ≡ depth t parent + 1
depth_below t forest parent n up = sym (depth_enough levels t n (forest.depths n)) ∙ depth_next t n ∙ rw up refl

-- a child of a node is a node, and lies one deeper
pub record IsBelow (t : Nodes) (n c : NodeId) : Type 0 where
  pub parent : (node t c).parent ≡ Some n
  pub is_node : IsNode t c
  pub deeper : depth t c ≡ depth t n + 1
  pub most : depth t c ≤ levels

pub child_below : (t : Nodes) → IsForest t → (n c : NodeId) → is_among c (node t n).children ≡ true → IsBelow t n c
child_below t forest n c h =
    let up : (node t c).parent ≡ Some n = forest.children n c h in
    record { parent = up; is_node = hanger_is_node t c n up; deeper = depth_below t forest n c up; most = forest.depths c }

-- the node that stands where a list has no more
abbrev pub zero_node : NodeId
zero_node = record { 0 = 0 }

-- a child, as the code goes over the children
pub listed_below : (t : Nodes) → IsForest t → (n : NodeId) (cs : List NodeId) (i : ℕ) → cs ≡ (node t n).children → i < length cs →
    IsBelow t n (get_or cs i zero_node)
listed_below t forest n cs i is lt = child_below t forest n (get_or cs i zero_node)
    (ap (λ (ks : List NodeId). is_among (get_or cs i zero_node) ks) (sym is) ∙ among_at cs i zero_node lt)

-- the children of a node are nodes
pub children_are_nodes : (t : Nodes) → IsForest t → (n : NodeId) (cs : List NodeId) → cs ≡ (node t n).children → All (IsNode t) cs
children_are_nodes t forest n cs is = All-from_get_or (IsNode t) cs zero_node (λ i lt. (listed_below t forest n cs i is lt).is_node)

-- what is found is in the list, and passes the test
pub find_among : (test : NodeId → Bool) (cs : List NodeId) (c : NodeId) → find test cs ≡ Some c → is_among c cs ≡ true
find_among test [] c h = cc
find_among test (x ∷ xs) c h = by_test (test x) (λ e. find_among test xs c e) h
  where
    by_test : (b : Bool) → (find test xs ≡ Some c → is_among c xs ≡ true) → cond b (Some x) (find test xs) ≡ Some c → is_among c (x ∷ xs) ≡ true
    by_test true ih e =
        let same : x ≡ c = cc in
        rw same (rw (same_number c.0) refl)
    by_test false ih e = ap (λ b. (x.0 == c.0) || b) (ih e) ∙ or_true (x.0 == c.0)

pub find_passes : (test : NodeId → Bool) (cs : List NodeId) (c : NodeId) → find test cs ≡ Some c → test c ≡ true
find_passes test [] c h = cc
find_passes test (x ∷ xs) c h = by_test (test x) refl (λ e. find_passes test xs c e) h
  where
    by_test : (b : Bool) → test x ≡ b → (find test xs ≡ Some c → test c ≡ true) → cond b (Some x) (find test xs) ≡ Some c → test c ≡ true
    by_test true is ih e =
        let same : x ≡ c = cc in
        rw (← same) is
    by_test false is ih e = ih e
