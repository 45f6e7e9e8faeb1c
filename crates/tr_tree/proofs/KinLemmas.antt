-- Children by their places among their siblings, and how many there are.
use Rattle.std.proofs.Common.{◌≡◌, ◌≢◌, ℕ, zero, suc, ◌+◌, ◌<◌, ◌≤◌, Bool, true, false, ◌||◌, eqb, List, [], ◌∷◌, map, length, get_or, All, AllPairs, refl, sym, ap, subst, ◌∙◌, arith}
use Rattle.std.specs.List.{list_any, range_with_len}
use Rattle.std.specs.Cmp.{nat_eq_equiv}
use Rattle.std.proofs.lemmas.Bool.Decides.{nat_tests, Decides-eqb}
use Rattle.std.proofs.lemmas.List.{get_or-map, length-map}
use Rattle.std.proofs.lemmas.List.Elements.{All-cons, All-head, All-tail}
use Rattle.std.proofs.lemmas.List.Folds.{list_any_at}
use Rattle.std.proofs.lemmas.List.FromFn.{get_or-range_with_len, length-range_with_len}
use Rattle.std.proofs.lemmas.List.Kept.{AllPairs-cons}
use Rattle.std.proofs.lemmas.Map.Made.{IsDistinct-from_AllPairs, length-le_from_is_member}
use Rattle.tr_base.specs.declared.NodeId.{NodeId}
use Rattle.tr_forest.specs.Nodes.{Nodes, IsNode, node}
use Rattle.tr_forest.specs.Families.{is_among, depth}
use Rattle.tr_forest.specs.Forests.{IsForest}
use Rattle.tr_forest.proofs.FamilyLemmas.{same_id, test_same, by_id, among_at, child_is_node, depth_child}
use Rattle.tr_tree.specs.Places.{index_of}

-- where a node stands in a list
pub record StandsIn (n : NodeId) (ns : List NodeId) : Type 0 where
  pub place : ℕ
  pub within : place < length ns
  pub is : get_or ns place n ≡ n

pub place_among : (n : NodeId) (ns : List NodeId) → is_among n ns ≡ true → StandsIn n ns
place_among n [] h = absurd cc
place_among n (m ∷ ms) h = by_id m n
    (λ same. record { place = 0; within = omega arith; is = same })
    (λ other.
    let rest : StandsIn n ms = place_among n ms (sym (ap (λ t. t || is_among n ms) other) ∙ h) in
    record { place = suc rest.place; within = omega (arith, rest.within); is = rest.is })

-- the place of a node in a list where each is once
pub index_at : (ns : List NodeId) (k : ℕ) (d : NodeId) → AllPairs (λ a b. a.0 ≢ b.0) ns → k < length ns → index_of (get_or ns k d) ns ≡ k
index_at [] k d once lt = absurd (omega arith)
index_at (n ∷ ns) zero d once lt = rw (test_same n n refl) refl
index_at (n ∷ ns) (suc k) d once lt =
    let apart : n.0 ≢ (get_or ns k d).0 = once 0 (suc k) d (omega arith) lt in
    let test : eqb n.0 (get_or ns k d).0 ≡ false = grind (arith, nat_tests) in
    rw test (ap (λ (i : ℕ). suc i) (index_at ns k d (λ i j e lower below. once (suc i) (suc j) e (omega arith) (omega arith)) (omega arith)))

-- ---- children are nodes

pub children_within : (t : Nodes) → IsForest t → (n : NodeId) → All (λ (c : NodeId). c.0 < length t.entries) (node t n).children
children_within t forest n k d lt = (child_is_node t n (get_or (node t n).children k d) forest (among_at (node t n).children k d lt)).within

-- no node is its own child
not_itself : (t : Nodes) → IsForest t → (n : NodeId) → is_among n (node t n).children ≡ true → ⊥
not_itself t forest n h = let one : depth t n ≡ depth t n + 1 = depth_child t n n forest h in omega arith

-- ---- how many children there are

among_below : (xs : List ℕ) (n q : ℕ) → All (λ x. x < n) xs → list_any (eqb q) xs ≡ true → q < n
among_below [] n q all h = absurd cc
among_below (x ∷ xs) n q all h = by_test (eqb q x) refl h (among_below xs n q (All-tail (λ y. y < n) x xs all))
  where
    by_test : (b : Bool) → eqb q x ≡ b → (b || list_any (eqb q) xs) ≡ true → (list_any (eqb q) xs ≡ true → q < n) → q < n
    by_test true e k later = let same : q ≡ x = grind (arith, nat_tests) in let lt : x < n = All-head (λ y. y < n) x xs all in omega arith
    by_test false e k later = later k

in_range : (n q : ℕ) → q < n → list_any (eqb q) (range_with_len 0 n) ≡ true
in_range n q lt =
    let within : q < length (range_with_len 0 n) = omega (arith, length-range_with_len 0 n) in
    let at : get_or (range_with_len 0 n) q 0 ≡ q = omega (arith, get_or-range_with_len 0 n q 0 lt) in
    let same : eqb q (get_or (range_with_len 0 n) q 0) ≡ true = grind (arith, nat_tests) in
    list_any_at (eqb q) (range_with_len 0 n) q 0 within same

-- different numbers below n are at most n
few : (xs : List ℕ) (n : ℕ) → AllPairs (λ a b. a ≢ b) xs → All (λ x. x < n) xs → length xs ≤ n
few xs n once below =
    let most : length xs ≤ length (range_with_len 0 n) = length-le_from_is_member nat_eq_equiv xs (range_with_len 0 n)
    (IsDistinct-from_AllPairs (λ a b. Decides-eqb a b) xs once) (λ q h. in_range n q (among_below xs n q below h)) in
    omega (arith, length-range_with_len 0 n)

-- the numbers of nodes
numbers : List NodeId → List ℕ
numbers cs = map (λ (c : NodeId). c.0) cs

length-numbers : (cs : List NodeId) → length (numbers cs) ≡ length cs
unfolding numbers
length-numbers cs = length-map cs (λ (c : NodeId). c.0)

get_or-numbers : (cs : List NodeId) (k d : ℕ) (e : NodeId) → k < length cs → get_or (numbers cs) k d ≡ (get_or cs k e).0
unfolding numbers
get_or-numbers cs k d e lt = get_or-map (λ (c : NodeId). c.0) cs k e d lt

others_apart : (n : NodeId) (cs : List NodeId) → (is_among n cs ≡ true → ⊥) → All (λ x. n.0 ≢ x) (numbers cs)
others_apart n cs none k d lt =
    let within : k < length cs = omega (arith, length-numbers cs) in
    λ e. none (subst (λ (m : NodeId). is_among m cs ≡ true) (same_id (get_or cs k n) n (sym (e ∙ get_or-numbers cs k d n within))) (among_at cs k n within))

numbers_apart : (n : NodeId) (cs : List NodeId) → AllPairs (λ a b. a.0 ≢ b.0) cs → AllPairs (λ a b. a ≢ b) (numbers cs)
numbers_apart n cs once i j d lt below =
    let within : j < length cs = omega (arith, length-numbers cs) in
    let first : i < length cs = omega arith in
    rw (get_or-numbers cs i d n first, get_or-numbers cs j d n within) (once i j n lt within)

numbers_below : (n : NodeId) (most : ℕ) (cs : List NodeId) → All (λ (c : NodeId). c.0 < most) cs → All (λ x. x < most) (numbers cs)
numbers_below n most cs all k d lt =
    let within : k < length cs = omega (arith, length-numbers cs) in
    rw (get_or-numbers cs k d n within) (all k n within)

-- a node and its children are different nodes
pub few_children : (t : Nodes) → IsForest t → (n : NodeId) → IsNode t n → length (node t n).children < length t.entries
few_children t forest n is =
    let cs : List NodeId = (node t n).children in
    let size : length (numbers cs) ≡ length cs = length-numbers cs in
    let all : length (n.0 ∷ numbers cs) ≤ length t.entries = few (n.0 ∷ numbers cs) (length t.entries)
    (AllPairs-cons (λ a b. a ≢ b) n.0 (numbers cs) (others_apart n cs (λ h. not_itself t forest n h)) (numbers_apart n cs (forest.once n)))
    (All-cons (λ x. x < length t.entries) n.0 (numbers cs) is.within (numbers_below n (length t.entries) cs (children_within t forest n))) in
    omega arith
