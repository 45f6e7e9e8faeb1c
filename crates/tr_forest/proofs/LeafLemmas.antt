-- Which node a leaf is: each number below the count of leaves is that of one node, the first of its kind.
use Rattle.std.proofs.Common.{◌≡◌, ℕ, suc, ◌+◌, ◌<◌, ◌≤◌, Bool, true, false, cond, not, ◌||◌, eqb, List, [], ◌∷◌, Some, length, get_or, refl, sym, ap, ◌∙◌, arith}
use Rattle.std.specs.List.{filter, list_any, position_or_len, AllByRecursion, IsDistinct}
use Rattle.std.proofs.lemmas.Bool.Decides.{nat_tests}
use Rattle.std.proofs.lemmas.List.Folds.{list_any_at}
use Rattle.std.proofs.lemmas.List.Sums.{passes_at_first}
use Rattle.std.proofs.lemmas.Map.Keys.{IsDistinct-cons}
use Rattle.std.proofs.lemmas.Map.Steps.{length-le_from_distinct_below}
use Rattle.std.proofs.lemmas.Bool.{or_parts}
use Rattle.tr_base.specs.declared.NodeId.{NodeId}
use Rattle.tr_base.specs.declared.LeafId.{LeafId}
use Rattle.tr_forest.specs.declared.kinds.NodeKind.{NodeKind}
use Rattle.tr_forest.specs.declared.kinds.NodeKind.TheVariants as kinds
use Rattle.tr_forest.specs.Nodes.{Entry, Nodes, IsNode, node, new_entry, is_leaf, is_that_leaf, leaf_of, leaf_count, node_of}
use Rattle.tr_forest.specs.Forests.{IsForest}
use Rattle.tr_forest.proofs.Adding.{place_is_node}

-- the kind of a leaf

kind_test : (leaf : LeafId) (kind : NodeKind) → leaf_of kind ≡ Some leaf → is_that_leaf leaf kind ≡ true
kind_test leaf (kinds.Leaf own shapes) h = let same : own.0 ≡ leaf.0 = (let is : own ≡ leaf = cc in ap (λ (l : LeafId). l.0) is) in grind (arith, nat_tests)
kind_test leaf kind h = cc

tested_kind : (leaf : LeafId) (kind : NodeKind) → is_that_leaf leaf kind ≡ true → leaf_of kind ≡ Some leaf
tested_kind leaf (kinds.Leaf own shapes) h =
    let id : ℕ → LeafId = λ k. record { 0 = k } in
    let same : own.0 ≡ leaf.0 = grind (arith, nat_tests) in
    ap (λ (k : ℕ). Some (id k)) same
tested_kind leaf kind h = cc

-- one of the nodes is this leaf
abbrev has_leaf : LeafId → List Entry → Bool
has_leaf leaf es = list_any (λ e. is_that_leaf leaf e.kind) es

abbrev place_of : LeafId → List Entry → ℕ
place_of leaf es = position_or_len (λ e. is_that_leaf leaf e.kind) es

-- where some item passes, the first that does is within the list
first_within : {X : Type 0} (p : X → Bool) (xs : List X) → list_any p xs ≡ true → position_or_len p xs < length xs
first_within p [] h = cc
first_within p (x ∷ xs) h = by_test (p x) (λ k. first_within p xs k) h
  where
    by_test : (b : Bool) → (list_any p xs ≡ true → position_or_len p xs < length xs) → (b || list_any p xs) ≡ true →
        cond (not b) (1 + position_or_len p xs) 0 < length (x ∷ xs)
    by_test true later k = omega arith
    by_test false later k = let lt : position_or_len p xs < length xs = later k in omega arith

leaf_at : (leaf : LeafId) (es : List Entry) → has_leaf leaf es ≡ true → leaf_of (get_or es (place_of leaf es) (new_entry kinds.H 0)).kind ≡ Some leaf
leaf_at leaf es h =
    let p : Entry → Bool = λ e. is_that_leaf leaf e.kind in
    tested_kind leaf (get_or es (place_of leaf es) (new_entry kinds.H 0)).kind (passes_at_first p es (new_entry kinds.H 0) (first_within p es h))

-- a node that is a leaf is the node of that leaf
pub leaf_is_node_of : (t : Nodes) (n : NodeId) (leaf : LeafId) → IsForest t → leaf_of (node t n).kind ≡ Some leaf → n.0 ≡ (node_of t leaf).0
leaf_is_node_of t n leaf f h =
    let is : IsNode t n = place_is_node t n leaf h in
    let has : has_leaf leaf t.entries ≡ true = list_any_at (λ (e : Entry). is_that_leaf leaf e.kind) t.entries n.0 (new_entry kinds.H 0) is.within
    (kind_test leaf (node t n).kind h) in
    f.unlike n (node_of t leaf) leaf h (leaf_at leaf t.entries has)

-- the numbers of the leaves

abbrev with_number : NodeKind → List ℕ → List ℕ
with_number (kinds.Leaf leaf shapes) ks = leaf.0 ∷ ks
with_number kind ks = ks

abbrev numbers : List Entry → List ℕ
numbers [] = []
numbers (e ∷ es) = with_number e.kind (numbers es)

count_numbers : (es : List Entry) → length (numbers es) ≡ length (filter (λ e. is_leaf e.kind) es)
count_numbers [] = refl
count_numbers (e ∷ es) = step e.kind (filter (λ e. is_leaf e.kind) es) (count_numbers es)
  where
    step : (kind : NodeKind) (fs : List Entry) → length (numbers es) ≡ length fs →
        length (with_number kind (numbers es)) ≡ length (cond (is_leaf kind) (e ∷ fs) fs)
    step (kinds.Leaf leaf shapes) fs h = ap (λ k. suc k) h
    step kind fs h = h

numbers_tell : (leaf : LeafId) (es : List Entry) → list_any (eqb leaf.0) (numbers es) ≡ has_leaf leaf es
numbers_tell leaf [] = refl
numbers_tell leaf (e ∷ es) = step e.kind ∙ ap (λ b. is_that_leaf leaf e.kind || b) (numbers_tell leaf es)
  where
    step : (kind : NodeKind) → list_any (eqb leaf.0) (with_number kind (numbers es)) ≡ (is_that_leaf leaf kind || list_any (eqb leaf.0) (numbers es))
    step (kinds.Leaf own shapes) = refl
    step kind = refl

-- no two of the nodes are one leaf
abbrev AreUnlike : List Entry → Type 0
AreUnlike es = (i j : ℕ) (leaf : LeafId) → leaf_of (get_or es i (new_entry kinds.H 0)).kind ≡ Some leaf →
    leaf_of (get_or es j (new_entry kinds.H 0)).kind ≡ Some leaf → i ≡ j

apart : (k : ℕ) (ks : List ℕ) → list_any (eqb k) ks ≡ false → AllByRecursion (λ y. eqb k y ≡ false) ks
apart k [] h = tt
apart k (x ∷ xs) h = ((or_parts (eqb k x) (list_any (eqb k) xs) h).0, apart k xs (or_parts (eqb k x) (list_any (eqb k) xs) h).1)

distinct : (es : List Entry) → AreUnlike es → IsDistinct eqb (numbers es)
unfolding IsDistinct
distinct [] h = tt
distinct (e ∷ es) h = step e.kind refl (distinct es (λ i j leaf a b. let same : suc i ≡ suc j = h (suc i) (suc j) leaf a b in omega arith))
  where
    other : (leaf : LeafId) → leaf_of e.kind ≡ Some leaf → (b : Bool) → list_any (eqb leaf.0) (numbers es) ≡ b → b ≡ false
    other leaf is true has =
        let no : 0 ≡ suc (place_of leaf es) = h 0 (suc (place_of leaf es)) leaf is (leaf_at leaf es (sym (numbers_tell leaf es) ∙ has)) in
        absurd (omega arith)
    other leaf is false has = refl

    step : (kind : NodeKind) → e.kind ≡ kind → IsDistinct eqb (numbers es) → IsDistinct eqb (with_number kind (numbers es))
    step (kinds.Leaf leaf shapes) is rest =
        IsDistinct-cons eqb leaf.0 (numbers es) (apart leaf.0 (numbers es) (other leaf (ap leaf_of is) (list_any (eqb leaf.0) (numbers es)) refl)) rest
    step kind is rest = rest

below : (t : Nodes) → IsForest t → (q : ℕ) → list_any (eqb q) (numbers t.entries) ≡ true → q < leaf_count t
below t f q h =
    let leaf : LeafId = record { 0 = q } in
    f.numbered (node_of t leaf) leaf (leaf_at leaf t.entries (sym (numbers_tell leaf t.entries) ∙ h))

-- each leaf has its node: else the numbers of the leaves and its own were more than there are
pub node_of_is_leaf : (t : Nodes) (leaf : LeafId) → IsForest t → leaf.0 < leaf_count t → leaf_of (node t (node_of t leaf)).kind ≡ Some leaf
node_of_is_leaf t leaf f lt = by_test (list_any (eqb leaf.0) (numbers t.entries)) refl
  where
    all_below : (q : ℕ) (b : Bool) → eqb q leaf.0 ≡ b → (b || list_any (eqb q) (numbers t.entries)) ≡ true → q < leaf_count t
    all_below q true e h = let same : q ≡ leaf.0 = grind (arith, nat_tests) in omega arith
    all_below q false e h = below t f q h

    by_test : (b : Bool) → list_any (eqb leaf.0) (numbers t.entries) ≡ b → leaf_of (node t (node_of t leaf)).kind ≡ Some leaf
    by_test true has = leaf_at leaf t.entries (sym (numbers_tell leaf t.entries) ∙ has)
    by_test false none =
        let few : length (leaf.0 ∷ numbers t.entries) ≤ leaf_count t = length-le_from_distinct_below (leaf.0 ∷ numbers t.entries) (leaf_count t)
        (IsDistinct-cons eqb leaf.0 (numbers t.entries) (apart leaf.0 (numbers t.entries) none) (distinct t.entries (λ i j l a b.
        f.unlike (record { 0 = i }) (record { 0 = j }) l a b)))
        (λ q h. all_below q (eqb q leaf.0) refl h) in
        let count : length (numbers t.entries) ≡ leaf_count t = count_numbers t.entries in
        absurd (omega arith)
