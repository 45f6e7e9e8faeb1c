-- Sixteen levels are enough for the shapes, so they meet an equation that counts no levels.
use Rattle.std.proofs.Common.{◌≡◌, ℕ, zero, suc, ◌+◌, ◌≤◌, true, List, [], ◌∷◌, map, length, refl, sym, ap, ◌∙◌, arith}
use Rattle.tr_base.specs.declared.NodeId.{NodeId}
use Rattle.tr_base.specs.declared.Shapes.{Shapes}
use Rattle.tr_forest.specs.Nodes.{Nodes, Entry, node}
use Rattle.tr_forest.specs.Families.{is_among, depth}
use Rattle.tr_forest.specs.Forests.{IsForest}
use Rattle.tr_tree.specs.Wishes.{shape, shape_within, shape_of, no_shapes}
use Rattle.tr_forest.proofs.FamilyLemmas.{among_first, among_later, depth_child, depth_some, none_there}

pub shape_suc : (f : ℕ) (t : Nodes) (n : NodeId) → shape_within (suc f) t n ≡ shape_of (node t n).kind (map (shape_within f t) (node t n).children)
unfolding shape_within
shape_suc f t n = refl

-- what is the same for each item of a list
pub map_among : {X : Type 0} (cs : List NodeId) (u v : NodeId → X) → ((c : NodeId) → is_among c cs ≡ true → u c ≡ v c) → map u cs ≡ map v cs
map_among [] u v h = refl
map_among (c ∷ cs) u v h =
    ap (λ x. x ∷ map u cs) (h c (among_first c cs)) ∙ ap (λ xs. v c ∷ xs) (map_among cs u v (λ x k. h x (among_later x c cs k)))

shape_enough : (f : ℕ) (t : Nodes) → IsForest t → (n : NodeId) → 17 ≤ f + depth t n → shape_within (suc f) t n ≡ shape_within f t n
shape_enough zero t forest n h = absurd (omega (arith, forest.depths n))
shape_enough (suc f) t forest n h =
    shape_suc (suc f) t n
    ∙ ap (shape_of (node t n).kind) (map_among (node t n).children (shape_within (suc f) t) (shape_within f t) (λ c k.
    let deep : depth t c ≡ depth t n + 1 = depth_child t n c forest k in
    shape_enough f t forest c (omega arith)))
    ∙ sym (shape_suc f t n)

-- the shapes, by an equation that counts no levels
pub shape_law : (t : Nodes) → IsForest t → (n : NodeId) → shape t n ≡ shape_of (node t n).kind (map (shape t) (node t n).children)
shape_law t forest n = sym (shape_enough 16 t forest n (omega (arith, depth_some 16 t n))) ∙ shape_suc 16 t n

-- nodes want the same lengths if each would want the same, whatever its children want
shapes_within_like : (f : ℕ) (t u : Nodes) → ((n : NodeId) (s : NodeId → Shapes) →
    shape_of (node u n).kind (map s (node u n).children) ≡ shape_of (node t n).kind (map s (node t n).children)) →
    (n : NodeId) → shape_within f u n ≡ shape_within f t n
unfolding shape_within
shapes_within_like zero t u like n = refl
shapes_within_like (suc f) t u like n =
    like n (shape_within f u)
    ∙ ap (shape_of (node t n).kind) (map_among (node t n).children (shape_within f u) (shape_within f t) (λ c _. shapes_within_like f t u like c))

pub shapes_like : (t u : Nodes) → ((n : NodeId) (s : NodeId → Shapes) →
    shape_of (node u n).kind (map s (node u n).children) ≡ shape_of (node t n).kind (map s (node t n).children)) →
    (n : NodeId) → shape u n ≡ shape t n
shapes_like t u like n = shapes_within_like 16 t u like n

-- nodes of the same kinds with the same children want the same lengths
pub shapes_same : (t u : Nodes) → ((n : NodeId) → (node u n).kind ≡ (node t n).kind) → ((n : NodeId) → (node u n).children ≡ (node t n).children) →
    (n : NodeId) → shape u n ≡ shape t n
shapes_same t u kinds children n = shapes_like t u (λ m s.
    ap (λ k. shape_of k (map s (node u m).children)) (kinds m) ∙ ap (λ cs. shape_of (node t m).kind (map s cs)) (children m)) n

-- where there is no node, nothing is wanted
pub shape_outside : (t : Nodes) (n : NodeId) → length t.entries ≤ n.0 → shape t n ≡ no_shapes
shape_outside t n h = shape_suc 15 t n ∙ ap (λ (e : Entry). shape_of e.kind (map (shape_within 15 t) e.children)) (none_there t n h)
