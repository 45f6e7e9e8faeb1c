-- Sixteen levels are enough, so domains follow from their parents' with no count of levels; and where there are none.
use Rattle.std.proofs.Common.{◌≡◌, ℕ, zero, suc, ◌<◌, ◌≤◌, Bool, true, false, cond, not, ◌==◌, ◌||◌, eqb, map, Option, Some, None, length, get_or, refl, sym, ap, subst, ◌∙◌, arith}
use Rattle.std.proofs.lemmas.Bool.Decides.{nat_tests}
use Rattle.tr_base.specs.declared.NodeId.{NodeId}
use Rattle.tr_base.specs.Rects.{Edges, empty_rect, whole_of}
use Rattle.tr_forest.specs.Nodes.{Nodes, node}
use Rattle.tr_forest.specs.Families.{deeper, depth_within, of_parent, is_under}
use Rattle.tr_forest.specs.Edits.{is_root}
use Rattle.tr_forest.specs.Forests.{IsForest}
use Rattle.tr_tree.specs.Trees.{Seen}
use Rattle.tr_tree.specs.Wishes.{shape}
use Rattle.tr_tree.specs.Places.{index_of, child_places, place_below, domain, domain_within}
use Rattle.tr_forest.proofs.FamilyLemmas.{tested_same, test_same, among_at, under_law, no_depth}
use Rattle.tr_tree.proofs.LayoutLemmas.{alike_itself, below_alike}
use Rattle.tr_tree.proofs.KinLemmas.{index_at}
use Rattle.tr_tree.proofs.FitLemmas.{all_empty, all_or}

-- ---- the law of domains

shallow : (o : Option NodeId) (dep : NodeId → ℕ) (m : ℕ) (p : NodeId) → o ≡ Some p → deeper o dep ≤ suc m → dep p ≤ m
shallow None dep m p e h = absurd cc
shallow (Some q) dep m p e h = let same : q ≡ p = cc in subst (λ (r : NodeId). dep r ≤ m) same (omega arith)

domain_enough : (f : ℕ) (t : Seen) (n : NodeId) → depth_within f t.nodes n ≤ f → domain_within (suc f) t n ≡ domain_within f t n
unfolding domain_within depth_within
domain_enough zero t n h = absurd (no_depth t.nodes n h)
domain_enough (suc f) t n h =
    ap (cond (is_root t.nodes n) (whole_of t.size))
    (below_alike t.nodes t.nodes (alike_itself t.nodes) n (node t.nodes n).parent
    (λ p up. domain_enough f t p (shallow (node t.nodes n).parent (depth_within f t.nodes) f p up h)))

-- the root has the whole screen, and any other node its place below its parent
pub domain_law : (t : Seen) → IsForest t.nodes → (n : NodeId) →
    domain t n ≡ cond (is_root t.nodes n) (whole_of t.size) (place_below t.nodes n (node t.nodes n).parent (domain t))
unfolding domain_within
domain_law t forest n = sym (domain_enough 16 t n (forest.depths n))

-- ---- the root, and its children's domains

root_case : (o : Option NodeId) (n : NodeId) → of_parent o (λ root. eqb root.0 n.0) ≡ true → o ≡ Some n
root_case None n h = absurd cc
root_case (Some root) n h = ap (λ (r : NodeId). Some r) (tested_same root n h)

not_root : (t : Nodes) → IsForest t → (n parent : NodeId) → (node t n).parent ≡ Some parent → is_root t n ≡ false
not_root t forest n parent up = by_test (is_root t n) refl
  where
    by_test : (b : Bool) → is_root t n ≡ b → b ≡ false
    by_test true h = let none : (node t n).parent ≡ None = forest.top n (root_case t.root n h) in absurd cc
    by_test false h = refl

pub root_domain : (t : Seen) → IsForest t.nodes → (root : NodeId) → t.nodes.root ≡ Some root → domain t root ≡ whole_of t.size
root_domain t forest root is =
    let test : is_root t.nodes root ≡ true = ap (λ (o : Option NodeId). of_parent o (λ r. eqb r.0 root.0)) is ∙ test_same root root refl in
    domain_law t forest root ∙ ap (λ b. cond b (whole_of t.size) (place_below t.nodes root (node t.nodes root).parent (domain t))) test

-- a child's domain is its place in its parent's
pub domain_below : (t : Seen) → IsForest t.nodes → (n parent : NodeId) → (node t.nodes n).parent ≡ Some parent →
    domain t n ≡ get_or (child_places t.nodes parent (domain t parent)) (index_of n (node t.nodes parent).children) empty_rect
domain_below t forest n parent up =
    domain_law t forest n
    ∙ ap (λ b. cond b (whole_of t.size) (place_below t.nodes n (node t.nodes n).parent (domain t))) (not_root t.nodes forest n parent up)
    ∙ ap (λ (o : Option NodeId). place_below t.nodes n o (domain t)) up

pub child_domain : (t : Seen) → IsForest t.nodes → (n : NodeId) (k : ℕ) (d : NodeId) → k < length (node t.nodes n).children →
    domain t (get_or (node t.nodes n).children k d) ≡ get_or (child_places t.nodes n (domain t n)) k empty_rect
child_domain t forest n k d lt =
    let cs = (node t.nodes n).children in
    let c : NodeId = get_or cs k d in
    domain_below t forest c n (forest.children n c (among_at cs k d lt))
    ∙ ap (λ i. get_or (child_places t.nodes n (domain t n)) i empty_rect) (index_at cs k d (forest.once n) lt)

-- ---- where there is nothing

none_placed : (t : Nodes) → IsForest t → (n : NodeId) (k : ℕ) → get_or (child_places t n empty_rect) k empty_rect ≡ empty_rect
none_placed t forest n k =
    let cs = (node t n).children in
    all_or (λ (e : Edges). e ≡ empty_rect) (child_places t n empty_rect) k empty_rect
    (all_empty (node t n).kind cs (map (λ c. (node t c).at) cs) (map (shape t) cs) (forest.kinds n)) refl

-- a child of an empty domain has an empty one
pub empty_below : (t : Seen) → IsForest t.nodes → (n parent : NodeId) → (node t.nodes n).parent ≡ Some parent → domain t parent ≡ empty_rect →
    domain t n ≡ empty_rect
empty_below t forest n parent up none =
    domain_below t forest n parent up
    ∙ ap (λ (e : Edges). get_or (child_places t.nodes parent e) (index_of n (node t.nodes parent).children) empty_rect) none
    ∙ none_placed t.nodes forest parent (index_of n (node t.nodes parent).children)

-- nodes of which none is the root, and that have their parents among them
pub record IsLoose (t : Nodes) (loose : NodeId → Bool) : Type 0 where
  pub root : (n : NodeId) → loose n ≡ true → is_root t n ≡ false
  pub parents : (n parent : NodeId) → loose n ≡ true → (node t n).parent ≡ Some parent → loose parent ≡ true

-- they lie nowhere
loose_within : (f : ℕ) (t : Seen) → IsForest t.nodes → (loose : NodeId → Bool) → IsLoose t.nodes loose → (n : NodeId) → loose n ≡ true →
    domain_within f t n ≡ empty_rect
unfolding domain_within
loose_within zero t forest loose is n h = refl
loose_within (suc f) t forest loose is n h =
    ap (λ b. cond b (whole_of t.size) (place_below t.nodes n (node t.nodes n).parent (domain_within f t))) (is.root n h)
    ∙ by_parent (node t.nodes n).parent (λ p up. loose_within f t forest loose is p (is.parents n p h up))
  where
    by_parent : (o : Option NodeId) → ((p : NodeId) → o ≡ Some p → domain_within f t p ≡ empty_rect) → place_below t.nodes n o (domain_within f t) ≡ empty_rect
    by_parent None ih = refl
    by_parent (Some p) ih =
        ap (λ (e : Edges). get_or (child_places t.nodes p e) (index_of n (node t.nodes p).children) empty_rect) (ih p refl)
        ∙ none_placed t.nodes forest p (index_of n (node t.nodes p).children)

pub loose_domain : (t : Seen) → IsForest t.nodes → (loose : NodeId → Bool) → IsLoose t.nodes loose → (n : NodeId) → loose n ≡ true → domain t n ≡ empty_rect
loose_domain t forest loose is n h = loose_within 16 t forest loose is n h

-- without a root no node lies anywhere
pub no_root : (t : Nodes) → t.root ≡ None → IsLoose t (λ _. true)
no_root t none = record {
  root = λ n h. ap (λ (o : Option NodeId). of_parent o (λ root. eqb root.0 n.0)) none;
  parents = λ n parent h up. refl;
}

split_neither : (a b : Bool) → not (a || b) ≡ true → (a ≡ false) × (b ≡ false)
split_neither true b h = absurd cc
split_neither false true h = absurd cc
split_neither false false h = (refl, refl)

-- a node that isn't below another one is no such node, and nor is its parent
off_parts : (t : Nodes) → IsForest t → (top n : NodeId) → not (is_under t top n) ≡ true →
    (eqb n.0 top.0 ≡ false) × (of_parent (node t n).parent (is_under t top) ≡ false)
off_parts t forest top n h =
    split_neither (eqb n.0 top.0) (of_parent (node t n).parent (is_under t top)) (sym (ap not (under_law t top n forest)) ∙ h)

pub off_apart : (t : Nodes) → IsForest t → (top n : NodeId) → not (is_under t top n) ≡ true → (n.0 == top.0) ≡ false
off_apart t forest top n h = (off_parts t forest top n h).0

pub off_parent : (t : Nodes) → IsForest t → (top n parent : NodeId) → not (is_under t top n) ≡ true → (node t n).parent ≡ Some parent →
    not (is_under t top parent) ≡ true
off_parent t forest top n parent h up = ap not (sym (ap (λ (o : Option NodeId). of_parent o (is_under t top)) up) ∙ (off_parts t forest top n h).1)

-- nor does a node that isn't below the root
pub off_root : (t : Nodes) → IsForest t → (root : NodeId) → t.root ≡ Some root → IsLoose t (λ n. not (is_under t root n))
off_root t forest root is = record { root = λ n h. test n h; parents = λ n parent h up. off_parent t forest root n parent h up }
  where
    test : (n : NodeId) → not (is_under t root n) ≡ true → is_root t n ≡ false
    test n h =
        let other : eqb n.0 root.0 ≡ false = off_apart t forest root n h in
        let back : eqb root.0 n.0 ≡ false = grind (arith, nat_tests) in
        ap (λ (o : Option NodeId). of_parent o (λ r. eqb r.0 n.0)) is ∙ back
