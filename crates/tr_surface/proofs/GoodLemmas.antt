-- Good points: each node has some of its own, so whether a point is bad is told by the node that it belongs to.
use Rattle.std.proofs.Common.{◌≡◌, ◌≢◌, ℕ, zero, suc, ◌+◌, ◌<◌, Bool, true, false, not, ◌&&◌, List, [], ◌∷◌, ◌++◌, Option, Some, None, length, get_or, set, get_or-set_same, get_or-set_other, length-append, length-set, inl, inr, refl, sym, ap, ◌∙◌, arith}
use Rattle.std.specs.Prelude.{IsSome}
use Rattle.std.proofs.lemmas.Bool.{cases_eq, cases_lt}
use Rattle.std.proofs.lemmas.List.{get_or_append_left, get_or_push}
use Rattle.std.proofs.lemmas.List.Elements.{All-from_get_or}
use Rattle.std.proofs.lemmas.List.Folds.{list_any_at, list_any_none}
use Rattle.tr_base.specs.declared.Point.{Point}
use Rattle.tr_base.specs.declared.NodeId.{NodeId}
use Rattle.tr_base.specs.declared.LeafId.{LeafId}
use Rattle.tr_base.specs.Rects.{Edges, has_point, whole_of}
use Rattle.tr_base.proofs.BoolLemmas.{not_not, from_false-true}
use Rattle.tr_region.specs.Points.{holds}
use Rattle.tr_forest.specs.Nodes.{IsNode, leaf_of, node}
use Rattle.tr_forest.specs.Forests.{IsForest}
use Rattle.tr_tree.specs.Trees.{Seen}
use Rattle.tr_spot.specs.Spots.{HasRoot, is_in_leaf, owner, region_of, spot}
use Rattle.tr_spot.specs.Ways.{ends_at, is_it}
use Rattle.tr_spot.proofs.GainLemmas.{owner_is_node}
use Rattle.tr_spot.proofs.SpotLemmas.{leaf_spot, spot_is}
use Rattle.tr_spot.proofs.WayLemmas.{and_left, and_right, it_is, owns_end}
use Rattle.tr_forest.specs.Families.{levels}
use Rattle.tr_forest.proofs.FamilyLemmas.{same_id}
use Rattle.tr_surface.specs.Surfaces.{AreOwn, IsShown, Shown, any_holds, is_bad, is_on}
use Rattle.tr_surface.proofs.SurvivorLemmas.{IsOf, owns_point}

-- ---- one node has a point

pub one_owner : (t : Seen) → IsForest t.nodes → (m n : NodeId) (p : Point) → IsOf t m p ≡ true → IsOf t n p ≡ true → m ≡ n
one_owner t forest m n p hm hn =
    let here : ends_at t p t.nodes.root ≡ Some m = it_is m (ends_at t p t.nodes.root)
    (and_right (has_point (whole_of t.size) p) (is_it m (ends_at t p t.nodes.root)) (spot_is t forest p m ∙ hm)) in
    let there : ends_at t p t.nodes.root ≡ Some n = it_is n (ends_at t p t.nodes.root)
    (and_right (has_point (whole_of t.size) p) (is_it n (ends_at t p t.nodes.root)) (spot_is t forest p n ∙ hn)) in
    cc

-- each point of the screen has a node
pub record HasOwner (t : Seen) (p : Point) : Type 0 where
  pub node_at : NodeId
  pub is_node : IsNode t.nodes node_at
  pub mine : IsOf t node_at p ≡ true

pub has_owner : (t : Seen) → IsForest t.nodes → HasRoot t → (p : Point) → is_on t p ≡ true → HasOwner t p
has_owner t forest root p on = by_root t.nodes.root refl root
  where
    by_root : (o : Option NodeId) → t.nodes.root ≡ o → IsSome o → HasOwner t p
    by_root None e some = from_false-true some
    by_root (Some r) e some = record {
      node_at = owner t r p;
      is_node = owner_is_node levels t forest r p (forest.root r e);
      mine = sym (spot_is t forest p (owner t r p)) ∙ owns_end t p (owner t r p) r e on refl;
    }

-- ---- whether one of the regions has a point

pub any_none : (good : List (List Edges)) (p : Point) → ((i : ℕ) → i < length good → holds (get_or good i []) p ≡ false) → any_holds good p ≡ false
any_none good p none = list_any_none (λ r. holds r p) good (All-from_get_or (λ r. holds r p ≡ false) good [] none)

pub any_at : (good : List (List Edges)) (i : ℕ) (p : Point) → i < length good → holds (get_or good i []) p ≡ true → any_holds good p ≡ true
any_at good i p lt h = list_any_at (λ r. holds r p) good i [] lt h

-- a region that has a point is that of the node to which the point belongs
pub own_region : (t : Seen) → IsForest t.nodes → (good : List (List Edges)) → AreOwn t good → (n : NodeId) (p : Point) → IsOf t n p ≡ true →
    (i : ℕ) → i < length good → holds (get_or good i []) p ≡ true → holds (region_of good n) p ≡ true
own_region t forest good own n p mine i lt h =
    let at : NodeId = record { 0 = i } in
    let same : at ≡ n = one_owner t forest at n p (own.points at p (record { within = omega (arith, lt, own.count) }) h) mine in
    ap (λ (k : NodeId). holds (region_of good k) p) (sym same) ∙ h

pub any_here : (t : Seen) → IsForest t.nodes → (good : List (List Edges)) → AreOwn t good → (n : NodeId) → IsNode t.nodes n → (p : Point) →
    IsOf t n p ≡ true → any_holds good p ≡ holds (region_of good n) p
any_here t forest good own n inside p mine = by_region (holds (region_of good n) p) refl
  where
    other : holds (region_of good n) p ≡ false → (i : ℕ) → i < length good → (b : Bool) → holds (get_or good i []) p ≡ b → b ≡ false
    other none i lt true h = sym (own_region t forest good own n p mine i lt h) ∙ none
    other none i lt false h = refl

    by_region : (b : Bool) → holds (region_of good n) p ≡ b → any_holds good p ≡ holds (region_of good n) p
    by_region true h = any_at good n.0 p (omega (arith, inside.within, own.count)) h ∙ sym h
    by_region false h = any_none good p (λ i lt. other h i lt (holds (get_or good i []) p) refl) ∙ sym h

-- off the screen no region has a point
pub any_off : (t : Seen) → IsForest t.nodes → (good : List (List Edges)) → AreOwn t good → (p : Point) → is_on t p ≡ false → any_holds good p ≡ false
any_off t forest good own p off = any_none good p (λ i lt. none i lt (holds (get_or good i []) p) refl)
  where
    none : (i : ℕ) → i < length good → (b : Bool) → holds (get_or good i []) p ≡ b → b ≡ false
    none i lt true h =
        let at : NodeId = record { 0 = i } in
        sym (owns_point t forest at p (own.points at p (record { within = omega (arith, lt, own.count) }) h)).on ∙ off
    none i lt false h = refl

-- ---- bad points

pub bad_is : (s : Shown) (p : Point) → is_bad s p ≡ (is_on s.tree p && not (any_holds s.good p))
unfolding is_bad
bad_is s p = refl

pub bad_on : (s : Shown) (p : Point) → is_bad s p ≡ true → is_on s.tree p ≡ true
bad_on s p h = and_left (is_on s.tree p) (not (any_holds s.good p)) (sym (bad_is s p) ∙ h)

pub bad_off : (s : Shown) (p : Point) → is_on s.tree p ≡ false → is_bad s p ≡ false
bad_off s p off = bad_is s p ∙ ap (λ b. b && not (any_holds s.good p)) off

-- a point of a node is bad where it is none of the node's good ones
pub bad_here : (s : Shown) → IsShown s → (n : NodeId) → IsNode s.tree.nodes n → (p : Point) → IsOf s.tree n p ≡ true →
    is_bad s p ≡ not (holds (region_of s.good n) p)
bad_here s is n inside p mine =
    bad_is s p
    ∙ ap (λ b. b && not (any_holds s.good p)) (owns_point s.tree is.forest n p mine).on
    ∙ ap not (any_here s.tree is.forest s.good is.own n inside p mine)

-- the good points of a node are those of its own that aren't bad
pub good_own : (s : Shown) → IsShown s → (n : NodeId) → IsNode s.tree.nodes n → (p : Point) →
    holds (region_of s.good n) p ≡ (IsOf s.tree n p && not (is_bad s p))
good_own s is n inside p = by_region (holds (region_of s.good n) p) refl
  where
    none : holds (region_of s.good n) p ≡ false → (b : Bool) → IsOf s.tree n p ≡ b → (b && not (is_bad s p)) ≡ false
    none h true mine = ap not (bad_here s is n inside p mine) ∙ not_not (holds (region_of s.good n) p) ∙ h
    none h false mine = refl

    by_region : (b : Bool) → holds (region_of s.good n) p ≡ b → holds (region_of s.good n) p ≡ (IsOf s.tree n p && not (is_bad s p))
    by_region true h =
        let mine : IsOf s.tree n p ≡ true = is.own.points n p inside h in
        h ∙ sym (ap (λ b. b && not (is_bad s p)) mine ∙ ap not (bad_here s is n inside p mine) ∙ not_not (holds (region_of s.good n) p) ∙ h)
    by_region false h = h ∙ sym (none h (IsOf s.tree n p) refl)

-- the same of a leaf
pub good_leaf : (s : Shown) → IsShown s → (leaf : LeafId) (n : NodeId) → IsNode s.tree.nodes n → leaf_of (node s.tree.nodes n).kind ≡ Some leaf → (p : Point) →
    holds (region_of s.good n) p ≡ (is_in_leaf leaf (spot s.tree p) && not (is_bad s p))
good_leaf s is leaf n inside its p =
    good_own s is n inside p ∙ ap (λ b. b && not (is_bad s p)) (leaf_spot (node s.tree.nodes n).kind leaf n (spot s.tree p) its)

-- what is left of a node's own points without the good ones is bad
pub left_bad : (own bad good : Bool) → good ≡ (own && not bad) → (own && not good) ≡ (bad && own)
left_bad own bad good e = ap (λ g. own && not g) e ∙ by_tests own bad
  where
    by_tests : (own bad : Bool) → (own && not (own && not bad)) ≡ (bad && own)
    by_tests true true = refl
    by_tests true false = refl
    by_tests false true = refl
    by_tests false false = refl

-- ---- regions without points

-- one more region without points
none_at : (rs : List (List Edges)) (i : ℕ) → get_or rs i [] ≡ [] → get_or (rs ++ [] ∷ []) i [] ≡ []
none_at [] zero h = refl
none_at [] (suc i) h = refl
none_at (r ∷ rs) zero h = h
none_at (r ∷ rs) (suc i) h = none_at rs i h

pub none_more : (rs new : List (List Edges)) (r : List Edges) (n : NodeId) → new ≡ rs ++ r ∷ [] → r ≡ [] → region_of rs n ≡ [] → region_of new n ≡ []
none_more rs new r n is empty h = rw (is, empty) (none_at rs n.0 h)

-- ---- the region of one node is another one

region_same : (good : List (List Edges)) (n : NodeId) (region : List Edges) → n.0 < length good → region_of (set good n.0 region) n ≡ region
region_same good n region lt = get_or-set_same good n.0 region [] lt

region_other : (good : List (List Edges)) (n m : NodeId) (region : List Edges) → (m ≡ n → ⊥) → region_of (set good n.0 region) m ≡ region_of good m
region_other good n m region other =
    let apart : m.0 ≢ n.0 = λ e. other (same_id m n e) in
    get_or-set_other good n.0 m.0 region [] apart

by_node : {P : Type 0} (m n : NodeId) → (m ≡ n → P) → ((m ≡ n → ⊥) → P) → P
by_node m n same other = elim (cases_eq m.0 n.0) [ inl e ↦ same (same_id m n e) | inr ne ↦ other (λ e. ne (ap (λ (k : NodeId). k.0) e)) ]

pub own_with : (t : Seen) (good : List (List Edges)) → AreOwn t good → (n : NodeId) → IsNode t.nodes n → (region : List Edges) →
    ((p : Point) → holds region p ≡ true → IsOf t n p ≡ true) → AreOwn t (set good n.0 region)
own_with t good own n inside region mine = record {
  count = length-set good n.0 region ∙ own.count;
  points = λ m p is h. by_node m n
      (λ same. ap (λ (k : NodeId). IsOf t k p) same
      ∙ mine p (sym (ap (λ (r : List Edges). holds r p) (region_same good n region (omega (arith, inside.within, own.count))))
      ∙ ap (λ (k : NodeId). holds (region_of (set good n.0 region) k) p) (sym same) ∙ h))
      (λ other. own.points m p is (sym (ap (λ (r : List Edges). holds r p) (region_other good n m region other)) ∙ h));
}

-- a screen and tree as they were, and the region of a node is another one
pub bad_with : (s new : Shown) → IsShown s → IsShown new → (n : NodeId) → IsNode s.tree.nodes n → (region : List Edges) →
    new.tree ≡ s.tree → new.good ≡ set s.good n.0 region → (p : Point) → IsOf s.tree n p ≡ true → is_bad new p ≡ not (holds region p)
bad_with s new is after n inside region tree good p mine =
    bad_is new p
    ∙ ap (λ (t : Seen). is_on t p && not (any_holds new.good p)) tree
    ∙ ap (λ b. b && not (any_holds new.good p)) (owns_point s.tree is.forest n p mine).on
    ∙ ap not (any_here new.tree after.forest new.good after.own n
    (record { within = omega (arith, inside.within, ap (λ (t : Seen). length t.nodes.entries) tree) }) p
    (ap (λ (t : Seen). IsOf t n p) tree ∙ mine)
    ∙ ap (λ (g : List (List Edges)). holds (region_of g n) p) good
    ∙ ap (λ (r : List Edges). holds r p) (region_same s.good n region (omega (arith, inside.within, is.own.count))))

pub bad_others : (s new : Shown) → IsShown s → IsShown new → (n : NodeId) (region : List Edges) →
    new.tree ≡ s.tree → new.good ≡ set s.good n.0 region → (p : Point) → IsOf s.tree n p ≡ false → is_bad new p ≡ is_bad s p
bad_others s new is after n region tree good p out = by_screen (is_on s.tree p) refl
  where
    by_screen : (b : Bool) → is_on s.tree p ≡ b → is_bad new p ≡ is_bad s p
    by_screen false off = bad_off new p (ap (λ (t : Seen). is_on t p) tree ∙ off) ∙ sym (bad_off s p off)
    by_screen true on =
        let at : HasOwner s.tree p = has_owner s.tree is.forest is.root p on in
        let m : NodeId = at.node_at in
        let other : m ≡ n → ⊥ = λ e. from_false-true (sym out ∙ ap (λ (k : NodeId). IsOf s.tree k p) (sym e) ∙ at.mine) in
        bad_here new after m (record { within = omega (arith, at.is_node.within, ap (λ (t : Seen). length t.nodes.entries) tree) }) p
        (ap (λ (t : Seen). IsOf t m p) tree ∙ at.mine)
        ∙ ap (λ (g : List (List Edges)). not (holds (region_of g m) p)) good
        ∙ ap (λ (r : List Edges). not (holds r p)) (region_other s.good n m region other)
        ∙ sym (bad_here s is m at.is_node p at.mine)

-- ---- lists of regions that grow

pub count_push : (regions more : List (List Edges)) (n : ℕ) (region : List Edges) → length regions ≡ n → more ≡ regions ++ region ∷ [] → length more ≡ n + 1
count_push regions more n region count is = ap length is ∙ length-append regions (region ∷ []) ∙ ap (λ k. k + 1) count

pub regions_push : (test : NodeId → Point → Bool) (regions more : List (List Edges)) (n : ℕ) (region : List Edges) →
    length regions ≡ n → more ≡ regions ++ region ∷ [] →
    ((m : NodeId) (p : Point) → m.0 < n → holds (region_of regions m) p ≡ test m p) → ((p : Point) → holds region p ≡ test (record { 0 = n }) p) →
    (m : NodeId) (p : Point) → m.0 < n + 1 → holds (region_of more m) p ≡ test m p
regions_push test regions more n region count is were next m p lt =
    ap (λ (rs : List (List Edges)). holds (region_of rs m) p) is ∙ elim (cases_lt m.0 n) [
      | inl before ↦
          ap (λ (r : List Edges). holds r p) (get_or_append_left regions (region ∷ []) [] m.0 (omega (arith, before, count))) ∙ were m p before
      | inr not_before ↦
          let same : m.0 ≡ n = omega (arith, lt, not_before) in
          ap (λ (r : List Edges). holds r p) (get_or_push regions region [] m.0 (count ∙ sym same)) ∙ next p
          ∙ ap (λ (k : NodeId). test k p) (sym (same_id m (record { 0 = n }) same))
    ]
