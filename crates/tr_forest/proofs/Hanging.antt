-- After an Attach the nodes are still a forest.
use Rattle.std.proofs.Common.{◌≡◌, ℕ, zero, suc, ◌+◌, ◌≤◌, Bool, true, false, ◌||◌, ◌==◌, ◌⊎◌, inl, inr, List, [], Option, Some, None, length, refl, sym, ap, subst, ◌∙◌, arith}
use Rattle.std.proofs.lemmas.Bool.{or_parts}
use Rattle.tr_base.specs.declared.Point.{Point}
use Rattle.tr_base.specs.declared.NodeId.{NodeId}
use Rattle.tr_base.specs.Layouts.{farthest, IsOffset, greatest_by}
use Rattle.tr_base.proofs.BoolLemmas.{or_true}
use Rattle.tr_forest.specs.Nodes.{Entry, Nodes, IsNode, node, is_leaf, is_z, is_filter, shown_by}
use Rattle.tr_forest.specs.Families.{levels, is_among, deeper, depth_within, depth, height, of_parent, is_under_within, is_under}
use Rattle.tr_forest.specs.Edits.{changed, with_child, hung}
use Rattle.tr_forest.specs.Forests.{IsForest}
use Rattle.tr_forest.proofs.FamilyLemmas.{by_id, deeper_same, deeper_le, among_first, depth_zero, depth_suc, depth_law, depth_some, height_law, greatest_member}
use Rattle.tr_forest.proofs.Lists.{AreApart, joined, among_joined, length_joined, apart_joined}
use Rattle.tr_forest.proofs.Keeping.{HasRanges, HasLinks, Follows, follows, keeps_both, keeps_changed, ranges_of, ranges_changed, changed_here, changed_other, changed_part, still_node}

-- where no fault is found
pub record CanHang (t : Nodes) (child parent : NodeId) : Type 0 where
  pub holder : is_leaf (node t parent).kind ≡ false
  pub apart : is_under t child parent ≡ false
  pub free : is_filter (node t parent).kind ≡ true → (node t parent).children ≡ []
  pub loose : (node t child).parent ≡ None
  pub not_root : t.root ≡ Some child → ⊥
  pub fits : depth t parent + height t child ≤ levels

-- what differs: the child's parent, and the parent's children
pub record IsHung (t new : Nodes) (child parent : NodeId) : Type 0 where
  pub root : new.root ≡ t.root
  pub child_up : (node new child).parent ≡ Some parent
  pub other_up : (n : NodeId) → (n.0 == child.0) ≡ false → (node new n).parent ≡ (node t n).parent
  pub down : (node new parent).children ≡ joined (is_z (node t parent).kind) child (node t parent).children
  pub other_down : (n : NodeId) → (n.0 == parent.0) ≡ false → (node new n).children ≡ (node t n).children
  pub kinds : (n : NodeId) → (node new n).kind ≡ (node t n).kind

abbrev pub hanging : Nodes → NodeId → NodeId → Point → Nodes
hanging t child parent at = changed child (hung parent at) (changed parent (with_child child) t)

pub hung_is : (t : Nodes) (child parent : NodeId) (at : Point) → IsNode t child → IsNode t parent → IsHung t (hanging t child parent at) child parent
hung_is t child parent at hc hp =
    let u : Nodes = changed parent (with_child child) t in
    let hu : IsNode u child = still_node t parent child (with_child child) hc in
    record {
      root = refl;
      child_up = ap (λ (e : Entry). e.parent) (changed_here u child (hung parent at) hu);
      other_up = λ n ne. ap (λ (e : Entry). e.parent) (changed_other u child n (hung parent at) ne)
          ∙ changed_part (λ (e : Entry). e.parent) t parent n (with_child child) hp refl;
      down = changed_part (λ (e : Entry). e.children) u child parent (hung parent at) hu refl
          ∙ ap (λ (e : Entry). e.children) (changed_here t parent (with_child child) hp);
      other_down = λ n ne. changed_part (λ (e : Entry). e.children) u child n (hung parent at) hu refl
          ∙ ap (λ (e : Entry). e.children) (changed_other t parent n (with_child child) ne);
      kinds = λ n. changed_part (λ (e : Entry). e.kind) u child n (hung parent at) hu refl
          ∙ changed_part (λ (e : Entry). e.kind) t parent n (with_child child) hp refl;
    }

-- depths

-- more steps count no less
depth_le : (f g : ℕ) (t : Nodes) (n : NodeId) → f ≤ g → depth_within f t n ≤ depth_within g t n
unfolding depth_within
depth_le zero g t n h = depth_some g t n
depth_le (suc f) zero t n h = absurd (omega arith)
depth_le (suc f) (suc g) t n h = deeper_le (node t n).parent (depth_within f t) (depth_within g t) (λ p. depth_le f g t p (omega arith))

-- who isn't under the child has its depth still
depth_beside : (f g : ℕ) (t new : Nodes) (child parent n : NodeId) → IsHung t new child parent → f ≤ g → is_under_within g t child n ≡ false →
    depth_within f new n ≡ depth_within f t n
unfolding depth_within is_under_within
depth_beside zero g t new child parent n e h k = refl
depth_beside (suc f) zero t new child parent n e h k = absurd (omega arith)
depth_beside (suc f) (suc g) t new child parent n e h k =
    let both = or_parts (n.0 == child.0) (of_parent (node t n).parent (is_under_within g t child)) k in
    ap (λ o. deeper o (depth_within f new)) (e.other_up n both.0)
    ∙ deeper_same (node t n).parent (depth_within f new) (depth_within f t)
    (λ p is. depth_beside f g t new child parent p e (omega arith) (sym (ap (λ o. of_parent o (is_under_within g t child)) is) ∙ both.1))

-- a parent is higher than its child
height_up : (t : Nodes) (n q : NodeId) → IsForest t → (node t n).parent ≡ Some q → height t n + 1 ≤ height t q
height_up t n q forest h =
    let member : height t n ≤ greatest_by (height t) (node t q).children = greatest_member (node t q).children (height t) n (forest.parents n q h) in
    let law : height t q ≡ greatest_by (height t) (node t q).children + 1 = height_law t q forest in
    omega arith

-- a node keeps its depth at most, or hangs under the child
abbrev IsBounded : Nodes → Nodes → NodeId → NodeId → ℕ → NodeId → Type 0
IsBounded t new child parent f n = (depth_within f new n ≤ depth t n) ⊎ (depth_within f new n + height t n ≤ depth t parent + height t child + 1)

bounded_up : (f : ℕ) (t new : Nodes) (child parent n : NodeId) (o : Option NodeId) → IsForest t → (node new n).parent ≡ o → (node t n).parent ≡ o →
    ((q : NodeId) → IsBounded t new child parent f q) → IsBounded t new child parent (suc f) n
bounded_up f t new child parent n None forest e h ih =
    let one : depth_within (suc f) new n ≡ 1 = depth_suc f new n ∙ ap (λ o. deeper o (depth_within f new)) e in
    let some : 1 ≤ depth t n = depth_some 16 t n in
    inl (omega arith)
bounded_up f t new child parent n (Some q) forest e h ih =
    let one : depth_within (suc f) new n ≡ depth_within f new q + 1 = depth_suc f new n ∙ ap (λ o. deeper o (depth_within f new)) e in
    let law : depth t n ≡ depth t q + 1 = depth_law t n forest ∙ ap (λ o. deeper o (depth t)) h in
    let high : height t n + 1 ≤ height t q = height_up t n q forest h in
    elim (ih q) [ inl le ↦ inl (omega arith) | inr le ↦ inr (omega arith) ]

bounded : (f : ℕ) (t new : Nodes) (child parent : NodeId) → IsForest t → IsHung t new child parent → is_under t child parent ≡ false → f ≤ 16 →
    (n : NodeId) → IsBounded t new child parent f n
bounded zero t new child parent forest e apart h n =
    let one : depth_within 0 new n ≡ 1 = depth_zero new n in
    let some : 1 ≤ depth t n = depth_some 16 t n in
    inl (omega arith)
bounded (suc f) t new child parent forest e apart h n = by_id n child
    (λ is.
    let up : (node new n).parent ≡ Some parent = ap (λ (k : NodeId). (node new k).parent) is ∙ e.child_up in
    let one : depth_within (suc f) new n ≡ depth_within f new parent + 1 = depth_suc f new n ∙ ap (λ o. deeper o (depth_within f new)) up in
    let same : depth_within f new parent ≡ depth_within f t parent = depth_beside f 16 t new child parent parent e (omega arith) apart in
    let le : depth_within f t parent ≤ depth t parent = depth_le f 16 t parent (omega arith) in
    let tall : height t n ≡ height t child = ap (height t) is in
    inr (omega arith))
    (λ other. bounded_up f t new child parent n (node t n).parent forest (e.other_up n other) refl
    (λ q. bounded f t new child parent forest e apart (omega arith) q))

depths_hold : (t new : Nodes) (child parent n : NodeId) → IsForest t → IsHung t new child parent → CanHang t child parent → depth new n ≤ levels
depths_hold t new child parent n forest e a =
    let old : depth t n ≤ levels = forest.depths n in
    let law : height t n ≡ greatest_by (height t) (node t n).children + 1 = height_law t n forest in
    let fits : depth t parent + height t child ≤ levels = a.fits in
    elim (bounded 16 t new child parent forest e a.apart (omega arith) n) [ inl le ↦ omega arith | inr le ↦ omega arith ]

-- who is whose child

among_new : (t new : Nodes) (child parent p n : NodeId) → IsHung t new child parent → is_among n (node t p).children ≡ true →
    is_among n (node new p).children ≡ true
among_new t new child parent p n e h = by_id p parent
    (λ is.
    let old : is_among n (node t parent).children ≡ true = sym (ap (λ (k : NodeId). is_among n (node t k).children) is) ∙ h in
    ap (λ (k : NodeId). is_among n (node new k).children) is ∙ ap (is_among n) e.down
    ∙ among_joined (is_z (node t parent).kind) n child (node t parent).children
    ∙ ap (λ b. (child.0 == n.0) || b) old ∙ or_true (child.0 == n.0))
    (λ other. ap (is_among n) (e.other_down p other) ∙ h)

among_child : (t new : Nodes) (child parent : NodeId) → IsHung t new child parent → is_among child (node new parent).children ≡ true
among_child t new child parent e = ap (is_among child) e.down ∙ among_joined (is_z (node t parent).kind) child child (node t parent).children
    ∙ among_first child (node t parent).children

split_or : (child n : NodeId) (b : Bool) → ((child.0 == n.0) || b) ≡ true → (n ≡ child) ⊎ (b ≡ true)
split_or child n b h = by_id child n (λ e. inl (sym e)) (λ ne. inr (sym (ap (λ t. t || b) ne) ∙ h))

among_old : (t new : Nodes) (child parent p n : NodeId) → IsHung t new child parent → is_among n (node new p).children ≡ true →
    ((n ≡ child) × (p ≡ parent)) ⊎ (is_among n (node t p).children ≡ true)
among_old t new child parent p n e h = by_id p parent
    (λ is.
    let here : ((child.0 == n.0) || is_among n (node t parent).children) ≡ true =
    sym (ap (λ (k : NodeId). is_among n (node new k).children) is ∙ ap (is_among n) e.down
    ∙ among_joined (is_z (node t parent).kind) n child (node t parent).children) ∙ h in
    elim (split_or child n (is_among n (node t parent).children) here) [
      | inl same ↦ inl (same, is)
      | inr old ↦ inr
          (ap (λ (k : NodeId). is_among n (node t k).children) is ∙ old)
    ])
    (λ other. inr (sym (ap (is_among n) (e.other_down p other)) ∙ h))

-- the child was nobody's
not_listed : (t : Nodes) (child p : NodeId) → IsForest t → (node t child).parent ≡ None → is_among child (node t p).children ≡ false
not_listed t child p forest loose = by_test (is_among child (node t p).children) refl
  where
    by_test : (b : Bool) → is_among child (node t p).children ≡ b → b ≡ false
    by_test true h = let up : (node t child).parent ≡ Some p = forest.children p child h in cc
    by_test false h = refl

links_hung : (t new : Nodes) (child parent : NodeId) → IsForest t → IsHung t new child parent → CanHang t child parent → HasLinks new
links_hung t new child parent forest e a = record {
  parents = λ n p h. by_id n child
      (λ is.
      let up : Some parent ≡ Some p = sym (ap (λ (k : NodeId). (node new k).parent) is ∙ e.child_up) ∙ h in
      let same : p ≡ parent = cc in
      ap (λ (k : NodeId). is_among n (node new k).children) same ∙ ap (λ (k : NodeId). is_among k (node new parent).children) is
      ∙ among_child t new child parent e)
      (λ other. among_new t new child parent p n e (forest.parents n p (sym (e.other_up n other) ∙ h)));
  children = λ n c h. elim (among_old t new child parent n c e h) [
    | inl both ↦ ap (λ (k : NodeId). (node new k).parent) both.0 ∙ e.child_up ∙ ap (λ (k : NodeId). Some k) (sym both.1)
    | inr old ↦
        (let up : (node t c).parent ≡ Some n = forest.children n c old in
        by_id c child (λ is. (let none : (node t c).parent ≡ None = ap (λ (k : NodeId). (node t k).parent) is ∙ a.loose in absurd cc))
        (λ other. e.other_up c other ∙ up))
  ];
  once = λ n. by_id n parent
      (λ is. subst (λ (k : NodeId). AreApart (node new k).children) (sym is) (subst (λ (cs : List NodeId). AreApart cs) (sym e.down)
      (apart_joined (is_z (node t parent).kind) child (node t parent).children (forest.once parent) (not_listed t child parent forest a.loose))))
      (λ other. subst (λ (cs : List NodeId). AreApart cs) (sym (e.other_down n other)) (forest.once n));
  depths = λ n. depths_hold t new child parent n forest e a;
  top = λ n h. (let old : t.root ≡ Some n = sym e.root ∙ h in by_id n child
      (λ is. absurd (a.not_root (old ∙ ap (λ (k : NodeId). Some k) is)))
      (λ other. e.other_up n other ∙ forest.top n old));
  leaves = λ n h. (let old : is_leaf (node t n).kind ≡ true = sym (ap is_leaf (e.kinds n)) ∙ h in by_id n parent
      (λ is.
      let no_leaf : is_leaf (node t parent).kind ≡ false = a.holder in
      let leaf : is_leaf (node t parent).kind ≡ true = sym (ap (λ (k : NodeId). is_leaf (node t k).kind) is) ∙ old in
      absurd cc)
      (λ other. e.other_down n other ∙ forest.leaves n old));
  filters = λ n h. (let old : is_filter (node t n).kind ≡ true = sym (ap is_filter (e.kinds n)) ∙ h in by_id n parent
      (λ is.
      let none : (node t parent).children ≡ [] = a.free (sym (ap (λ (k : NodeId). is_filter (node t k).kind) is) ∙ old) in
      let count : length (node t parent).children ≡ 0 = ap (λ (cs : List NodeId). length cs) none in
      let here : length (node new n).children ≡ length (node t parent).children + 1 =
      ap (λ (k : NodeId). length (node new k).children) is ∙ ap (λ (cs : List NodeId). length cs) e.down
      ∙ length_joined (is_z (node t parent).kind) child (node t parent).children in
      omega arith)
      (λ other. subst (λ (cs : List NodeId). length cs ≤ 1) (sym (e.other_down n other)) (forest.filters n old)));
  shown = λ n c h. among_new t new child parent n c e (forest.shown n c (sym (ap shown_by (e.kinds n)) ∙ h));
}

pub follows_hung : (t : Nodes) (child parent : NodeId) (at : Point) → IsForest t → IsNode t child → IsNode t parent → IsOffset farthest at →
    CanHang t child parent →
    Follows t (hanging t child parent at)
follows_hung t child parent at forest hc hp far a =
    let u : Nodes = changed parent (with_child child) t in
    let hu : IsNode u child = still_node t parent child (with_child child) hc in
    let ranges : HasRanges u = ranges_changed t parent (with_child child) hp (ranges_of t forest) (forest.kinds parent) (forest.offsets parent) in
    follows t (hanging t child parent at) forest
    (keeps_both t u (hanging t child parent at) (keeps_changed t parent (with_child child) hp refl) (keeps_changed u child (hung parent at) hu refl))
    (ranges_changed u child (hung parent at) hu ranges (ranges.kinds child) far)
    (links_hung t (hanging t child parent at) child parent forest (hung_is t child parent at hc hp) a)
