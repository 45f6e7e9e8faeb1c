-- A new forest, one more node, and a root: the nodes are still a forest, and the table has its leaves.
use Rattle.std.proofs.Common.{◌≡◌, ℕ, zero, suc, ◌+◌, ◌<◌, ◌≤◌, Bool, true, false, cond, ◌≢◌, ◌⊎◌, inl, inr, pos, List, [], ◌∷◌, ◌++◌, Some, None, length, get_or, nat_lt, refl, sym, ap, subst, ◌∙◌, length-append, arith}
use Rattle.std.specs.List.{filter, AllPairs}
use Rattle.std.specs.Prelude.{is_some}
use Rattle.std.proofs.lemmas.Bool.Decides.{nat_tests}
use Rattle.std.proofs.lemmas.Int.{ints}
use Rattle.std.proofs.lemmas.List.{get_or_append_left, get_or_default}
use Rattle.std.proofs.lemmas.List.Elements.{filter-append}
use Rattle.std.proofs.Math.Seq.{get_or-append_seam}
use Rattle.std.proofs.Math.ListN.{get_or-eq_default}
use Rattle.tr_base.specs.declared.NodeId.{NodeId}
use Rattle.tr_base.specs.declared.LeafId.{LeafId}
use Rattle.tr_base.specs.declared.Point.{Point}
use Rattle.tr_base.specs.Layouts.{farthest, IsOffset}
use Rattle.tr_forest.specs.declared.kinds.NodeKind.{NodeKind}
use Rattle.tr_forest.specs.declared.kinds.NodeKind.TheVariants as kinds
use Rattle.tr_forest.specs.Nodes.{Entry, Nodes, IsNode, IsNodeKind, IsNextLeaf, node, new_entry, is_leaf, is_filter, shown_by, leaf_of, leaf_count}
use Rattle.tr_forest.specs.Families.{levels, is_among, depth, depth_within}
use Rattle.tr_forest.specs.Forests.{IsForest}
use Rattle.tr_forest.specs.Tables.{IsLeafTable, in_table}
use Rattle.tr_forest.proofs.FamilyLemmas.{by_within, depth_zero, depth_suc}
use Rattle.tr_forest.proofs.Keeping.{depth_equal, leaf_test}

-- no nodes

abbrev pub nothing : Nodes
nothing = record { entries = []; root = None }

nothing_depth : (f : ℕ) (n : NodeId) → depth_within f nothing n ≡ 1
nothing_depth zero n = depth_zero nothing n
nothing_depth (suc f) n = depth_suc f nothing n

none_apart : AllPairs {X = NodeId} (λ a b. a.0 ≢ b.0) []
none_apart i j d lt within = absurd (omega arith)

no_offset : IsOffset farthest (record { h = pos 0; v = pos 0 })
no_offset = record { west = omega (arith, ints); east = omega (arith, ints); north = omega (arith, ints); south = omega (arith, ints) }

pub kept_nothing : IsLeafTable nothing []
kept_nothing = record {
  forest = record {
    count = omega arith;
    parents = λ n p h. cc;
    children = λ n c h. cc;
    once = λ n. none_apart;
    depths = λ n. (let one : depth nothing n ≡ 1 = nothing_depth 16 n in omega arith);
    root = λ n h. cc;
    top = λ n h. cc;
    leaves = λ n h. refl;
    filters = λ n h. omega arith;
    shown = λ n c h. cc;
    kinds = λ n. tt;
    offsets = λ n. no_offset;
    leaf_numbers = omega arith;
    numbered = λ n leaf h. cc;
    unlike = λ m n leaf h k. cc;
  };
  count = refl;
  places = λ k h. absurd (omega arith);
}

-- a root

pub kept_rooted : (t : Nodes) (leaves : List NodeId) (n : NodeId) → IsLeafTable t leaves → IsNode t n → (node t n).parent ≡ None →
    IsLeafTable (record t { root = Some n }) leaves
kept_rooted t leaves n k h top =
    let f : IsForest t = k.forest in
    let new : Nodes = record t { root = Some n } in
    record {
      forest = record {
        count = f.count;
        parents = f.parents;
        children = f.children;
        once = f.once;
        depths = λ m. subst (λ (d : ℕ). d ≤ levels) (sym (depth_equal 16 t new (λ x. refl) m)) (f.depths m);
        root = λ m e. (let same : n ≡ m = cc in subst (λ (x : NodeId). IsNode new x) same (record { within = h.within }));
        top = λ m e. (let same : n ≡ m = cc in ap (λ (x : NodeId). (node t x).parent) (sym same) ∙ top);
        leaves = f.leaves;
        filters = f.filters;
        shown = f.shown;
        kinds = f.kinds;
        offsets = f.offsets;
        leaf_numbers = f.leaf_numbers;
        numbered = f.numbered;
        unlike = f.unlike;
      };
      count = k.count;
      places = k.places;
    }

-- one more node

abbrev pub added : Nodes → NodeKind → ℕ → Nodes
added t kind tint = record t { entries = t.entries ++ new_entry kind tint ∷ [] }

-- a part of the nodes in which the new one is like no node
part_added : {X : Type 0} (part : Entry → X) (es : List Entry) (e d : Entry) (n : ℕ) → part e ≡ part d →
    part (get_or (es ++ e ∷ []) n d) ≡ part (get_or es n d)
part_added part [] e d zero h = h
part_added part [] e d (suc n) h = refl
part_added part (x ∷ xs) e d zero h = refl
part_added part (x ∷ xs) e d (suc n) h = part_added part xs e d n h

-- a number is that of the new node, or its node is as it was
at_added : (es : List Entry) (e d : Entry) (n : ℕ) → ((n ≡ length es) × (get_or (es ++ e ∷ []) n d ≡ e)) ⊎ (get_or (es ++ e ∷ []) n d ≡ get_or es n d)
at_added [] e d zero = inl (refl, refl)
at_added [] e d (suc n) = inr refl
at_added (x ∷ xs) e d zero = inr refl
at_added (x ∷ xs) e d (suc n) = elim (at_added xs e d n) [ inl both ↦ inl (ap (λ k. suc k) both.0, both.1) | inr same ↦ inr same ]

leaves_added : (t : Nodes) (kind : NodeKind) (tint : ℕ) → leaf_count (added t kind tint) ≡ leaf_count t + cond (is_leaf kind) 1 0
leaves_added t kind tint =
    ap (λ (es : List Entry). length es) (filter-append (λ (e : Entry). is_leaf e.kind) t.entries (new_entry kind tint ∷ []))
    ∙ length-append (filter (λ (e : Entry). is_leaf e.kind) t.entries) (filter (λ (e : Entry). is_leaf e.kind) (new_entry kind tint ∷ []))
    ∙ ap (λ k. leaf_count t + k) (one (is_leaf kind))
  where
    one : (b : Bool) → length (cond b (new_entry kind tint ∷ []) []) ≡ cond b 1 0
    one true = refl
    one false = refl

-- a leaf that is added has the next number
next_of : (t : Nodes) (kind : NodeKind) (leaf : LeafId) → IsNextLeaf t kind → leaf_of kind ≡ Some leaf → leaf.0 ≡ leaf_count t
next_of t (kinds.Leaf old shapes) leaf next h = (let same : old ≡ leaf = cc in sym (ap (λ (l : LeafId). l.0) same) ∙ next.next)
next_of t kind leaf next h = cc

pub leaf_yes : (kind : NodeKind) (leaf : LeafId) → leaf_of kind ≡ Some leaf → is_leaf kind ≡ true
leaf_yes kind leaf h = leaf_test kind ∙ ap is_some h

room_for : (t : Nodes) (kind : NodeKind) → IsNextLeaf t kind → leaf_count t ≤ 32 → leaf_count t + cond (is_leaf kind) 1 0 ≤ 32
room_for t (kinds.Leaf leaf shapes) next h = (let lt : leaf_count t < 32 = next.room in omega arith)
room_for t kind next h = omega arith

-- what is asked of a node that is to be added
pub record CanAdd (t : Nodes) (kind : NodeKind) : Type 0 where
  pub room : length t.entries < 256
  pub range : IsNodeKind kind
  pub shown : shown_by kind ≡ None
  pub leaf : IsNextLeaf t kind

leaf_added : (t : Nodes) (kind : NodeKind) (tint : ℕ) (n : NodeId) (leaf : LeafId) → leaf_of (node (added t kind tint) n).kind ≡ Some leaf →
    ((n.0 ≡ length t.entries) × (leaf_of kind ≡ Some leaf)) ⊎ (leaf_of (node t n).kind ≡ Some leaf)
leaf_added t kind tint n leaf h = elim (at_added t.entries (new_entry kind tint) (new_entry kinds.H 0) n.0) [
  | inl both ↦ inl (both.0, sym (ap (λ (e : Entry). leaf_of e.kind) both.1) ∙ h)
  | inr same ↦ inr (sym (ap (λ (e : Entry). leaf_of e.kind) same) ∙ h)
]

one_of : (b : Bool) → b ≡ true → cond {A = ℕ} b 1 0 ≡ 1
one_of true h = refl
one_of false h = cc

none_of : (b : Bool) → b ≡ false → cond {A = ℕ} b 1 0 ≡ 0
none_of true h = cc
none_of false h = refl

numbered_added : (t : Nodes) (kind : NodeKind) (tint : ℕ) (n : NodeId) (leaf : LeafId) → IsForest t → IsNextLeaf t kind →
    leaf_of (node (added t kind tint) n).kind ≡ Some leaf →
    leaf.0 < leaf_count (added t kind tint)
numbered_added t kind tint n leaf f next h =
    let more : leaf_count (added t kind tint) ≡ leaf_count t + cond (is_leaf kind) 1 0 = leaves_added t kind tint in
    elim (leaf_added t kind tint n leaf h) [
      | inl new ↦
          (let is : leaf.0 ≡ leaf_count t = next_of t kind leaf next new.1 in
          let one : cond {A = ℕ} (is_leaf kind) 1 0 ≡ 1 = one_of (is_leaf kind) (leaf_yes kind leaf new.1) in
          omega arith)
      | inr old ↦ (let lt : leaf.0 < leaf_count t = f.numbered n leaf old in omega arith)
    ]

unlike_added : (t : Nodes) (kind : NodeKind) (tint : ℕ) (m n : NodeId) (leaf : LeafId) → IsForest t → IsNextLeaf t kind →
    leaf_of (node (added t kind tint) m).kind ≡ Some leaf → leaf_of (node (added t kind tint) n).kind ≡ Some leaf → m.0 ≡ n.0
unlike_added t kind tint m n leaf f next h k = elim (leaf_added t kind tint m leaf h) [
  | inl new ↦ (elim (leaf_added t kind tint n leaf k) [
    | inl new2 ↦ new.0 ∙ sym new2.0
    | inr old2 ↦ (let is : leaf.0 ≡ leaf_count t = next_of t kind leaf next new.1 in let lt : leaf.0 < leaf_count t = f.numbered n leaf old2 in absurd
        (omega arith))
  ])
  | inr old ↦ (elim (leaf_added t kind tint n leaf k) [
    | inl new2 ↦ (let is : leaf.0 ≡ leaf_count t = next_of t kind leaf next new2.1 in let lt : leaf.0 < leaf_count t = f.numbered m leaf old in absurd
        (omega arith))
    | inr old2 ↦ f.unlike m n leaf old old2
  ])
]

-- what holds of the new kind and of all old ones holds of all
kind_added : (P : NodeKind → Type 0) (t : Nodes) (kind : NodeKind) (tint : ℕ) (n : NodeId) → P kind → P (node t n).kind → P (node (added t kind tint) n).kind
kind_added P t kind tint n here there = elim (at_added t.entries (new_entry kind tint) (new_entry kinds.H 0) n.0) [
  | inl both ↦ subst (λ (e : Entry). P e.kind) (sym both.1) here
  | inr same ↦ subst (λ (e : Entry). P e.kind) (sym same) there
]

pub forest_added : (t : Nodes) (kind : NodeKind) (tint : ℕ) → IsForest t → CanAdd t kind → IsForest (added t kind tint)
forest_added t kind tint f can =
    let new : Nodes = added t kind tint in
    let up : (n : NodeId) → (node new n).parent ≡ (node t n).parent = λ n. part_added (λ e. e.parent) t.entries (new_entry kind tint)
    (new_entry kinds.H 0) n.0 refl in
    let down : (n : NodeId) → (node new n).children ≡ (node t n).children = λ n. part_added (λ e. e.children) t.entries (new_entry kind tint)
    (new_entry kinds.H 0) n.0 refl in
    let place : (n : NodeId) → (node new n).at ≡ (node t n).at = λ n. part_added (λ e. e.at) t.entries (new_entry kind tint) (new_entry kinds.H 0) n.0 refl in
    record {
      count = (let room : length t.entries < 256 = can.room in omega (arith, length-append t.entries (new_entry kind tint ∷ [])));
      parents = λ n p h. ap (is_among n) (down p) ∙ f.parents n p (sym (up n) ∙ h);
      children = λ n c h. up c ∙ f.children n c (sym (ap (is_among c) (down n)) ∙ h);
      once = λ n. subst (λ (cs : List NodeId). AllPairs (λ a b. a.0 ≢ b.0) cs) (sym (down n)) (f.once n);
      depths = λ n. subst (λ (d : ℕ). d ≤ levels) (sym (depth_equal 16 t new up n)) (f.depths n);
      root = λ n h. (let old : IsNode t n = f.root n h in record {
        within =
            (let lt : n.0 < length t.entries = old.within in omega (arith, length-append t.entries (new_entry kind tint ∷ [])));
      });
      top = λ n h. up n ∙ f.top n h;
      leaves = λ n h. elim (at_added t.entries (new_entry kind tint) (new_entry kinds.H 0) n.0) [
        | inl both ↦ ap (λ (e : Entry). e.children) both.1
        | inr same ↦ down n ∙ f.leaves n (sym (ap (λ (e : Entry). is_leaf e.kind) same) ∙ h)
      ];
      filters = λ n h. elim (at_added t.entries (new_entry kind tint) (new_entry kinds.H 0) n.0) [
        | inl both ↦ (let none : length (node new n).children ≡ 0 = ap (λ (e : Entry). length e.children) both.1 in omega arith)
        | inr same ↦ subst (λ (cs : List NodeId). length cs ≤ 1) (sym (down n)) (f.filters n (sym (ap (λ (e : Entry). is_filter e.kind) same) ∙ h))
      ];
      shown = λ n c h. elim (at_added t.entries (new_entry kind tint) (new_entry kinds.H 0) n.0) [
        | inl both ↦ (let no : None ≡ Some c = sym (ap (λ (e : Entry). shown_by e.kind) both.1 ∙ can.shown) ∙ h in absurd cc)
        | inr same ↦ ap (is_among c) (down n) ∙ f.shown n c (sym (ap (λ (e : Entry). shown_by e.kind) same) ∙ h)
      ];
      kinds = λ n. kind_added IsNodeKind t kind tint n can.range (f.kinds n);
      offsets = λ n. subst (λ (p : Point). IsOffset farthest p) (sym (place n)) (f.offsets n);
      leaf_numbers = (let most : leaf_count t + cond (is_leaf kind) 1 0 ≤ 32 = room_for t kind can.leaf f.leaf_numbers in subst (λ (k : ℕ). k ≤ 32)
          (sym (leaves_added t kind tint)) most);
      numbered = λ n leaf h. numbered_added t kind tint n leaf f can.leaf h;
      unlike = λ m n leaf h k. unlike_added t kind tint m n leaf f can.leaf h k;
    }

-- a leaf is still that leaf
leaf_stays : (t : Nodes) (kind : NodeKind) (tint : ℕ) (n : NodeId) (leaf : LeafId) → leaf_of (node t n).kind ≡ Some leaf →
    leaf_of (node (added t kind tint) n).kind ≡ Some leaf
leaf_stays t kind tint n leaf h = elim (at_added t.entries (new_entry kind tint) (new_entry kinds.H 0) n.0) [
  | inl both ↦
      (let past : node t n ≡ new_entry kinds.H 0 = get_or-eq_default t.entries (new_entry kinds.H 0) (omega (arith, both.0)) in
      let no : None ≡ Some leaf = sym (ap (λ (e : Entry). leaf_of e.kind) past) ∙ h in
      absurd cc)
  | inr same ↦ ap (λ (e : Entry). leaf_of e.kind) same ∙ h
]

-- a node that is no leaf leaves the table as it is
pub kept_other : (t : Nodes) (leaves : List NodeId) (kind : NodeKind) (tint : ℕ) → IsLeafTable t leaves → CanAdd t kind → is_leaf kind ≡ false →
    IsLeafTable (added t kind tint) leaves
kept_other t leaves kind tint k can is_none = record {
  forest = forest_added t kind tint k.forest can;
  count = (let more : leaf_count (added t kind tint) ≡ leaf_count t + cond (is_leaf kind) 1 0 = leaves_added t kind tint in
      let none : cond {A = ℕ} (is_leaf kind) 1 0 ≡ 0 = none_of (is_leaf kind) is_none in
      let old : length leaves ≡ leaf_count t = k.count in
      omega arith);
  places = λ i h. leaf_stays t kind tint (in_table leaves i) (record { 0 = i }) (k.places i h);
}

-- which leaf a leaf is
leaf_is : (t : Nodes) (kind : NodeKind) → IsNextLeaf t kind → is_leaf kind ≡ true → leaf_of kind ≡ Some (record { 0 = leaf_count t })
leaf_is t (kinds.Leaf leaf shapes) next h = (let id : ℕ → LeafId = λ k. record { 0 = k } in ap (λ (k : ℕ). Some (id k)) next.next)
leaf_is t kind next h = cc

place_added : (t : Nodes) (leaves : List NodeId) (kind : NodeKind) (tint : ℕ) (n : NodeId) (i : ℕ) → IsLeafTable t leaves → IsNextLeaf t kind →
    is_leaf kind ≡ true → n.0 ≡ length t.entries →
    i < length (leaves ++ n ∷ []) → leaf_of (node (added t kind tint) (in_table (leaves ++ n ∷ []) i)).kind ≡ Some (record { 0 = i })
place_added t leaves kind tint n i k next is_one is h = by_test (nat_lt i (length leaves)) refl
  where
    by_test : (b : Bool) → nat_lt i (length leaves) ≡ b → leaf_of (node (added t kind tint) (in_table (leaves ++ n ∷ []) i)).kind ≡ Some (record { 0 = i })
    by_test true e =
        let lt : i < length leaves = grind (arith, nat_tests) in
        let same : in_table (leaves ++ n ∷ []) i ≡ in_table leaves i = get_or_append_left leaves (n ∷ []) (record { 0 = 0 }) i lt in
        ap (λ (m : NodeId). leaf_of (node (added t kind tint) m).kind) same ∙ leaf_stays t kind tint (in_table leaves i) (record { 0 = i }) (k.places i lt)
    by_test false e =
        let ge : length leaves ≤ i = grind (arith, nat_tests) in
        let last : i ≡ length leaves = omega (arith, length-append leaves (n ∷ [])) in
        let this : in_table (leaves ++ n ∷ []) i ≡ n = ap (in_table (leaves ++ n ∷ [])) last ∙ get_or-append_seam leaves n [] (record { 0 = 0 }) in
        let new : node (added t kind tint) n ≡ new_entry kind tint = ap (λ (x : ℕ). get_or (t.entries ++ new_entry kind tint ∷ []) x (new_entry kinds.H 0)) is
        ∙ get_or-append_seam t.entries (new_entry kind tint) [] (new_entry kinds.H 0) in
        let id : ℕ → LeafId = λ x. record { 0 = x } in
        ap (λ (m : NodeId). leaf_of (node (added t kind tint) m).kind) this ∙ ap (λ (e : Entry). leaf_of e.kind) new ∙ leaf_is t kind next is_one
        ∙ ap (λ (x : ℕ). Some (id x)) (sym (last ∙ k.count))

-- a leaf gets the next place of the table
pub kept_leaf : (t : Nodes) (leaves : List NodeId) (kind : NodeKind) (tint : ℕ) (n : NodeId) → IsLeafTable t leaves → CanAdd t kind → is_leaf kind ≡ true →
    n.0 ≡ length t.entries →
    IsLeafTable (added t kind tint) (leaves ++ n ∷ [])
kept_leaf t leaves kind tint n k can is_one is = record {
  forest = forest_added t kind tint k.forest can;
  count = (let more : leaf_count (added t kind tint) ≡ leaf_count t + cond (is_leaf kind) 1 0 = leaves_added t kind tint in
      let one : cond {A = ℕ} (is_leaf kind) 1 0 ≡ 1 = one_of (is_leaf kind) is_one in
      let old : length leaves ≡ leaf_count t = k.count in
      omega (arith, length-append leaves (n ∷ [])));
  places = λ i h. place_added t leaves kind tint n i k can.leaf is_one is h;
}

-- the table has the node of each leaf
pub place_is : (t : Nodes) (leaves : List NodeId) (leaf : LeafId) (n : NodeId) → IsLeafTable t leaves → leaf.0 < leaf_count t → n ≡ get_or leaves leaf.0 n →
    leaf_of (node t n).kind ≡ Some leaf
place_is t leaves leaf n k h is =
    let lt : leaf.0 < length leaves = (let same : length leaves ≡ leaf_count t = k.count in omega arith) in
    let at : n ≡ in_table leaves leaf.0 = is ∙ get_or_default leaves leaf.0 n (record { 0 = 0 }) lt in
    ap (λ (m : NodeId). leaf_of (node t m).kind) at ∙ k.places leaf.0 lt

-- and that is a node
pub place_is_node : (t : Nodes) (n : NodeId) (leaf : LeafId) → leaf_of (node t n).kind ≡ Some leaf → IsNode t n
place_is_node t n leaf h = by_within t n (λ is. is) (λ none. let no : None ≡ Some leaf = sym (ap (λ (e : Entry). leaf_of e.kind) none) ∙ h in absurd cc)
