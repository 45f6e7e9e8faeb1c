-- What a change of one node leaves as it was, and when the nodes stay a forest.
use Rattle.std.proofs.Common.{◌≡◌, ℕ, zero, suc, ◌<◌, ◌≤◌, Bool, true, false, cond, ◌==◌, ◌≢◌, List, [], ◌∷◌, Some, None, length, get_or, set, refl, sym, ap, subst, ◌∙◌, arith}
use Rattle.std.specs.Prelude.{is_some}
use Rattle.std.specs.List.{filter, AllPairs}
use Rattle.std.proofs.lemmas.List.{get_or-set_same, get_or-set_other, length-set}
use Rattle.std.proofs.lemmas.Bool.Decides.{nat_tests}
use Rattle.tr_base.specs.declared.NodeId.{NodeId}
use Rattle.tr_base.specs.Layouts.{farthest, IsOffset}
use Rattle.tr_forest.specs.declared.kinds.NodeKind.{NodeKind}
use Rattle.tr_forest.specs.declared.kinds.NodeKind.TheVariants as kinds
use Rattle.tr_forest.specs.Nodes.{Entry, Nodes, IsNode, IsNodeKind, node, new_entry, is_leaf, is_filter, shown_by, leaf_of, leaf_count}
use Rattle.tr_forest.specs.Families.{levels, is_among, deeper, depth_within, depth}
use Rattle.tr_forest.specs.Edits.{changed}
use Rattle.tr_forest.specs.Forests.{IsForest}
use Rattle.tr_forest.specs.Tables.{IsLeafTable, in_table}
use Rattle.tr_forest.proofs.FamilyLemmas.{by_id, deeper_same, depth_zero, depth_suc}

-- what every edit leaves as it was: how many nodes there are, the root, and which leaf each node is
pub record KeepsValues (t new : Nodes) : Type 0 where
  pub count : length new.entries ≡ length t.entries
  pub root : new.root ≡ t.root
  pub leaf : (n : NodeId) → leaf_of (node new n).kind ≡ leaf_of (node t n).kind
  pub leaf_count : leaf_count new ≡ leaf_count t

pub keeps_both : (t u new : Nodes) → KeepsValues t u → KeepsValues u new → KeepsValues t new
keeps_both t u new a b = record {
  count = b.count ∙ a.count;
  root = b.root ∙ a.root;
  leaf = λ n. b.leaf n ∙ a.leaf n;
  leaf_count = b.leaf_count ∙ a.leaf_count;
}

-- the values of all nodes are within their ranges
pub record HasRanges (t : Nodes) : Type 0 where
  pub kinds : (n : NodeId) → IsNodeKind (node t n).kind
  pub offsets : (n : NodeId) → IsOffset farthest (node t n).at

pub ranges_of : (t : Nodes) → IsForest t → HasRanges t
ranges_of t f = record { kinds = f.kinds; offsets = f.offsets }

-- what a forest says of who is whose child
pub record HasLinks (t : Nodes) : Type 0 where
  pub parents : (n parent : NodeId) → (node t n).parent ≡ Some parent → is_among n (node t parent).children ≡ true
  pub children : (n child : NodeId) → is_among child (node t n).children ≡ true → (node t child).parent ≡ Some n
  pub once : (n : NodeId) → AllPairs (λ a b. a.0 ≢ b.0) (node t n).children
  pub depths : (n : NodeId) → depth t n ≤ levels
  pub top : (n : NodeId) → t.root ≡ Some n → (node t n).parent ≡ None
  pub leaves : (n : NodeId) → is_leaf (node t n).kind ≡ true → (node t n).children ≡ []
  pub filters : (n : NodeId) → is_filter (node t n).kind ≡ true → length (node t n).children ≤ 1
  pub shown : (n child : NodeId) → shown_by (node t n).kind ≡ Some child → is_among child (node t n).children ≡ true

-- the nodes after an edit
pub record Follows (t new : Nodes) : Type 0 where
  pub values : KeepsValues t new
  pub forest : IsForest new

pub follows : (t new : Nodes) → IsForest t → KeepsValues t new → HasRanges new → HasLinks new → Follows t new
follows t new f v r l = record {
  values = v;
  forest = record {
    count = (let most : length t.entries ≤ 256 = f.count in let same : length new.entries ≡ length t.entries = v.count in omega arith);
    parents = l.parents;
    children = l.children;
    once = l.once;
    depths = l.depths;
    root = λ n h. (let old : IsNode t n = f.root n (sym v.root ∙ h) in record {
      within =
          (let lt : n.0 < length t.entries = old.within in let same : length new.entries ≡ length t.entries = v.count in omega arith);
    });
    top = l.top;
    leaves = l.leaves;
    filters = l.filters;
    shown = l.shown;
    kinds = r.kinds;
    offsets = r.offsets;
    leaf_numbers = (let most : leaf_count t ≤ 32 = f.leaf_numbers in let same : leaf_count new ≡ leaf_count t = v.leaf_count in omega arith);
    numbered = λ n leaf h. (let old : leaf.0 < leaf_count t = f.numbered n leaf
        (sym (v.leaf n) ∙ h) in let same : leaf_count new ≡ leaf_count t = v.leaf_count in omega arith);
    unlike = λ m n leaf h k. f.unlike m n leaf (sym (v.leaf m) ∙ h) (sym (v.leaf n) ∙ k);
  };
}

pub kept : (t new : Nodes) (leaves : List NodeId) → IsLeafTable t leaves → Follows t new → IsLeafTable new leaves
kept t new leaves k f = record {
  forest = f.forest;
  count = k.count ∙ sym f.values.leaf_count;
  places = λ i h. f.values.leaf (in_table leaves i) ∙ k.places i h;
}

-- one node is changed

pub changed_here : (t : Nodes) (n : NodeId) (change : Entry → Entry) → IsNode t n → node (changed n change t) n ≡ change (node t n)
changed_here t n change h = get_or-set_same t.entries n.0 (change (node t n)) (new_entry kinds.H 0) h.within

pub changed_other : (t : Nodes) (n m : NodeId) (change : Entry → Entry) → (m.0 == n.0) ≡ false → node (changed n change t) m ≡ node t m
changed_other t n m change h = get_or-set_other t.entries n.0 m.0 (change (node t n)) (new_entry kinds.H 0)
    (λ e. let test : (m.0 == n.0) ≡ true = grind (arith, nat_tests) in cc)

-- a part of the nodes that the change leaves as it is
pub changed_part : {X : Type 0} (part : Entry → X) (t : Nodes) (n m : NodeId) (change : Entry → Entry) → IsNode t n →
    part (change (node t n)) ≡ part (node t n) →
    part (node (changed n change t) m) ≡ part (node t m)
changed_part {X = X} part t n m change h same = by_id m n
    (λ e. subst (λ (k : NodeId). part (node (changed n change t) k) ≡ part (node t k)) (sym e) (ap part (changed_here t n change h) ∙ same))
    (λ ne. ap part (changed_other t n m change ne))

pub changed_count : (t : Nodes) (n : NodeId) (change : Entry → Entry) → length (changed n change t).entries ≡ length t.entries
changed_count t n change = length-set t.entries n.0 (change (node t n))

pub still_node : (t : Nodes) (n m : NodeId) (change : Entry → Entry) → IsNode t m → IsNode (changed n change t) m
still_node t n m change h = record {
  within = (let lt : m.0 < length t.entries = h.within in let same : length
      (set t.entries n.0 (change (node t n))) ≡ length t.entries = length-set t.entries n.0 (change (node t n)) in omega arith);
}

-- leaves are counted by their kinds

pub leaf_test : (k : NodeKind) → is_leaf k ≡ is_some (leaf_of k)
leaf_test (kinds.Leaf leaf shapes) = refl
leaf_test k = refl

pub same_leaf_test : (k l : NodeKind) → leaf_of k ≡ leaf_of l → is_leaf k ≡ is_leaf l
same_leaf_test k l h = leaf_test k ∙ ap is_some h ∙ sym (leaf_test l)

abbrev leaves_in : List Entry → ℕ
leaves_in es = length (filter (λ e. is_leaf e.kind) es)

leaves_step : (b : Bool) (e e' : Entry) (es es' : List Entry) → length es ≡ length es' → length (cond b (e ∷ es) es) ≡ length (cond b (e' ∷ es') es')
leaves_step true e e' es es' h = ap (λ k. suc k) h
leaves_step false e e' es es' h = h

leaves_set : (es : List Entry) (k : ℕ) (e d : Entry) → k < length es → is_leaf e.kind ≡ is_leaf (get_or es k d).kind → leaves_in (set es k e) ≡ leaves_in es
leaves_set [] k e d h same = absurd (omega arith)
leaves_set (x ∷ xs) zero e d h same =
    ap (λ b. length (cond b (e ∷ filter (λ e. is_leaf e.kind) xs) (filter (λ e. is_leaf e.kind) xs))) same
    ∙ leaves_step (is_leaf x.kind) e x (filter (λ e. is_leaf e.kind) xs) (filter (λ e. is_leaf e.kind) xs) refl
leaves_set (x ∷ xs) (suc k) e d h same =
    leaves_step (is_leaf x.kind) x x (filter (λ e. is_leaf e.kind) (set xs k e)) (filter (λ e. is_leaf e.kind) xs) (leaves_set xs k e d (omega arith) same)

pub keeps_changed : (t : Nodes) (n : NodeId) (change : Entry → Entry) → IsNode t n → leaf_of (change (node t n)).kind ≡ leaf_of (node t n).kind →
    KeepsValues t (changed n change t)
keeps_changed t n change h same = record {
  count = length-set t.entries n.0 (change (node t n));
  root = refl;
  leaf = λ m. changed_part (λ e. leaf_of e.kind) t n m change h same;
  leaf_count = leaves_set t.entries n.0 (change (node t n)) (new_entry kinds.H 0) h.within (same_leaf_test (change (node t n)).kind (node t n).kind same);
}

pub ranges_changed : (t : Nodes) (n : NodeId) (change : Entry → Entry) → IsNode t n → HasRanges t → IsNodeKind (change (node t n)).kind →
    IsOffset farthest (change (node t n)).at →
    HasRanges (changed n change t)
ranges_changed t n change h r kind at = record {
  kinds = λ m. by_id m n
      (λ e. subst (λ (k : NodeId). IsNodeKind (node (changed n change t) k).kind) (sym e)
      (subst (λ (x : Entry). IsNodeKind x.kind) (sym (changed_here t n change h)) kind))
      (λ ne. subst (λ (x : Entry). IsNodeKind x.kind) (sym (changed_other t n m change ne)) (r.kinds m));
  offsets = λ m. by_id m n
      (λ e. subst (λ (k : NodeId). IsOffset farthest (node (changed n change t) k).at) (sym e)
      (subst (λ (x : Entry). IsOffset farthest x.at) (sym (changed_here t n change h)) at))
      (λ ne. subst (λ (x : Entry). IsOffset farthest x.at) (sym (changed_other t n m change ne)) (r.offsets m));
}

-- the same links

-- depths are told by parents alone
pub depth_equal : (f : ℕ) (t new : Nodes) → ((n : NodeId) → (node new n).parent ≡ (node t n).parent) → (n : NodeId) →
    depth_within f new n ≡ depth_within f t n
depth_equal zero t new h n = depth_zero new n ∙ sym (depth_zero t n)
depth_equal (suc f) t new h n =
    depth_suc f new n ∙ ap (λ o. deeper o (depth_within f new)) (h n)
    ∙ deeper_same (node t n).parent (depth_within f new) (depth_within f t) (λ p is. depth_equal f t new h p) ∙ sym (depth_suc f t n)

-- a node that has the same parent and children as another, and is the same leaf
pub record IsLike (old new : Entry) : Type 0 where
  pub parent : new.parent ≡ old.parent
  pub children : new.children ≡ old.children
  pub leaf : leaf_of new.kind ≡ leaf_of old.kind
  pub filter : is_filter new.kind ≡ is_filter old.kind
  pub kind : IsNodeKind new.kind
  pub offset : IsOffset farthest new.at
  pub shown : (child : NodeId) → shown_by new.kind ≡ Some child → is_among child old.children ≡ true

pub follows_like : (t : Nodes) (n : NodeId) (change : Entry → Entry) → IsForest t → IsNode t n → IsLike (node t n) (change (node t n)) →
    Follows t (changed n change t)
follows_like t n change f h like =
    let new : Nodes = changed n change t in
    let up : (m : NodeId) → (node new m).parent ≡ (node t m).parent = λ m. changed_part (λ e. e.parent) t n m change h like.parent in
    let down : (m : NodeId) → (node new m).children ≡ (node t m).children = λ m. changed_part (λ e. e.children) t n m change h like.children in
    follows t new f (keeps_changed t n change h like.leaf) (ranges_changed t n change h (ranges_of t f) like.kind like.offset) (record {
      parents = λ m p k. ap (is_among m) (down p) ∙ f.parents m p (sym (up m) ∙ k);
      children = λ m c k. up c ∙ f.children m c (sym (ap (is_among c) (down m)) ∙ k);
      once = λ m. subst (λ (cs : List NodeId). AllPairs (λ a b. a.0 ≢ b.0) cs) (sym (down m)) (f.once m);
      depths = λ m. subst (λ (k : ℕ). k ≤ levels) (sym (depth_equal 16 t new up m)) (f.depths m);
      top = λ m k. up m ∙ f.top m k;
      leaves = λ m k. down m ∙ f.leaves m (sym (changed_part (λ e. is_leaf e.kind) t n m change h
          (same_leaf_test (change (node t n)).kind (node t n).kind like.leaf)) ∙ k);
      filters = λ m k. subst (λ (cs : List NodeId). length cs ≤ 1) (sym (down m))
          (f.filters m (sym (changed_part (λ e. is_filter e.kind) t n m change h like.filter) ∙ k));
      shown = λ m c k. by_id m n
          (λ e.
          let here : shown_by (change (node t n)).kind ≡ Some c = sym (ap (λ (x : NodeId). shown_by (node new x).kind) e
          ∙ ap (λ (x : Entry). shown_by x.kind) (changed_here t n change h)) ∙ k in
          ap (is_among c) (down m) ∙ ap (λ (x : NodeId). is_among c (node t x).children) e ∙ like.shown c here)
          (λ ne. ap (is_among c) (down m) ∙ f.shown m c (sym (ap (λ (x : Entry). shown_by x.kind) (changed_other t n m change ne)) ∙ k));
    })
