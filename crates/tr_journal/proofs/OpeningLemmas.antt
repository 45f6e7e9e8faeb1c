-- One item more in an opening.
use Rattle.std.proofs.Common.{◌≡◌, ℕ, zero, suc, ◌+◌, ◌<◌, ◌≤◌, Bool, false, cond, ◌||◌, nat_lt, List, [], ◌∷◌, ◌++◌, Option, Some, None, is_some, is_none, filter, map, count_by, length, get_or, set, refl, ap, sym, subst, ◌∙◌, arith, length-append}
use Rattle.std.specs.Prelude.{slice_get, IsSome}
use Rattle.std.proofs.Math.Seq.{map-set_same}
use Rattle.std.proofs.lemmas.List.{append-nil, length-map, map-append, map-set, get_or-map}
use Rattle.std.proofs.lemmas.List.Sums.{fold-append, sum_by-set, count_by-le-length}
use Rattle.std.proofs.lemmas.List.Elements.{filter-append, filter_map-append, All-push}
use Rattle.std.proofs.lemmas.Option.{get_or_from_slice_get, slice_get_within}
use Rattle.tr_base.specs.Fonts.{empty_font}
use Rattle.tr_base.specs.declared.NodeId.{NodeId}
use Rattle.tr_base.specs.declared.LeafId.{LeafId}
use Rattle.tr_base.specs.declared.Shapes.{Shapes}
use Rattle.tr_base.specs.declared.Point.{Point}
use Rattle.tr_forest.specs.declared.NodeKind.{NodeKind}
use Rattle.tr_forest.specs.declared.NodeKind.TheVariants as kinds
use Rattle.tr_forest.specs.declared.Edit.TheVariants as edits
use Rattle.tr_forest.specs.declared.NodeFault.{NodeFault}
use Rattle.tr_forest.specs.declared.NodeFault.TheVariants as faults
use Rattle.tr_forest.specs.Nodes.{Entry, Nodes, IsNode, node, new_entry, is_leaf, leaf_count}
use Rattle.tr_forest.specs.Families.{levels, depth, height, is_under}
use Rattle.tr_forest.specs.Edits.{edited, changed, with_child, hung, hangs, is_root, is_occupied, refusal}
use Rattle.tr_forest.proofs.Keeping.{KeepsValues, keeps_changed, still_node}
use Rattle.tr_forest.proofs.Editing.{passed}
use Rattle.tr_tree.specs.Trees.{Seen}
use Rattle.tr_client.specs.declared.clients.Client.{Ghosts}
use Rattle.tr_journal.specs.declared.items.Item.{Item}
use Rattle.tr_journal.specs.declared.items.Item.TheVariants.{Leaf}
use Rattle.tr_journal.specs.Openings.{no_screen, with_node, tree_after, tree_of, font_after, font_of, content_in, contents_of}
use Rattle.tr_journal.specs.Kept.{leaf_places, IsTreeOfItems, loose_count}

pub tree_more : {C : Type 0} (items : List (Item C)) (item : Item C) → tree_of (items ++ item ∷ []) ≡ tree_after (tree_of items) item
tree_more items item = fold-append tree_after no_screen items (item ∷ [])

font_more : {C : Type 0} (items : List (Item C)) (item : Item C) → font_of (items ++ item ∷ []) ≡ font_after (font_of items) item
font_more items item = fold-append font_after empty_font items (item ∷ [])

places_leaf : {C : Type 0} (items : List (Item C)) (shapes : Shapes) (content : C) →
    leaf_places (items ++ Leaf shapes content ∷ []) ≡ leaf_places items ++ length items ∷ []
places_leaf [] shapes content = refl
places_leaf (Leaf s x ∷ items) shapes content =
    ap (λ (ps : List ℕ). 0 ∷ map suc ps) (places_leaf items shapes content)
    ∙ ap (λ (ps : List ℕ). 0 ∷ ps) (map-append suc (leaf_places items) (length items ∷ []))
places_leaf (x ∷ items) shapes content =
    ap (λ (ps : List ℕ). map suc ps) (places_leaf items shapes content) ∙ map-append suc (leaf_places items) (length items ∷ [])

places_other : {C : Type 0} (items : List (Item C)) (item : Item C) → content_in item ≡ None → leaf_places (items ++ item ∷ []) ≡ leaf_places items
places_other [] (Leaf shapes x) h = cc
places_other [] item h = refl
places_other (Leaf shapes x ∷ items) item h = ap (λ (ps : List ℕ). 0 ∷ map suc ps) (places_other items item h)
places_other (x ∷ items) item h = ap (λ (ps : List ℕ). map suc ps) (places_other items item h)

contents_leaf : {C : Type 0} (items : List (Item C)) (shapes : Shapes) (content : C) →
    contents_of (items ++ Leaf shapes content ∷ []) ≡ contents_of items ++ content ∷ []
contents_leaf items shapes content = filter_map-append content_in items (Leaf shapes content ∷ [])

contents_other : {C : Type 0} (items : List (Item C)) (item : Item C) → content_in item ≡ None → contents_of (items ++ item ∷ []) ≡ contents_of items
contents_other items item h = rw (filter_map-append content_in items (item ∷ []), h) (append-nil (contents_of items))

-- an item that is no leaf's
pub kept_other : {C M : Type 0} {client : Ghosts C M} {items : List (Item C)} {tree : Seen} {font : List (List ℕ)} {leaves : List ℕ}
    (item : Item C) → IsTreeOfItems client items tree font leaves → content_in item ≡ None →
    length (tree_after tree item).nodes.entries ≤ 256 → leaf_count (tree_after tree item).nodes ≡ leaf_count tree.nodes →
    IsTreeOfItems client (items ++ item ∷ []) (tree_after tree item) (font_after font item) leaves
kept_other {items = items} item kept none few same = record {
  tree_is = ap (λ t. tree_after t item) kept.tree_is ∙ sym (tree_more items item);
  font_is = ap (λ f. font_after f item) kept.font_is ∙ sym (font_more items item);
  leaves_are = kept.leaves_are ∙ sym (places_other items item none);
  nodes = few;
  contents = rw (contents_other items item none) kept.contents;
  numbers = ap length (contents_other items item none) ∙ kept.numbers ∙ sym same;
}

-- the tree with one leaf more
abbrev pub with_leaf : Shapes → Seen → Seen
with_leaf shapes t = with_node (kinds.Leaf (record { 0 = leaf_count t.nodes }) shapes) 0 t

-- an item that is a leaf's
pub kept_leaf : {C M : Type 0} {client : Ghosts C M} {items : List (Item C)} {tree : Seen} {font : List (List ℕ)} {leaves : List ℕ}
    (shapes : Shapes) (content : C) → IsTreeOfItems client items tree font leaves → client.valid content →
    length (with_leaf shapes tree).nodes.entries ≤ 256 → leaf_count (with_leaf shapes tree).nodes ≡ leaf_count tree.nodes + 1 →
    IsTreeOfItems client (items ++ Leaf shapes content ∷ []) (with_leaf shapes tree) font (leaves ++ length items ∷ [])
kept_leaf {client = client} {items = items} shapes content kept valid few more = record {
  tree_is = ap (with_leaf shapes) kept.tree_is ∙ sym (tree_more items (Leaf shapes content));
  font_is = kept.font_is ∙ sym (font_more items (Leaf shapes content));
  leaves_are = ap (λ ps. ps ++ length items ∷ []) kept.leaves_are ∙ sym (places_leaf items shapes content);
  nodes = few;
  contents = rw (contents_leaf items shapes content) (All-push client.valid (contents_of items) content kept.contents valid);
  numbers = ap length (contents_leaf items shapes content) ∙ length-append (contents_of items) (content ∷ [])
      ∙ ap (λ k. k + 1) kept.numbers ∙ sym more;
}

-- the item at this place is that of leaf k
pub record IsPlaced {C : Type 0} (items : List (Item C)) (k place : ℕ) : Type 0 where
  pub within : place < length items
  pub content : (x : Item C) → x ≡ get_or items place x → content_in x ≡ slice_get (contents_of items) k

placed_at : {C : Type 0} (items : List (Item C)) (k d : ℕ) → k < length (leaf_places items) → IsPlaced items k (get_or (leaf_places items) k d)
placed_at [] k d within = absurd (omega arith)
placed_at (Leaf shapes x ∷ items) zero d within = record { within = omega arith; content = λ y is. ap content_in is }
placed_at (Leaf shapes x ∷ items) (suc k) d within =
    let same : length (map suc (leaf_places items)) ≡ length (leaf_places items) = length-map (leaf_places items) suc in
    let inside : k < length (leaf_places items) = omega arith in
    let old = placed_at items k d inside in
    rw (get_or-map suc (leaf_places items) k d d inside) record { within = (let lt = old.within in omega arith); content = old.content }
placed_at (x ∷ items) k d within =
    let same : length (map suc (leaf_places items)) ≡ length (leaf_places items) = length-map (leaf_places items) suc in
    let inside : k < length (leaf_places items) = omega arith in
    let old = placed_at items k d inside in
    rw (get_or-map suc (leaf_places items) k d d inside) record { within = (let lt = old.within in omega arith); content = old.content }

length_places : {C : Type 0} (items : List (Item C)) → length (leaf_places items) ≡ length (contents_of items)
length_places [] = refl
length_places (Leaf shapes x ∷ items) = ap suc (length-map (leaf_places items) suc ∙ length_places items)
length_places (x ∷ items) = length-map (leaf_places items) suc ∙ length_places items

-- each leaf has a place
pub kept_count : {C M : Type 0} {client : Ghosts C M} {items : List (Item C)} {tree : Seen} {font : List (List ℕ)} {leaves : List ℕ} →
    IsTreeOfItems client items tree font leaves → length leaves ≡ length (contents_of items)
kept_count {items = items} kept = ap length kept.leaves_are ∙ length_places items

-- the place that is kept for a leaf is that of its item
pub placed : {C M : Type 0} {client : Ghosts C M} {items : List (Item C)} {tree : Seen} {font : List (List ℕ)} {leaves : List ℕ}
    (k place : ℕ) → IsTreeOfItems client items tree font leaves → k < length leaves → place ≡ get_or leaves k place → IsPlaced items k place
placed {items = items} k place kept within is =
    let at : get_or (leaf_places items) k place ≡ place = ap (λ ps. get_or ps k place) (sym kept.leaves_are) ∙ sym is in
    subst (λ (q : ℕ). IsPlaced items k q) at (placed_at items k place (rw (← kept.leaves_are) within))

-- each leaf's content is one
pub kept_valid : {C M : Type 0} {client : Ghosts C M} {items : List (Item C)} {tree : Seen} {font : List (List ℕ)} {leaves : List ℕ}
    (k : ℕ) (x : C) → IsTreeOfItems client items tree font leaves → slice_get (contents_of items) k ≡ Some x → client.valid x
kept_valid {client = client} {items = items} k x kept is =
    subst client.valid (get_or_from_slice_get (contents_of items) k x x is) (kept.contents k x (slice_get_within (contents_of items) k x is))

pub some_within : {A : Type 0} (xs : List A) (k : ℕ) → k < length xs → IsSome (slice_get xs k)
some_within [] k within = absurd (omega arith)
some_within (x ∷ xs) zero within = refl
some_within (x ∷ xs) (suc k) within = some_within xs k (omega arith)

no_parent : (o : Option NodeId) (b : Bool) → (is_some o || b) ≡ false → o ≡ None
no_parent None b h = refl
no_parent (Some x) b h = cc

-- who may be put has no parent
loose_child : (t : Nodes) (child parent : NodeId) (at : Point) → refusal t (edits.Attach child parent at) ≡ None → (node t child).parent ≡ None
loose_child t child parent at h =
    let deep : Option NodeFault = cond (nat_lt levels (depth t parent + height t child)) (Some faults.TooDeep) None in
    let placed : Option NodeFault = cond (hangs t child || is_root t child) (Some faults.Attached) deep in
    let full : Option NodeFault = cond (is_occupied t parent) (Some faults.Occupied) placed in
    let below : Option NodeFault = cond (is_under t child parent) (Some faults.Cycle) full in
    let a = passed (is_leaf (node t parent).kind) faults.WrongKind below h in
    let b = passed (is_under t child parent) faults.Cycle full a.1 in
    let c = passed (is_occupied t parent) faults.Occupied placed b.1 in
    let d = passed (hangs t child || is_root t child) faults.Attached deep c.1 in
    no_parent (node t child).parent (is_root t child) d.0

-- a Put changes neither how many nodes nor how many leaves there are
pub put_keeps : (t : Nodes) (child parent : NodeId) (at : Point) → IsNode t child → IsNode t parent → KeepsValues t (edited t (edits.Attach child parent at))
put_keeps t child parent at is up =
    let one : Nodes = changed parent (with_child child) t in
    let a : KeepsValues t one = keeps_changed t parent (with_child child) up refl in
    let b : KeepsValues one (edited t (edits.Attach child parent at)) =
    keeps_changed one child (hung parent at) (still_node t parent child (with_child child) is) refl in
    record { count = b.count ∙ a.count; root = b.root ∙ a.root; leaf = λ n. b.leaf n ∙ a.leaf n; leaf_count = b.leaf_count ∙ a.leaf_count }

pub node_leaves : (t : Seen) (kind : NodeKind) (tint : ℕ) → is_leaf kind ≡ false → leaf_count (with_node kind tint t).nodes ≡ leaf_count t.nodes
node_leaves t kind tint h =
    let p : Entry → Bool = λ e. is_leaf e.kind in
    ap length (filter-append p t.nodes.entries (new_entry kind tint ∷ []) ∙ rw h (append-nil (filter p t.nodes.entries)))

pub leaf_leaves : (t : Seen) (leaf : LeafId) (shapes : Shapes) → leaf_count (with_node (kinds.Leaf leaf shapes) 0 t).nodes ≡ leaf_count t.nodes + 1
leaf_leaves t leaf shapes =
    let p : Entry → Bool = λ e. is_leaf e.kind in
    let e : Entry = new_entry (kinds.Leaf leaf shapes) 0 in
    ap length (filter-append p t.nodes.entries (e ∷ [])) ∙ length-append (filter p t.nodes.entries) (e ∷ [])

count_hung : (os : List (Option NodeId)) (i : ℕ) (up : NodeId) (d : Option NodeId) → i < length os → get_or os i d ≡ None →
    count_by is_none (set os i (Some up)) + 1 ≡ count_by is_none os
count_hung os i up d within none =
    let e : count_by is_none (set os i (Some up)) + 1 ≡ count_by is_none os + 0 =
    rw none at (sum_by-set (λ (o : Option NodeId). cond (is_none o) 1 0) os i (Some up) d within) in
    omega arith

-- a Put takes the room of the node that it hangs
pub loose_put : (t : Nodes) (child parent : NodeId) (at : Point) → IsNode t child → refusal t (edits.Attach child parent at) ≡ None →
    loose_count (edited t (edits.Attach child parent at)) + 1 ≡ loose_count t
loose_put t child parent at is h =
    let up : Entry → Option NodeId = λ e. e.parent in
    let one : Nodes = changed parent (with_child child) t in
    let same : map up one.entries ≡ map up t.entries = map-set_same up t.entries parent.0 (with_child child (node t parent)) (new_entry kinds.H 0) refl in
    let all : map up (edited t (edits.Attach child parent at)).entries ≡ set (map up t.entries) child.0 (Some parent) =
    map-set up one.entries child.0 (hung parent at (node one child)) ∙ ap (λ os. set os child.0 (Some parent)) same in
    let lt : child.0 < length t.entries = is.within in
    let long : length (map up t.entries) ≡ length t.entries = length-map t.entries up in
    let within : child.0 < length (map up t.entries) = omega arith in
    let none : get_or (map up t.entries) child.0 None ≡ None =
    get_or-map up t.entries child.0 (new_entry kinds.H 0) None is.within ∙ loose_child t child parent at h in
    ap (λ os. count_by is_none os + 1) all ∙ count_hung (map up t.entries) child.0 parent None within none

-- at most 256 nodes have no parent
pub loose_few : (t : Nodes) → loose_count t ≤ length t.entries
loose_few t =
    let up : Entry → Option NodeId = λ e. e.parent in
    let a : count_by is_none (map up t.entries) ≤ length (map up t.entries) = count_by-le-length is_none (map up t.entries) in
    let b : length (map up t.entries) ≡ length t.entries = length-map t.entries up in
    omega arith
