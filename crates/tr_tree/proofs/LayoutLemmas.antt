-- What the tables of a tree keep, and which edits leave them right.
use Rattle.std.proofs.Common.{◌≡◌, ℕ, zero, suc, ◌+◌, ◌-◌, cond, [], ◌∷◌, ◌++◌, Option, Some, None, map, set, length, length-set, length-append, get_or, refl, sym, ap, subst, ◌∙◌}
use Rattle.std.proofs.lemmas.List.{get_or-set_same, get_or-set_other}
use Rattle.tr_base.specs.declared.NodeId.{NodeId}
use Rattle.tr_base.specs.declared.Size.{Size}
use Rattle.tr_base.specs.declared.Kind.{Kind}
use Rattle.tr_base.specs.Rects.{Edges, empty_rect, whole_of}
use Rattle.tr_forest.specs.declared.NodeKind.{NodeKind}
use Rattle.tr_forest.specs.declared.NodeKind.TheVariants as kinds
use Rattle.tr_forest.specs.declared.Edit.{Edit}
use Rattle.tr_forest.specs.declared.Edit.TheVariants as edits
use Rattle.tr_forest.specs.Nodes.{Nodes, Entry, IsNode, new_entry, node}
use Rattle.tr_forest.specs.Edits.{IsEdit, edited, is_root}
use Rattle.tr_forest.proofs.FamilyLemmas.{by_id}
use Rattle.tr_forest.proofs.Editing.{count_edited}
use Rattle.tr_forest.proofs.Keeping.{depth_equal}
use Rattle.tr_tree.specs.declared.layouts.Layout.{Layout}
use Rattle.tr_tree.specs.Trees.{Seen, size_after, kind_after, edited_tree}
use Rattle.tr_tree.specs.Wishes.{shape}
use Rattle.tr_tree.specs.Places.{index_of, places_of, child_places, place_below, domain, domain_within}
use Rattle.tr_tree.specs.Tables.{domain_in}
use Rattle.tr_tree.specs.Laying.{on_screen, laid, IsAt}
use Rattle.tr_tree.specs.Ready.{HavePlaces, HasShapes, IsLaidOut, HaveSamePlaces}
use Rattle.tr_tree.proofs.TopLemmas.{numbers_apart}
use Rattle.tr_tree.proofs.ShapeLemmas.{map_among, shapes_same}

-- nodes that differ at most in their tints
pub record AreAlike (t u : Nodes) : Type 0 where
  pub count : length u.entries ≡ length t.entries
  pub root : u.root ≡ t.root
  pub kinds : (n : NodeId) → (node u n).kind ≡ (node t n).kind
  pub ats : (n : NodeId) → (node u n).at ≡ (node t n).at
  pub parents : (n : NodeId) → (node u n).parent ≡ (node t n).parent
  pub children : (n : NodeId) → (node u n).children ≡ (node t n).children

pub alike_itself : (t : Nodes) → AreAlike t t
alike_itself t = record { count = refl; root = refl; kinds = λ n. refl; ats = λ n. refl; parents = λ n. refl; children = λ n. refl }

-- a part of the entries that a change of one of them leaves as it is
pub part_same : {X : Type 0} (f : Entry → X) (t : Nodes) (n : NodeId) (e : Entry) (m : NodeId) → IsNode t n → f e ≡ f (node t n) →
    f (get_or (set t.entries n.0 e) m.0 (new_entry kinds.H 0)) ≡ f (node t m)
part_same f t n e m inside same = by_id m n
    (λ is. subst (λ (k : NodeId). f (get_or (set t.entries n.0 e) k.0 (new_entry kinds.H 0)) ≡ f (node t k)) (sym is)
    (ap f (get_or-set_same t.entries n.0 e (new_entry kinds.H 0) inside.within) ∙ same))
    (λ other. ap f (get_or-set_other t.entries n.0 m.0 e (new_entry kinds.H 0) (numbers_apart m n other)))

-- a new tint
pub tinted_alike : (t : Nodes) (n : NodeId) (tint : ℕ) → IsNode t n → AreAlike t (edited t (edits.Tint n tint))
tinted_alike t n tint inside =
    let e : Entry = record (node t n) { tint = tint } in record {
      count = length-set t.entries n.0 e;
      root = refl;
      kinds = λ m. part_same (λ (x : Entry). x.kind) t n e m inside refl;
      ats = λ m. part_same (λ (x : Entry). x.at) t n e m inside refl;
      parents = λ m. part_same (λ (x : Entry). x.parent) t n e m inside refl;
      children = λ m. part_same (λ (x : Entry). x.children) t n e m inside refl;
    }

shapes_alike : (t u : Nodes) → AreAlike t u → (n : NodeId) → shape u n ≡ shape t n
shapes_alike t u alike n = shapes_same t u alike.kinds alike.children n

child_places_alike : (t u : Nodes) → AreAlike t u → (n : NodeId) (e : Edges) → child_places u n e ≡ child_places t n e
child_places_alike t u alike n e =
    ap (λ k. places_of k (node u n).children (map (λ c. (node u c).at) (node u n).children) (map (shape u) (node u n).children) e) (alike.kinds n)
    ∙ ap (λ cs. places_of (node t n).kind cs (map (λ c. (node u c).at) cs) (map (shape u) cs) e) (alike.children n)
    ∙ ap (λ ats. places_of (node t n).kind (node t n).children ats (map (shape u) (node t n).children) e)
    (map_among (node t n).children (λ c. (node u c).at) (λ c. (node t c).at) (λ c _. alike.ats c))
    ∙ ap (λ shapes. places_of (node t n).kind (node t n).children (map (λ c. (node t c).at) (node t n).children) shapes e)
    (map_among (node t n).children (shape u) (shape t) (λ c _. shapes_alike t u alike c))

-- a child lies at the same place below its parent, where that has the same domain
pub below_alike : (t u : Nodes) → AreAlike t u → (n : NodeId) (o : Option NodeId) {up down : NodeId → Edges} → ((p : NodeId) → o ≡ Some p → down p ≡ up p) →
    place_below u n o down ≡ place_below t n o up
below_alike t u alike n None h = refl
below_alike t u alike n (Some p) {up = up} h =
    ap (λ e. get_or (child_places u p e) (index_of n (node u p).children) empty_rect) (h p refl)
    ∙ ap (λ es. get_or es (index_of n (node u p).children) empty_rect) (child_places_alike t u alike p (up p))
    ∙ ap (λ cs. get_or (child_places t p (up p)) (index_of n cs) empty_rect) (alike.children p)

-- trees that differ at most in tints and in the kind of the screen have the same domains
pub domains_within_alike : (f : ℕ) (t u : Seen) → AreAlike t.nodes u.nodes → u.size ≡ t.size → (n : NodeId) → domain_within f u n ≡ domain_within f t n
unfolding domain_within
domains_within_alike zero t u alike size n = refl
domains_within_alike (suc f) t u alike size n =
    ap (λ (s : Size). cond (is_root u.nodes n) (whole_of s) (place_below u.nodes n (node u.nodes n).parent (domain_within f u))) size
    ∙ ap (λ e. cond (is_root u.nodes n) (whole_of t.size) e)
    (ap (λ o. place_below u.nodes n o (domain_within f u)) (alike.parents n)
    ∙ below_alike t.nodes u.nodes alike n (node t.nodes n).parent (λ p up. domains_within_alike f t u alike size p))
    ∙ ap (λ r. cond (is_root (record t.nodes { root = r }) n) (whole_of t.size) (place_below t.nodes n (node t.nodes n).parent (domain_within f t))) alike.root

-- the kind of the pixels doesn't matter
pub any_kind : (t : Nodes) (size : Size) (kind : Kind) (n : NodeId) → domain (laid t size) n ≡ domain (on_screen t size kind) n
any_kind t size kind n = domains_within_alike 16 (on_screen t size kind) (laid t size) (alike_itself t) refl n

pub laid_out_alike : (t u : Nodes) (size : Size) (l : Layout) → AreAlike t u → IsLaidOut t size l → IsLaidOut u size l
laid_out_alike t u size l alike laid = record {
  screen = laid.screen;
  places = subst (λ (k : ℕ). HavePlaces k l) (sym alike.count) laid.places;
  shapes = record { each = λ n. laid.shapes.each n ∙ sym (shapes_alike t u alike n) };
  domains = record {
    each = λ kind n.
        let before : Seen = record { nodes = t; size = size; kind = kind } in
        let after : Seen = record { nodes = u; size = size; kind = kind } in
        laid.domains.each kind n ∙ sym (domains_within_alike 16 before after alike refl n);
    small = laid.domains.small;
    at = λ n. subst (λ k. IsAt (k - 1) (domain_in l.domains.items n)) (sym (depth_equal 16 t u alike.parents n)) (laid.domains.at n);
  };
}

-- a new tint costs no layout
pub laid_out_tinted : (t u : Nodes) (edit : Edit) (n : NodeId) (tint : ℕ) (before after : Size) (l : Layout) → edit ≡ edits.Tint n tint → IsEdit t edit →
    u ≡ edited t edit → after ≡ size_after edit before → IsLaidOut t before l → IsLaidOut u after l
laid_out_tinted t u edit n tint before after l is fits new size laid =
    let inside : IsNode t n = subst (λ (e : Edit). IsEdit t e) is fits in
    let nodes : u ≡ edited t (edits.Tint n tint) = new ∙ ap (edited t) is in
    let same : after ≡ before = size ∙ ap (λ (e : Edit). size_after e before) is in
    subst (λ (w : Nodes). IsLaidOut w after l) (sym nodes) (subst (λ (s : Size). IsLaidOut (edited t (edits.Tint n tint)) s l) (sym same)
    (laid_out_alike t (edited t (edits.Tint n tint)) before l (tinted_alike t n tint inside) laid))

-- a new kind of the screen costs none either
pub laid_out_rescreened : (t u : Nodes) (edit : Edit) (kind : Kind) (before after : Size) (l : Layout) → edit ≡ edits.Rescreen kind →
    u ≡ edited t edit → after ≡ size_after edit before → IsLaidOut t before l → IsLaidOut u after l
laid_out_rescreened t u edit kind before after l is new size laid =
    subst (λ (w : Nodes). IsLaidOut w after l) (sym (new ∙ ap (edited t) is))
    (subst (λ (s : Size). IsLaidOut t s l) (sym (size ∙ ap (λ (e : Edit). size_after e before) is)) laid)

-- an edit leaves as many places
pub places_edited : (t u : Nodes) (edit : Edit) (l : Layout) → u ≡ edited t edit → HavePlaces (length t.entries) l → HavePlaces (length u.entries) l
places_edited t u edit l new places =
    subst (λ (k : ℕ). HavePlaces k l) (sym (ap (λ (w : Nodes). length w.entries) new ∙ count_edited t edit)) places

-- what is seen of an edited tree, and of its edit
pub seen_edited : (was seen : Seen) (nodes : Nodes) (size : Size) (kind : Kind) (edit : Edit) → was ≡ seen → nodes ≡ edited was.nodes edit →
    size ≡ size_after edit was.size → kind ≡ kind_after edit was.kind → on_screen nodes size kind ≡ edited_tree seen edit
seen_edited was seen nodes size kind edit same is_nodes is_size is_kind = rw (is_nodes, is_size, is_kind, ← same) refl

pub places_same : (a b : Layout) (count : ℕ) → HaveSamePlaces a b → HavePlaces count a → HavePlaces count b
places_same a b count same places = record {
  shapes = ap length same.shapes ∙ places.shapes;
  domains = ap length same.domains ∙ places.domains;
  room_shapes = ap length same.room_shapes ∙ places.room_shapes;
  room_places = ap length same.room_places ∙ places.room_places;
}

-- the shapes don't hang on the root
pub shapes_rooted : (t u : Nodes) (n : NodeId) (l : Layout) → u ≡ record t { root = Some n } → HasShapes t l → HasShapes u l
shapes_rooted t u n l is has = subst (λ (w : Nodes). HasShapes w l) (sym is)
    (record { each = λ m. has.each m ∙ sym (shapes_same t (record t { root = Some n }) (λ k. refl) (λ k. refl) m) })

-- there is one more node, and one more place
pub places_for_added : (t u : Nodes) (kind : NodeKind) (tint : ℕ) (before l : Layout) → u ≡ record t { entries = t.entries ++ new_entry kind tint ∷ [] } →
    ((count : ℕ) → HavePlaces count before → HavePlaces (count + 1) l) → HavePlaces (length t.entries) before → HavePlaces (length u.entries) l
places_for_added t u kind tint before l is more places =
    subst (λ (k : ℕ). HavePlaces k l)
    (sym (ap (λ (w : Nodes). length w.entries) is ∙ length-append t.entries (new_entry kind tint ∷ [])))
    (more (length t.entries) places)
