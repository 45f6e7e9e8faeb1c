-- Nodes that an edit leaves where they are.
use Rattle.std.proofs.Common.{◌≡◌, ℕ, zero, suc, ◌+◌, ◌-◌, ◌<◌, ◌≤◌, Bool, true, false, cond, not, ◌||◌, List, [], ◌∷◌, Option, Some, None, map, set, length, get_or, refl, sym, ap, subst, ◌∙◌, arith}
use Rattle.std.proofs.lemmas.Bool.{not-false}
use Rattle.std.proofs.lemmas.List.{get_or-set_same, get_or-set_other, get_or_default, get_or_read}
use Rattle.tr_base.specs.declared.Point.{Point}
use Rattle.tr_base.specs.declared.NodeId.{NodeId}
use Rattle.tr_base.specs.declared.Shapes.{Shapes}
use Rattle.tr_base.specs.declared.Size.{Size}
use Rattle.tr_base.specs.declared.Kind.TheVariants.{Mono}
use Rattle.tr_base.specs.Rects.{Edges, empty_rect, whole_of}
use Rattle.tr_base.specs.Layouts.{farthest, preferred_place, IsDomain, IsNear}
use Rattle.tr_stack.specs.Stacks.{z_places}
use Rattle.tr_forest.specs.declared.NodeKind.{NodeKind}
use Rattle.tr_forest.specs.declared.NodeKind.TheVariants as kinds
use Rattle.tr_forest.specs.declared.Edit.{Edit}
use Rattle.tr_forest.specs.declared.Edit.TheVariants as edits
use Rattle.tr_forest.specs.Nodes.{Nodes, Entry, IsNode, node, is_filter, is_z}
use Rattle.tr_forest.specs.Families.{is_among, is_under, depth, of_parent}
use Rattle.tr_forest.specs.Forests.{IsForest}
use Rattle.tr_forest.specs.Edits.{IsEdit, edited, is_root, refusal, changed, lifting, turned_to, at_parent, hangs_outside_z}
use Rattle.tr_forest.proofs.FamilyLemmas.{by_id, test_same, same_id, test_apart, among_at, child_is_node, parent_is_node, depth_child, depth_some, under_itself, under_deeper}
use Rattle.tr_forest.proofs.Keeping.{changed_here, changed_part, changed_other, depth_equal}
use Rattle.tr_forest.proofs.Editing.{follows_edited}
use Rattle.tr_tree.specs.declared.layouts.Layout.{Layout}
use Rattle.tr_tree.specs.Trees.{Seen, size_after}
use Rattle.tr_tree.specs.Wishes.{shape, no_shapes}
use Rattle.tr_tree.specs.Places.{index_of, places_of, child_places, place_below, domain, domain_within}
use Rattle.tr_tree.specs.Tables.{shape_in, domain_in}
use Rattle.tr_tree.specs.Laying.{laid, on_screen, IsAt, IsRectangle, HasDomain, Lays}
use Rattle.tr_tree.specs.Ready.{HavePlaces, HasShapes, HasDomains, IsLaidOut, HasOtherDomains, IsPlacedAt}
use Rattle.tr_tree.proofs.ShapeLemmas.{map_among}
use Rattle.tr_tree.proofs.LayoutLemmas.{any_kind, places_edited}
use Rattle.tr_tree.proofs.DomainLemmas.{domain_below, off_apart, off_parent}
use Rattle.tr_tree.proofs.KinLemmas.{StandsIn, place_among}
use Rattle.tr_tree.proofs.FitLemmas.{at_child, at_is_domain, at_more, fits_near, own_preferred}
use Rattle.tr_tree.proofs.KeepLemmas.{first_passed}

-- ---- where a child is placed

-- the place of a child of a Z hangs on its own offset and shapes alone
z_at : (e : Edges) (at : NodeId → Point) (s : NodeId → Shapes) (n : NodeId) (cs : List NodeId) → is_among n cs ≡ true →
    get_or (z_places e (map at cs) (map s cs)) (index_of n cs) empty_rect ≡ preferred_place e (at n) (s n)
z_at e at s n [] h = absurd cc
z_at e at s n (c ∷ cs) h = by_id c n
    (λ same. rw (test_same c n same) (ap (λ (m : NodeId). preferred_place e (at m) (s m)) same))
    (λ other. rw other (z_at e at s n cs (sym (ap (λ t. t || is_among n cs) other) ∙ h)))

pub z_child : (t : Nodes) (p n : NodeId) (e : Edges) → (node t p).kind ≡ kinds.Z → is_among n (node t p).children ≡ true →
    get_or (child_places t p e) (index_of n (node t p).children) empty_rect ≡ preferred_place e (node t n).at (shape t n)
z_child t p n e z among =
    ap (λ k. get_or (places_of k (node t p).children (map (λ c. (node t c).at) (node t p).children) (map (shape t) (node t p).children) e)
    (index_of n (node t p).children) empty_rect) z
    ∙ z_at e (λ c. (node t c).at) (shape t) n (node t p).children among

z_is : (k : NodeKind) → is_z k ≡ true → k ≡ kinds.Z
z_is kinds.Z h = refl
z_is k h = cc

-- no other node looks at its children's offsets
ats_ignored : (k : NodeKind) (cs : List NodeId) (ats others : List Point) (shapes : List Shapes) (e : Edges) → is_z k ≡ false →
    places_of k cs ats shapes e ≡ places_of k cs others shapes e
ats_ignored kinds.Z cs ats others shapes e h = cc
ats_ignored k cs ats others shapes e h = refl

-- a child has the same place if its own offset is the same, and if a parent that is no Z has the same children
same_place : (t u : Nodes) → IsForest t → IsForest u → ((m : NodeId) → shape u m ≡ shape t m) → (n p : NodeId) (e : Edges) →
    (node u p).kind ≡ (node t p).kind → (node t n).parent ≡ Some p → (node u n).parent ≡ Some p → (node u n).at ≡ (node t n).at →
    (is_z (node t p).kind ≡ false → (node u p).children ≡ (node t p).children) →
    get_or (child_places u p e) (index_of n (node u p).children) empty_rect ≡ get_or (child_places t p e) (index_of n (node t p).children) empty_rect
same_place t u forest new shapes n p e kind up down at children = by_test (is_z (node t p).kind) refl
  where
    by_test : (b : Bool) → is_z (node t p).kind ≡ b →
        get_or (child_places u p e) (index_of n (node u p).children) empty_rect ≡ get_or (child_places t p e) (index_of n (node t p).children) empty_rect
    by_test true z =
        let is : (node t p).kind ≡ kinds.Z = z_is (node t p).kind z in
        z_child u p n e (kind ∙ is) (new.parents n p down)
        ∙ ap (λ (q : Point). preferred_place e q (shape u n)) at
        ∙ ap (preferred_place e (node t n).at) (shapes n)
        ∙ sym (z_child t p n e is (forest.parents n p up))
    by_test false z =
        let cs : List NodeId = (node t p).children in
        ap (λ k. get_or (places_of k (node u p).children (map (λ c. (node u c).at) (node u p).children) (map (shape u) (node u p).children) e)
        (index_of n (node u p).children) empty_rect) kind
        ∙ ap (λ l. get_or (places_of (node t p).kind l (map (λ c. (node u c).at) l) (map (shape u) l) e) (index_of n l) empty_rect) (children z)
        ∙ ap (λ es. get_or es (index_of n cs) empty_rect)
        (ats_ignored (node t p).kind cs (map (λ c. (node u c).at) cs) (map (λ c. (node t c).at) cs) (map (shape u) cs) e z)
        ∙ ap (λ ss. get_or (places_of (node t p).kind cs (map (λ c. (node t c).at) cs) ss e) (index_of n cs) empty_rect)
        (map_among cs (shape u) (shape t) (λ c _. shapes c))

-- ---- nodes that stay

-- Each of these nodes has the parent that it had, among them, and the place below it that it had.
pub record StayPlaced (t u : Nodes) (stays : NodeId → Bool) : Type 0 where
  pub root : u.root ≡ t.root
  pub parents : (n : NodeId) → (node u n).parent ≡ (node t n).parent
  pub above : (n p : NodeId) → stays n ≡ true → (node t n).parent ≡ Some p → stays p ≡ true
  pub places : (n p : NodeId) (e : Edges) → stays n ≡ true → (node t n).parent ≡ Some p →
      get_or (child_places u p e) (index_of n (node u p).children) empty_rect ≡ get_or (child_places t p e) (index_of n (node t p).children) empty_rect

below_stays : (t u : Nodes) (n : NodeId) (o : Option NodeId) {up down : NodeId → Edges} → ((p : NodeId) → o ≡ Some p → down p ≡ up p) →
    ((p : NodeId) (e : Edges) → o ≡ Some p → get_or (child_places u p e) (index_of n (node u p).children) empty_rect
    ≡ get_or (child_places t p e) (index_of n (node t p).children) empty_rect) →
    place_below u n o down ≡ place_below t n o up
below_stays t u n None h k = refl
below_stays t u n (Some p) {up = up} h k =
    ap (λ e. get_or (child_places u p e) (index_of n (node u p).children) empty_rect) (h p refl) ∙ k p (up p) refl

-- they have the domains that they had
pub stay_within : (f : ℕ) (t u : Seen) (stays : NodeId → Bool) → StayPlaced t.nodes u.nodes stays → u.size ≡ t.size → (n : NodeId) → stays n ≡ true →
    domain_within f u n ≡ domain_within f t n
unfolding domain_within
stay_within zero t u stays placed size n h = refl
stay_within (suc f) t u stays placed size n h =
    ap (λ (s : Size). cond (is_root u.nodes n) (whole_of s) (place_below u.nodes n (node u.nodes n).parent (domain_within f u))) size
    ∙ ap (λ e. cond (is_root u.nodes n) (whole_of t.size) e)
    (ap (λ o. place_below u.nodes n o (domain_within f u)) (placed.parents n)
    ∙ below_stays t.nodes u.nodes n (node t.nodes n).parent
    (λ p up. stay_within f t u stays placed size p (placed.above n p h up)) (λ p e up. placed.places n p e h up))
    ∙ ap (λ r. cond (is_root (record t.nodes { root = r }) n) (whole_of t.size) (place_below t.nodes n (node t.nodes n).parent (domain_within f t)))
    placed.root

same_shapes : (t u : Nodes) (l : Layout) → HasShapes t l → HasShapes u l → (n : NodeId) → shape u n ≡ shape t n
same_shapes t u l was is n = sym (is.each n) ∙ was.each n

-- ---- a lifted child

pub lifted_stays : (t : Nodes) (child parent : NodeId) → IsForest t → IsForest (changed parent (lifting child) t) → IsNode t parent →
    is_z (node t parent).kind ≡ true → ((m : NodeId) → shape (changed parent (lifting child) t) m ≡ shape t m) →
    StayPlaced t (changed parent (lifting child) t) (λ _. true)
lifted_stays t child parent forest new inside z shapes = record {
  root = refl;
  parents = λ n. changed_part (λ (x : Entry). x.parent) t parent n (lifting child) inside refl;
  above = λ n p h up. refl;
  places = λ n p e h up.
      same_place t (changed parent (lifting child) t) forest new shapes n p e
      (changed_part (λ (x : Entry). x.kind) t parent p (lifting child) inside refl) up
      (changed_part (λ (x : Entry). x.parent) t parent n (lifting child) inside refl ∙ up)
      (changed_part (λ (x : Entry). x.at) t parent n (lifting child) inside refl)
      (λ no. by_id p parent
      (λ is. let yes : is_z (node t p).kind ≡ true = ap (λ (k : NodeId). is_z (node t k).kind) is ∙ z in absurd cc)
      (λ other. ap (λ (x : Entry). x.children) (changed_other t parent p (lifting child) other)));
}

-- the tables are right as they are
stays_laid : (t u : Nodes) (size : Size) (l : Layout) → StayPlaced t u (λ _. true) → HavePlaces (length u.entries) l → HasShapes u l →
    IsLaidOut t size l → IsLaidOut u size l
stays_laid t u size l stay places shapes is = record {
  screen = is.screen;
  places = places;
  shapes = shapes;
  domains = record {
    each = λ kind n. is.domains.each kind n ∙ sym (stay_within 16 (on_screen t size kind) (on_screen u size kind) (λ _. true) stay refl n refl);
    small = is.domains.small;
    at = λ n. subst (λ k. IsAt (k - 1) (domain_in l.domains.items n)) (sym (depth_equal 16 t u stay.parents n)) (is.domains.at n);
  };
}

lifted_laid : (t : Nodes) (child : NodeId) (size : Size) (l : Layout) (o : Option NodeId) → IsForest t → (node t child).parent ≡ o →
    IsForest (at_parent o (λ parent. changed parent (lifting child)) t) → of_parent o (λ parent. not (is_z (node t parent).kind)) ≡ false →
    HavePlaces (length (at_parent o (λ parent. changed parent (lifting child)) t).entries) l →
    HasShapes (at_parent o (λ parent. changed parent (lifting child)) t) l → IsLaidOut t size l →
    IsLaidOut (at_parent o (λ parent. changed parent (lifting child)) t) size l
lifted_laid t child size l None forest up new z places shapes is = is
lifted_laid t child size l (Some p) forest up new z places shapes is =
    let u : Nodes = changed p (lifting child) t in
    stays_laid t u size l
    (lifted_stays t child p forest new (parent_is_node t child p forest up) (not-false (is_z (node t p).kind) z) (same_shapes t u l is.shapes shapes))
    places shapes is

-- a lift costs no layout
pub laid_out_lifted : (t u : Nodes) (edit : Edit) (child : NodeId) (before after : Size) (l : Layout) → edit ≡ edits.Lift child → IsForest t → IsEdit t edit →
    refusal t edit ≡ None → u ≡ edited t edit → after ≡ size_after edit before → HasShapes u l → IsLaidOut t before l → IsLaidOut u after l
laid_out_lifted t u edit child before after l is forest fits allowed new size shapes laid =
    let fits_lift : IsEdit t (edits.Lift child) = subst (IsEdit t) is fits in
    let allowed_lift : refusal t (edits.Lift child) ≡ None = sym (ap (refusal t) is) ∙ allowed in
    let nodes : u ≡ edited t (edits.Lift child) = new ∙ ap (edited t) is in
    let same : after ≡ before = size ∙ ap (λ (e : Edit). size_after e before) is in
    subst (λ (w : Nodes). IsLaidOut w after l) (sym nodes) (subst (λ (s : Size). IsLaidOut (edited t (edits.Lift child)) s l) (sym same)
    (lifted_laid t child before l (node t child).parent forest refl (follows_edited t (edits.Lift child) forest fits_lift allowed_lift).forest
    (first_passed _ _ _ allowed_lift) (places_edited t (edited t (edits.Lift child)) (edits.Lift child) l refl laid.places)
    (subst (λ (w : Nodes). HasShapes w l) nodes shapes) laid))

-- ---- a child that has another offset

-- the nodes that aren't below it stay
pub moved_stays : (t : Nodes) (child : NodeId) (at : Point) → IsForest t → IsForest (edited t (edits.Move child at)) → IsNode t child →
    ((m : NodeId) → shape (edited t (edits.Move child at)) m ≡ shape t m) →
    StayPlaced t (edited t (edits.Move child at)) (λ n. not (is_under (edited t (edits.Move child at)) child n))
moved_stays t child at forest new inside shapes = record {
  root = refl;
  parents = λ n. up_same n;
  above = λ n p h up. off_parent (edited t (edits.Move child at)) new child n p h (up_same n ∙ up);
  places = λ n p e h up.
      same_place t (edited t (edits.Move child at)) forest new shapes n p e
      (changed_part (λ (x : Entry). x.kind) t child p (λ x. record x { at = at }) inside refl) up (up_same n ∙ up)
      (ap (λ (x : Entry). x.at) (changed_other t child n (λ x. record x { at = at }) (off_apart (edited t (edits.Move child at)) new child n h)))
      (λ no. changed_part (λ (x : Entry). x.children) t child p (λ x. record x { at = at }) inside refl);
}
  where
    up_same : (n : NodeId) → (node (edited t (edits.Move child at)) n).parent ≡ (node t n).parent
    up_same n = changed_part (λ (x : Entry). x.parent) t child n (λ x. record x { at = at }) inside refl

stays_others : (t u : Nodes) (size : Size) (child : NodeId) (l : Layout) → StayPlaced t u (λ n. not (is_under u child n)) → IsLaidOut t size l →
    HasOtherDomains u size child l
stays_others t u size child l stay is = record { each = λ m h. one m (ap not h) }
  where
    one : (m : NodeId) → not (is_under u child m) ≡ true → HasDomain (laid u size) m l.domains.items
    one m h =
        let right : domain_in l.domains.items m ≡ domain (laid u size) m = is.domains.each Mono m
        ∙ sym (stay_within 16 (laid t size) (laid u size) (λ n. not (is_under u child n)) stay refl m h) in
        record {
          right = right;
          at = subst (IsAt (depth u m - 1)) right
              (subst (λ k. IsAt (k - 1) (domain_in l.domains.items m)) (sym (depth_equal 16 t u stay.parents m)) (is.domains.at m));
        }

pub moved_others : (t u : Nodes) (edit : Edit) (child : NodeId) (at : Point) (before after : Size) (l : Layout) → edit ≡ edits.Move child at → IsForest t →
    IsEdit t edit → refusal t edit ≡ None → u ≡ edited t edit → after ≡ size_after edit before → HasShapes u l → IsLaidOut t before l →
    HasOtherDomains u after child l
moved_others t u edit child at before after l is forest fits allowed new size shapes laid_out =
    let move : Edit = edits.Move child at in
    let fits_move : IsEdit t (edits.Move child at) = subst (IsEdit t) is fits in
    let allowed_move : refusal t (edits.Move child at) ≡ None = sym (ap (refusal t) is) ∙ allowed in
    let nodes : u ≡ edited t (edits.Move child at) = new ∙ ap (edited t) is in
    let same : after ≡ before = size ∙ ap (λ (e : Edit). size_after e before) is in
    subst (λ (w : Nodes). HasOtherDomains w after child l) (sym nodes)
    (subst (λ (s : Size). HasOtherDomains (edited t (edits.Move child at)) s child l) (sym same)
    (stays_others t (edited t (edits.Move child at)) before child l
    (moved_stays t child at forest (follows_edited t (edits.Move child at) forest fits_move allowed_move).forest fits_move.0
    (same_shapes t (edited t (edits.Move child at)) l laid_out.shapes (subst (λ (w : Nodes). HasShapes w l) nodes shapes)))
    laid_out))

-- the nodes after such an edit, whose parent of the child is a Z: else the edit would be refused
pub moved_kind : (t : Nodes) (child : NodeId) (at : Point) (p : NodeId) → IsNode t child → hangs_outside_z t child ≡ false →
    (node (edited t (edits.Move child at)) child).parent ≡ Some p → (node (edited t (edits.Move child at)) p).kind ≡ kinds.Z
moved_kind t child at p inside z up =
    let before : (node t child).parent ≡ Some p =
    sym (changed_part (λ (x : Entry). x.parent) t child child (λ x. record x { at = at }) inside refl) ∙ up in
    let test : not (is_z (node t p).kind) ≡ false =
    sym (ap (λ (o : Option NodeId). of_parent o (λ parent. not (is_z (node t parent).kind))) before) ∙ z in
    changed_part (λ (x : Entry). x.kind) t child p (λ x. record x { at = at }) inside refl
    ∙ z_is (node t p).kind (not-false (is_z (node t p).kind) test)

-- the child is placed at its new offset
pub moved_placed : (t u : Nodes) (edit : Edit) (child : NodeId) (at : Point) → edit ≡ edits.Move child at → IsForest t → IsEdit t edit →
    refusal t edit ≡ None → u ≡ edited t edit → IsPlacedAt u child at
moved_placed t u edit child at is forest fits allowed new =
    let w : Nodes = edited t (edits.Move child at) in
    let fits_move : IsEdit t (edits.Move child at) = subst (IsEdit t) is fits in
    let allowed_move : refusal t (edits.Move child at) ≡ None = sym (ap (refusal t) is) ∙ allowed in
    let nodes : u ≡ edited t (edits.Move child at) = new ∙ ap (edited t) is in
    let after : IsForest w = (follows_edited t (edits.Move child at) forest fits_move allowed_move).forest in
    let here : (node w child).at ≡ at = ap (λ (x : Entry). x.at) (changed_here t child (λ x. record x { at = at }) fits_move.0) in
    subst (λ (v : Nodes). IsPlacedAt v child at) (sym nodes) (record {
      place = λ p e up.
          z_child w p child e (moved_kind t child at p fits_move.0 (first_passed _ _ _ allowed_move) up) (after.parents child p up)
          ∙ ap (λ (q : Point). preferred_place e q (shape w child)) here;
    })

-- ---- the child of a node that moves it by another offset

-- the nodes that aren't children of this one stay, if their parents do
offset_stays : (t : Nodes) (n : NodeId) (by : Point) (stays : NodeId → Bool) → IsForest t → IsForest (edited t (edits.Offset n by)) → IsNode t n →
    ((m : NodeId) → shape (edited t (edits.Offset n by)) m ≡ shape t m) →
    ((m p : NodeId) → stays m ≡ true → (node t m).parent ≡ Some p → stays p ≡ true) →
    ((m : NodeId) → stays m ≡ true → (node t m).parent ≡ Some n → ⊥) → StayPlaced t (edited t (edits.Offset n by)) stays
offset_stays t n by stays forest new inside shapes above off = record {
  root = refl;
  parents = λ m. up_same m;
  above = above;
  places = λ m p e h up. by_id p n
      (λ is. absurd (off m h (up ∙ ap (λ (k : NodeId). Some k) is)))
      (λ other.
      same_place t (edited t (edits.Offset n by)) forest new shapes m p e
      (ap (λ (x : Entry). x.kind) (changed_other t n p (turned_to (kinds.Translate by)) other)) up (up_same m ∙ up)
      (changed_part (λ (x : Entry). x.at) t n m (turned_to (kinds.Translate by)) inside refl)
      (λ no. ap (λ (x : Entry). x.children) (changed_other t n p (turned_to (kinds.Translate by)) other)));
}
  where
    up_same : (m : NodeId) → (node (edited t (edits.Offset n by)) m).parent ≡ (node t m).parent
    up_same m = changed_part (λ (x : Entry). x.parent) t n m (turned_to (kinds.Translate by)) inside refl

-- a child of this node is among its children, as they are after the edit
offset_among : (t : Nodes) (n m : NodeId) (by : Point) (cs : List NodeId) → IsForest (edited t (edits.Offset n by)) → IsNode t n →
    cs ≡ (node (edited t (edits.Offset n by)) n).children → (node t m).parent ≡ Some n → is_among m cs ≡ true
offset_among t n m by cs new inside children up =
    ap (is_among m) children
    ∙ new.parents m n (changed_part (λ (x : Entry). x.parent) t n m (turned_to (kinds.Translate by)) inside refl ∙ up)

only_child : (cs : List NodeId) (d m : NodeId) → length cs ≤ 1 → 0 < length cs → is_among m cs ≡ true → m ≡ get_or cs 0 d
only_child cs d m few some h =
    let at : StandsIn m cs = place_among m cs h in
    let first : at.place ≡ 0 = omega (arith, at.within) in
    sym at.is ∙ ap (λ (k : ℕ). get_or cs k m) first ∙ get_or_default cs 0 m d some

-- the nodes that aren't below its child stay
offset_off : (t : Nodes) (n : NodeId) (by : Point) (cs : List NodeId) (d : NodeId) → IsForest t → IsForest (edited t (edits.Offset n by)) → IsNode t n →
    ((m : NodeId) → shape (edited t (edits.Offset n by)) m ≡ shape t m) → cs ≡ (node (edited t (edits.Offset n by)) n).children → 0 < length cs →
    StayPlaced t (edited t (edits.Offset n by)) (λ m. not (is_under (edited t (edits.Offset n by)) (get_or cs 0 d) m))
offset_off t n by cs d forest new inside shapes children some =
    offset_stays t n by (λ m. not (is_under (edited t (edits.Offset n by)) (get_or cs 0 d) m)) forest new inside shapes
    (λ m p h up. off_parent (edited t (edits.Offset n by)) new (get_or cs 0 d) m p h
    (changed_part (λ (x : Entry). x.parent) t n m (turned_to (kinds.Translate by)) inside refl ∙ up))
    below
  where
    few : length cs ≤ 1
    few =
        let kind : (node (edited t (edits.Offset n by)) n).kind ≡ kinds.Translate by =
        ap (λ (x : Entry). x.kind) (changed_here t n (turned_to (kinds.Translate by)) inside) in
        let most : length (node (edited t (edits.Offset n by)) n).children ≤ 1 = new.filters n (ap is_filter kind) in
        omega (arith, most, ap length children)

    below : (m : NodeId) → not (is_under (edited t (edits.Offset n by)) (get_or cs 0 d) m) ≡ true → (node t m).parent ≡ Some n → ⊥
    below m h up =
        let same : m ≡ get_or cs 0 d = only_child cs d m few some (offset_among t n m by cs new inside children up) in
        let clash : false ≡ true = sym (ap not (under_itself 16 (edited t (edits.Offset n by)) (get_or cs 0 d) m same)) ∙ h in
        cc

pub offset_others : (t u : Nodes) (edit : Edit) (n : NodeId) (by : Point) (cs : List NodeId) (d : NodeId) (before after : Size) (l : Layout) →
    edit ≡ edits.Offset n by → IsForest t → IsEdit t edit → refusal t edit ≡ None → u ≡ edited t edit → after ≡ size_after edit before →
    cs ≡ (node u n).children → 0 < length cs → HasShapes u l → IsLaidOut t before l → HasOtherDomains u after (get_or cs 0 d) l
offset_others t u edit n by cs d before after l is forest fits allowed new size children some shapes laid_out =
    let w : Nodes = edited t (edits.Offset n by) in
    let fits_offset : IsEdit t (edits.Offset n by) = subst (IsEdit t) is fits in
    let allowed_offset : refusal t (edits.Offset n by) ≡ None = sym (ap (refusal t) is) ∙ allowed in
    let nodes : u ≡ edited t (edits.Offset n by) = new ∙ ap (edited t) is in
    let same : after ≡ before = size ∙ ap (λ (e : Edit). size_after e before) is in
    subst (λ (v : Nodes). HasOtherDomains v after (get_or cs 0 d) l) (sym nodes)
    (subst (λ (s : Size). HasOtherDomains w s (get_or cs 0 d) l) (sym same)
    (stays_others t w before (get_or cs 0 d) l
    (offset_off t n by cs d forest (follows_edited t (edits.Offset n by) forest fits_offset allowed_offset).forest fits_offset.0
    (same_shapes t w l laid_out.shapes (subst (λ (v : Nodes). HasShapes v l) nodes shapes))
    (children ∙ ap (λ (v : Nodes). (node v n).children) nodes) some)
    laid_out))

-- its child is a node
pub offset_child : (t u : Nodes) (edit : Edit) (cs : List NodeId) (d n : NodeId) → IsForest t → IsEdit t edit → refusal t edit ≡ None →
    u ≡ edited t edit → cs ≡ (node u n).children → 0 < length cs → IsNode u (get_or cs 0 d)
offset_child t u edit cs d n forest fits allowed new children some =
    let after : IsForest u = subst IsForest (sym new) (follows_edited t edit forest fits allowed).forest in
    child_is_node u n (get_or cs 0 d) after (sym (ap (is_among (get_or cs 0 d)) children) ∙ among_at cs 0 d some)

-- without a child the tables are right as they are
pub offset_laid : (t u : Nodes) (edit : Edit) (n : NodeId) (by : Point) (cs : List NodeId) (before after : Size) (l : Layout) →
    edit ≡ edits.Offset n by → IsForest t → IsEdit t edit → refusal t edit ≡ None → u ≡ edited t edit → after ≡ size_after edit before →
    cs ≡ (node u n).children → length cs ≤ 0 → HasShapes u l → IsLaidOut t before l → IsLaidOut u after l
offset_laid t u edit n by cs before after l is forest fits allowed new size children none shapes laid =
    let w : Nodes = edited t (edits.Offset n by) in
    let fits_offset : IsEdit t (edits.Offset n by) = subst (IsEdit t) is fits in
    let allowed_offset : refusal t (edits.Offset n by) ≡ None = sym (ap (refusal t) is) ∙ allowed in
    let nodes : u ≡ edited t (edits.Offset n by) = new ∙ ap (edited t) is in
    let same : after ≡ before = size ∙ ap (λ (e : Edit). size_after e before) is in
    let after_offset : IsForest w = (follows_edited t (edits.Offset n by) forest fits_offset allowed_offset).forest in
    let has : HasShapes w l = subst (λ (v : Nodes). HasShapes v l) nodes shapes in
    let own : cs ≡ (node w n).children = children ∙ ap (λ (v : Nodes). (node v n).children) nodes in
    subst (λ (v : Nodes). IsLaidOut v after l) (sym nodes) (subst (λ (s : Size). IsLaidOut w s l) (sym same)
    (stays_laid t w before l
    (offset_stays t n by (λ _. true) forest after_offset fits_offset.0 (same_shapes t w l laid.shapes has) (λ m p h up. refl)
    (λ m h up.
    let at : StandsIn m cs = place_among m cs (offset_among t n m by cs after_offset fits_offset.0 own up) in
    absurd (omega (arith, at.within, none))))
    (places_edited t w (edits.Offset n by) l refl laid.places) has laid))

translated_at : (e : Edges) (by : Point) (s : NodeId → Shapes) (n : NodeId) (cs : List NodeId) → is_among n cs ≡ true →
    get_or (map (preferred_place e by) (map s cs)) (index_of n cs) empty_rect ≡ preferred_place e by (s n)
translated_at e by s n [] h = absurd cc
translated_at e by s n (c ∷ cs) h = by_id c n
    (λ same. rw (test_same c n same) (ap (λ (m : NodeId). preferred_place e by (s m)) same))
    (λ other. rw other (translated_at e by s n cs (sym (ap (λ t. t || is_among n cs) other) ∙ h)))

placed_by : (u : Nodes) → IsForest u → (n child : NodeId) (by : Point) → (node u n).kind ≡ kinds.Translate by →
    is_among child (node u n).children ≡ true → IsPlacedAt u child by
placed_by u forest n child by kind among = record {
  place = λ p e up.
      let up_is : Some n ≡ Some p = sym (forest.children n child among) ∙ up in
      let here : n ≡ p = cc in
      subst (λ (q : NodeId). get_or (child_places u q e) (index_of child (node u q).children) empty_rect ≡ preferred_place e by (shape u child)) here
      (ap (λ k. get_or (places_of k (node u n).children (map (λ c. (node u c).at) (node u n).children) (map (shape u) (node u n).children) e)
      (index_of child (node u n).children) empty_rect) kind
      ∙ translated_at e by (shape u) child (node u n).children among);
}

-- its child is placed at the new offset
pub offset_placed : (t u : Nodes) (edit : Edit) (n : NodeId) (by : Point) (cs : List NodeId) (d : NodeId) → edit ≡ edits.Offset n by → IsForest t →
    IsEdit t edit → refusal t edit ≡ None → u ≡ edited t edit → cs ≡ (node u n).children → 0 < length cs → IsPlacedAt u (get_or cs 0 d) by
offset_placed t u edit n by cs d is forest fits allowed new children some =
    let w : Nodes = edited t (edits.Offset n by) in
    let fits_offset : IsEdit t (edits.Offset n by) = subst (IsEdit t) is fits in
    let allowed_offset : refusal t (edits.Offset n by) ≡ None = sym (ap (refusal t) is) ∙ allowed in
    let nodes : u ≡ edited t (edits.Offset n by) = new ∙ ap (edited t) is in
    let own : cs ≡ (node w n).children = children ∙ ap (λ (v : Nodes). (node v n).children) nodes in
    subst (λ (v : Nodes). IsPlacedAt v (get_or cs 0 d) by) (sym nodes)
    (placed_by w (follows_edited t (edits.Offset n by) forest fits_offset allowed_offset).forest n (get_or cs 0 d) by
    (ap (λ (x : Entry). x.kind) (changed_here t n (turned_to (kinds.Translate by)) fits_offset.0))
    (sym (ap (is_among (get_or cs 0 d)) own) ∙ among_at cs 0 d some))

-- ---- the walk below such a child

-- a parent isn't below its child
pub parent_is_off : (t : Nodes) → IsForest t → (n parent : NodeId) → (node t n).parent ≡ Some parent → is_under t n parent ≡ false
parent_is_off t forest n parent up = by_test (is_under t n parent) refl
  where
    by_test : (b : Bool) → is_under t n parent ≡ b → b ≡ false
    by_test false h = refl
    by_test true h =
        let less : depth t n ≤ depth t parent = under_deeper 16 t forest n parent h in
        let deep : depth t n ≡ depth t parent + 1 = depth_child t parent n forest (forest.parents n parent up) in
        absurd (omega arith)

-- the parent's domain is in the table
pub parent_has : (t : Nodes) (size : Size) (l : Layout) (child parent : NodeId) → IsForest t → (node t child).parent ≡ Some parent →
    HasOtherDomains t size child l → HasDomain (laid t size) parent l.domains.items
parent_has t size l child parent forest up others = others.each parent (parent_is_off t forest child parent up)

-- the shapes that were read from the table
pub shape_read : (t : Nodes) (n : NodeId) (table : List Shapes) (i : ℕ) (s : Shapes) → n.0 < length table → i ≡ n.0 → s ≡ get_or table i s →
    shape_in table n ≡ shape t n → s ≡ shape t n
shape_read t n table i s lt at is right = get_or_read table n.0 s lt (is ∙ ap (λ k. get_or table k s) at) no_shapes ∙ right

-- the child has its new place
pub child_has : (t : Nodes) (size : Size) (l : Layout) (child parent : NodeId) (rect place : Edges) (at : Point) (shapes : Shapes) (table : List Edges) →
    IsForest t → (node t child).parent ≡ Some parent → IsPlacedAt t child at → HasOtherDomains t size child l → child.0 < length table →
    rect ≡ domain (laid t size) parent → shapes ≡ shape t child → place ≡ preferred_place rect at shapes →
    IsNear farthest place rect → HasDomain (laid t size) child (set table child.0 place)
child_has t size l child parent rect place at shapes table forest up placed others within here wants is near =
    let e : Edges = domain (laid t size) parent in
    let has : HasDomain (laid t size) parent l.domains.items = parent_has t size l child parent forest up others in
    let own : place ≡ preferred_place e at (shape t child) = rw (← here, ← wants) is in
    let domain_is : domain (laid t size) child ≡ place = domain_below (laid t size) forest child parent up ∙ placed.place parent e up ∙ sym own in
    let deep : depth t child ≡ depth t parent + 1 = depth_child t parent child forest (forest.parents child parent up) in
    let some : 1 ≤ depth t parent = depth_some 16 t parent in
    record {
      right = get_or-set_same table child.0 place empty_rect within ∙ sym domain_is;
      at = subst (IsAt (depth t child - 1)) (sym domain_is)
          (at_more (depth t parent - 1 + 1) (depth t child - 1) place (omega arith)
          (at_child (depth t parent - 1) e place has.at
          (fits_near e place (subst (λ (r : Edges). IsRectangle r) (sym own) (own_preferred e at (shape t child)))
          (subst (IsNear farthest place) here near))));
    }

-- the walk below the child makes the table right
pub laid_below : (t : Nodes) (size : Size) (l : Layout) (child : NodeId) (place : Edges) (new : List Edges) → IsForest t → HasOtherDomains t size child l →
    Lays (laid t size) child (set l.domains.items child.0 place) new → (n : NodeId) → HasDomain (laid t size) n new
laid_below t size l child place new forest others lays n = by_test (is_under t child n) refl
  where
    by_test : (b : Bool) → is_under t child n ≡ b → HasDomain (laid t size) n new
    by_test true h = lays.below n h
    by_test false h =
        let had : HasDomain (laid t size) n l.domains.items = others.each n h in
        lays.stays n (record {
          right = get_or-set_other l.domains.items child.0 n.0 place empty_rect
              (λ e. test_apart n child (off_apart t forest child n (ap not h)) (same_id n child e)) ∙ had.right;
          at = had.at;
        })

-- a domain in the table isn't large
pub domain_small : (t : Nodes) (size : Size) (n : NodeId) (table : List Edges) → IsForest t → HasDomain (laid t size) n table →
    IsDomain (domain (laid t size) n)
domain_small t size n table forest has =
    at_is_domain (domain (laid t size) n) (at_more (depth t n - 1) 15 (domain (laid t size) n) (omega (arith, forest.depths n)) has.at)

pub domains_of_all : (t : Nodes) (size : Size) (l : Layout) → IsForest t → ((n : NodeId) → HasDomain (laid t size) n l.domains.items) → HasDomains t size l
domains_of_all t size l forest all = record {
  each = λ kind n. (all n).right ∙ any_kind t size kind n;
  small = λ n. subst IsDomain (sym (all n).right)
      (domain_small t size n l.domains.items forest (all n));
  at = λ n. subst (IsAt (depth t n - 1)) (sym (all n).right) (all n).at;
}
