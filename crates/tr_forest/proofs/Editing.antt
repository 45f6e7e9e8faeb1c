-- After each edit that isn't refused the nodes are still a forest.
use Rattle.std.proofs.Common.{◌≡◌, ℕ, ◌+◌, Bool, true, false, cond, not, ◌&&◌, ◌||◌, ◌==◌, List, [], ◌∷◌, Option, Some, None, nat_lt, length, refl, sym, ap, subst, ◌∙◌, arith}
use Rattle.std.specs.Prelude.{is_some}
use Rattle.std.proofs.lemmas.Bool.Decides.{nat_tests}
use Rattle.std.proofs.lemmas.Bool.{not-false, or_parts}
use Rattle.tr_base.specs.declared.Point.{Point}
use Rattle.tr_base.specs.declared.NodeId.{NodeId}
use Rattle.tr_base.specs.declared.Shapes.{Shapes}
use Rattle.tr_forest.specs.declared.kinds.NodeKind.{NodeKind}
use Rattle.tr_forest.specs.declared.kinds.NodeKind.TheVariants as kinds
use Rattle.tr_forest.specs.declared.edits.Edit.{Edit}
use Rattle.tr_forest.specs.declared.edits.Edit.TheVariants as edits
use Rattle.tr_forest.specs.declared.edits.NodeFault.{NodeFault}
use Rattle.tr_forest.specs.declared.edits.NodeFault.TheVariants as faults
use Rattle.tr_forest.specs.Nodes.{Entry, Nodes, IsNode, IsNodeKind, node, is_leaf, is_z, is_t, is_border, is_rigid, is_translate, is_filter, shown_by, leaf_of}
use Rattle.tr_forest.specs.Families.{levels, is_among, depth, height, is_under, of_parent}
use Rattle.tr_forest.specs.Edits.{IsEdit, edited, refusal, changed, with_child, hung, turned_to, paged, reshaped, at_parent, bereft, loose, lifting, hangs, is_root, is_occupied}
use Rattle.tr_forest.specs.Forests.{IsForest}
use Rattle.tr_forest.proofs.FamilyLemmas.{test_same}
use Rattle.tr_forest.proofs.Keeping.{Follows, IsLike, follows_like, changed_count}
use Rattle.tr_forest.proofs.Hanging.{CanHang, follows_hung}
use Rattle.tr_forest.proofs.Parting.{follows_parted, follows_lifted}

-- what is known where the first of two faults isn't there

pub passed : (b : Bool) (x : NodeFault) (y : Option NodeFault) → cond b (Some x) y ≡ None → (b ≡ false) × (y ≡ None)
passed true x y h = cc
passed false x y h = (refl, h)

single : (b : Bool) (x : NodeFault) → cond b (Some x) None ≡ None → b ≡ false
single b x h = (passed b x None h).0

no_value : (o : Option NodeId) → is_some o ≡ false → o ≡ None
no_value None h = refl
no_value (Some x) h = cc

some_value : (o : Option NodeId) → is_some o ≡ true → (p : NodeId) × (o ≡ Some p)
some_value None h = cc
some_value (Some x) h = (x, refl)

no_items : (cs : List NodeId) → (length cs == 0) ≡ true → cs ≡ []
no_items [] h = refl
no_items (c ∷ cs) h = let none : length (c ∷ cs) ≡ 0 = grind (arith, nat_tests) in absurd (omega arith)

free_of : (b : Bool) (cs : List NodeId) → (b && not (length cs == 0)) ≡ false → b ≡ true → cs ≡ []
free_of true cs h is = no_items cs (not-false (length cs == 0) h)
free_of false cs h is = cc

can_hang : (t : Nodes) (child parent : NodeId) (at : Point) → refusal t (edits.Attach child parent at) ≡ None → CanHang t child parent
can_hang t child parent at h =
    let deep : Option NodeFault = cond (nat_lt levels (depth t parent + height t child)) (Some faults.TooDeep) None in
    let placed : Option NodeFault = cond (hangs t child || is_root t child) (Some faults.Attached) deep in
    let full : Option NodeFault = cond (is_occupied t parent) (Some faults.Occupied) placed in
    let below : Option NodeFault = cond (is_under t child parent) (Some faults.Cycle) full in
    let a = passed (is_leaf (node t parent).kind) faults.WrongKind below h in
    let b = passed (is_under t child parent) faults.Cycle full a.1 in
    let c = passed (is_occupied t parent) faults.Occupied placed b.1 in
    let d = passed (hangs t child || is_root t child) faults.Attached deep c.1 in
    let e = single (nat_lt levels (depth t parent + height t child)) faults.TooDeep d.1 in
    let place = or_parts (hangs t child) (is_root t child) d.0 in
    record {
      holder = a.0;
      apart = b.0;
      free = free_of (is_filter (node t parent).kind) (node t parent).children c.0;
      loose = no_value (node t child).parent place.0;
      not_root = λ r.
          let is : is_root t child ≡ true = ap (λ o. of_parent o (λ root. root.0 == child.0)) r ∙ test_same child child refl in
          let is_not : is_root t child ≡ false = place.1 in
          cc;
      fits = (let test : nat_lt levels (depth t parent + height t child) ≡ false = e in grind (arith, nat_tests));
    }

-- edits that leave all links as they are

like_turned : (t : Nodes) (n : NodeId) (kind : NodeKind) → IsForest t → leaf_of kind ≡ leaf_of (node t n).kind →
    is_filter kind ≡ is_filter (node t n).kind → IsNodeKind kind →
    ((child : NodeId) → shown_by kind ≡ Some child → is_among child (node t n).children ≡ true) → IsLike (node t n) (turned_to kind (node t n))
like_turned t n kind forest leaf filter range shown = record {
  parent = refl;
  children = refl;
  leaf = leaf;
  filter = filter;
  kind = range;
  offset = forest.offsets n;
  shown = shown;
}

-- a filter takes another value
border_like : (k : NodeKind) → is_border k ≡ true → (leaf_of k ≡ None) × (is_filter k ≡ true)
border_like (kinds.Border width) h = (refl, refl)
border_like k h = cc

rigid_like : (k : NodeKind) → is_rigid k ≡ true → (leaf_of k ≡ None) × (is_filter k ≡ true)
rigid_like (kinds.Rigid size) h = (refl, refl)
rigid_like k h = cc

translate_like : (k : NodeKind) → is_translate k ≡ true → (leaf_of k ≡ None) × (is_filter k ≡ true)
translate_like (kinds.Translate by) h = (refl, refl)
translate_like k h = cc

t_like : (k : NodeKind) → is_t k ≡ true → (leaf_of k ≡ None) × (is_filter k ≡ false)
t_like (kinds.T shown) h = (refl, refl)
t_like k h = cc

-- a Page shows other strips, and a leaf has other shapes
paged_leaf : (page : ℕ) (k : NodeKind) → leaf_of (paged page k) ≡ leaf_of k
paged_leaf page (kinds.Page per old) = refl
paged_leaf page k = refl

paged_filter : (page : ℕ) (k : NodeKind) → is_filter (paged page k) ≡ is_filter k
paged_filter page (kinds.Page per old) = refl
paged_filter page k = refl

paged_shown : (page : ℕ) (k : NodeKind) → shown_by (paged page k) ≡ shown_by k
paged_shown page (kinds.Page per old) = refl
paged_shown page k = refl

paged_kind : (page : ℕ) (k : NodeKind) → IsNodeKind k → IsNodeKind (paged page k)
paged_kind page (kinds.Page per old) h = h
paged_kind page k h = h

reshaped_leaf : (shapes : Shapes) (k : NodeKind) → leaf_of (reshaped shapes k) ≡ leaf_of k
reshaped_leaf shapes (kinds.Leaf leaf old) = refl
reshaped_leaf shapes k = refl

reshaped_filter : (shapes : Shapes) (k : NodeKind) → is_filter (reshaped shapes k) ≡ is_filter k
reshaped_filter shapes (kinds.Leaf leaf old) = refl
reshaped_filter shapes k = refl

reshaped_shown : (shapes : Shapes) (k : NodeKind) → shown_by (reshaped shapes k) ≡ shown_by k
reshaped_shown shapes (kinds.Leaf leaf old) = refl
reshaped_shown shapes k = refl

reshaped_kind : (shapes : Shapes) (k : NodeKind) → IsNodeKind k → IsNodeKind (reshaped shapes k)
reshaped_kind shapes (kinds.Leaf leaf old) h = h
reshaped_kind shapes k h = h

-- a filter of another value is a filter
follows_filter : (t : Nodes) (n : NodeId) (kind : NodeKind) → IsForest t → IsNode t n → leaf_of kind ≡ None → is_filter kind ≡ true →
    shown_by kind ≡ None → IsNodeKind kind →
    (leaf_of (node t n).kind ≡ None) × (is_filter (node t n).kind ≡ true) → Follows t (changed n (turned_to kind) t)
follows_filter t n kind forest h leaf filter shown range old = follows_like t n (turned_to kind) forest h
    (like_turned t n kind forest (leaf ∙ sym old.0) (filter ∙ sym old.1) range (λ child k. let no : None ≡ Some child = sym shown ∙ k in cc))

follows_shown : (t : Nodes) (n child : NodeId) → IsForest t → IsNode t n → is_t (node t n).kind ≡ true → is_among child (node t n).children ≡ true →
    Follows t (changed n (turned_to (kinds.T (Some child))) t)
follows_shown t n child forest h is among =
    let old = t_like (node t n).kind is in
    follows_like t n (turned_to (kinds.T (Some child))) forest h (like_turned t n (kinds.T (Some child)) forest (sym old.0) (sym old.1) tt (λ c k.
    let same : child ≡ c = cc in
    sym (ap (λ (x : NodeId). is_among x (node t n).children) same) ∙ among))

follows_same : (t : Nodes) → IsForest t → Follows t t
follows_same t forest = record { values = record { count = refl; root = refl; leaf = λ n. refl; leaf_count = refl }; forest = forest }

-- edits of children

hangs_in_z : (t : Nodes) (child parent : NodeId) → (node t child).parent ≡ Some parent →
    of_parent (node t child).parent (λ p. not (is_z (node t p).kind)) ≡ false → is_z (node t parent).kind ≡ true
hangs_in_z t child parent up h = not-false (is_z (node t parent).kind) (sym (ap (λ o. of_parent o (λ p. not (is_z (node t p).kind))) up) ∙ h)

follows_detached : (t : Nodes) (child : NodeId) → IsForest t → IsNode t child → hangs t child ≡ true → Follows t (edited t (edits.Detach child))
follows_detached t child forest h hang =
    let up = some_value (node t child).parent hang in
    subst (λ (o : Option NodeId). Follows t (changed child loose (at_parent o (λ parent. changed parent (bereft child)) t))) (sym up.1)
    (follows_parted t child up.0 forest h up.1)

follows_lift : (t : Nodes) (child : NodeId) → IsForest t → refusal t (edits.Lift child) ≡ None → Follows t (edited t (edits.Lift child))
follows_lift t child forest h =
    let a = passed (of_parent (node t child).parent (λ p. not (is_z (node t p).kind))) faults.WrongKind
    (cond (not (hangs t child)) (Some faults.NotChild) None) h in
    let hang : hangs t child ≡ true = not-false (hangs t child) (single (not (hangs t child)) faults.NotChild a.1) in
    let up = some_value (node t child).parent hang in
    subst (λ (o : Option NodeId). Follows t (at_parent o (λ parent. changed parent (lifting child)) t)) (sym up.1)
    (follows_lifted t child up.0 forest up.1 (hangs_in_z t child up.0 up.1 a.0))

-- the nodes after an edit that isn't refused
pub follows_edited : (t : Nodes) (edit : Edit) → IsForest t → IsEdit t edit → refusal t edit ≡ None → Follows t (edited t edit)
follows_edited t (edits.Attach child parent at) forest is h = follows_hung t child parent at forest is.0 is.1 is.2 (can_hang t child parent at h)
follows_edited t (edits.Detach child) forest is h = follows_detached t child forest is
    (not-false (hangs t child) (single (not (hangs t child)) faults.NotChild h))
follows_edited t (edits.Tint n tint) forest is h = follows_like t n (λ e. record e { tint = tint }) forest is
    (record { parent = refl; children = refl; leaf = refl; filter = refl; kind = forest.kinds n; offset = forest.offsets n; shown = forest.shown n })
follows_edited t (edits.Border n width) forest is h =
    follows_filter t n (kinds.Border width) forest is refl refl refl tt
    (border_like (node t n).kind (not-false (is_border (node t n).kind) (single (not (is_border (node t n).kind)) faults.WrongKind h)))
follows_edited t (edits.Offset n by) forest is h =
    follows_filter t n (kinds.Translate by) forest is.0 refl refl refl is.1
    (translate_like (node t n).kind (not-false (is_translate (node t n).kind) (single (not (is_translate (node t n).kind)) faults.WrongKind h)))
follows_edited t (edits.Fix n size) forest is h =
    follows_filter t n (kinds.Rigid size) forest is.0 refl refl refl is.1
    (rigid_like (node t n).kind (not-false (is_rigid (node t n).kind) (single (not (is_rigid (node t n).kind)) faults.WrongKind h)))
follows_edited t (edits.Move child at) forest is h = follows_like t child (λ e. record e { at = at }) forest is.0
    (record { parent = refl; children = refl; leaf = refl; filter = refl; kind = forest.kinds child; offset = is.1; shown = forest.shown child })
follows_edited t (edits.Lift child) forest is h = follows_lift t child forest h
follows_edited t (edits.Show n child) forest is h =
    let a = passed (not (is_t (node t n).kind)) faults.WrongKind (cond (not (is_among child (node t n).children)) (Some faults.NotChild) None) h in
    follows_shown t n child forest is.0 (not-false (is_t (node t n).kind) a.0)
    (not-false (is_among child (node t n).children) (single (not (is_among child (node t n).children)) faults.NotChild a.1))
follows_edited t (edits.Turn n page) forest is h = follows_like t n (λ e. turned_to (paged page e.kind) e) forest is
    (like_turned t n (paged page (node t n).kind) forest (paged_leaf page (node t n).kind) (paged_filter page (node t n).kind)
    (paged_kind page (node t n).kind (forest.kinds n))
    (λ child k. forest.shown n child (sym (paged_shown page (node t n).kind) ∙ k)))
follows_edited t (edits.Shapes n shapes) forest is h = follows_like t n (λ e. turned_to (reshaped shapes e.kind) e) forest is
    (like_turned t n (reshaped shapes (node t n).kind) forest (reshaped_leaf shapes (node t n).kind) (reshaped_filter shapes (node t n).kind)
    (reshaped_kind shapes (node t n).kind (forest.kinds n))
    (λ child k. forest.shown n child (sym (reshaped_shown shapes (node t n).kind) ∙ k)))
follows_edited t (edits.Resize size) forest is h = follows_same t forest
follows_edited t (edits.Rescreen kind) forest is h = follows_same t forest

-- an edit adds no node and takes none away

count_at_parent : (o : Option NodeId) (change : NodeId → Entry → Entry) (t : Nodes) →
    length (at_parent o (λ parent. changed parent (change parent)) t).entries ≡ length t.entries
count_at_parent None change t = refl
count_at_parent (Some parent) change t = changed_count t parent (change parent)

pub count_edited : (t : Nodes) (edit : Edit) → length (edited t edit).entries ≡ length t.entries
count_edited t (edits.Attach child parent at) = changed_count (changed parent (with_child child) t) child (hung parent at)
    ∙ changed_count t parent (with_child child)
count_edited t (edits.Detach child) =
    changed_count (at_parent (node t child).parent (λ parent. changed parent (bereft child)) t) child loose
    ∙ count_at_parent (node t child).parent (λ parent. bereft child) t
count_edited t (edits.Tint n tint) = changed_count t n (λ e. record e { tint = tint })
count_edited t (edits.Border n width) = changed_count t n (turned_to (kinds.Border width))
count_edited t (edits.Offset n by) = changed_count t n (turned_to (kinds.Translate by))
count_edited t (edits.Fix n size) = changed_count t n (turned_to (kinds.Rigid size))
count_edited t (edits.Move child at) = changed_count t child (λ e. record e { at = at })
count_edited t (edits.Lift child) = count_at_parent (node t child).parent (λ parent. lifting child) t
count_edited t (edits.Show n child) = changed_count t n (turned_to (kinds.T (Some child)))
count_edited t (edits.Turn n page) = changed_count t n (λ e. turned_to (paged page e.kind) e)
count_edited t (edits.Shapes n shapes) = changed_count t n (λ e. turned_to (reshaped shapes e.kind) e)
count_edited t (edits.Resize size) = refl
count_edited t (edits.Rescreen kind) = refl
