-- Which edits leave the shapes of all nodes.
use Rattle.std.proofs.Common.{◌≡◌, ℕ, ◌≤◌, Bool, true, false, cond, not, ◌==◌, List, [], ◌∷◌, Option, Some, None, map, refl, sym, ap, subst, ◌∙◌, arith, max}
use Rattle.std.proofs.lemmas.Bool.{not-false}
use Rattle.tr_base.specs.declared.Point.{Point}
use Rattle.tr_base.specs.declared.NodeId.{NodeId}
use Rattle.tr_base.specs.declared.Shapes.{Shapes}
use Rattle.tr_base.specs.Shapes.{Lengths}
use Rattle.tr_base.specs.Layouts.{greatest_by, maxima_of, along}
use Rattle.tr_forest.specs.declared.NodeKind.{NodeKind}
use Rattle.tr_forest.specs.declared.NodeKind.TheVariants as kinds
use Rattle.tr_forest.specs.declared.Edit.{Edit}
use Rattle.tr_forest.specs.declared.Edit.TheVariants as edits
use Rattle.tr_forest.specs.declared.NodeFault.{NodeFault}
use Rattle.tr_forest.specs.declared.NodeFault.TheVariants as faults
use Rattle.tr_forest.specs.Nodes.{Nodes, Entry, IsNode, node, is_z, is_t, is_translate}
use Rattle.tr_forest.specs.Families.{is_among, of_parent}
use Rattle.tr_forest.specs.Edits.{IsEdit, edited, refusal, changed, without, turned_to, paged, lifting, at_parent}
use Rattle.tr_forest.specs.Forests.{IsForest}
use Rattle.tr_forest.proofs.FamilyLemmas.{by_id, greatest_member, parent_is_node, test_same}
use Rattle.tr_tree.specs.declared.layouts.Layout.{Layout}
use Rattle.tr_tree.specs.Wishes.{shape, shape_of}
use Rattle.tr_tree.specs.Ready.{HasShapes, keeps_shapes}
use Rattle.tr_tree.proofs.LayoutLemmas.{part_same}
use Rattle.tr_tree.proofs.ShapeLemmas.{shapes_like}

-- ---- the greatest of some lengths doesn't depend on their order

without_less : (u : NodeId → ℕ) (child : NodeId) (cs : List NodeId) → greatest_by u (without child cs) ≤ greatest_by u cs
without_less u child [] = omega arith
without_less u child (c ∷ cs) = by_test (c.0 == child.0) refl (without_less u child cs)
  where
    by_test : (b : Bool) → (c.0 == child.0) ≡ b → greatest_by u (without child cs) ≤ greatest_by u cs →
        greatest_by u (without child (c ∷ cs)) ≤ greatest_by u (c ∷ cs)
    by_test true h rest = rw h (omega (arith, rest))
    by_test false h rest = rw h (omega (arith, rest))

lifted_more : (u : NodeId → ℕ) (child : NodeId) (cs : List NodeId) → greatest_by u cs ≤ max (u child) (greatest_by u (without child cs))
lifted_more u child [] = omega arith
lifted_more u child (c ∷ cs) =
    let rest : greatest_by u cs ≤ max (u child) (greatest_by u (without child cs)) = lifted_more u child cs in
    by_id c child
    (λ is.
    let same : u c ≡ u child = ap u is in
    let test : (c.0 == child.0) ≡ true = test_same c child is in
    rw test (omega (arith, rest, same)))
    (λ other. rw other (omega (arith, rest)))

greatest_lifted : (u : NodeId → ℕ) (child : NodeId) (cs : List NodeId) → is_among child cs ≡ true →
    greatest_by u (child ∷ without child cs) ≡ greatest_by u cs
greatest_lifted u child cs among = omega (arith, without_less u child cs, lifted_more u child cs, greatest_member cs u child among)

greatest_map : {X Y : Type 0} (u : Y → ℕ) (f : X → Y) (xs : List X) → greatest_by u (map f xs) ≡ greatest_by (λ x. u (f x)) xs
greatest_map u f [] = refl
greatest_map u f (x ∷ xs) = ap (max (u (f x))) (greatest_map u f xs)

-- the greatest of one length of a list of children
lifted_length : (u : Lengths → ℕ) (down : Bool) (s : NodeId → Shapes) (child : NodeId) (cs : List NodeId) → is_among child cs ≡ true →
    greatest_by u (map (along down) (map s (child ∷ without child cs))) ≡ greatest_by u (map (along down) (map s cs))
lifted_length u down s child cs among =
    flat (child ∷ without child cs) ∙ greatest_lifted (λ c. u (along down (s c))) child cs among ∙ sym (flat cs)
  where
    flat : (ns : List NodeId) → greatest_by u (map (along down) (map s ns)) ≡ greatest_by (λ c. u (along down (s c))) ns
    flat ns = greatest_map u (along down) (map s ns) ∙ greatest_map (λ x. u (along down x)) s ns

lifted_maxima : (down : Bool) (s : NodeId → Shapes) (child : NodeId) (cs : List NodeId) → is_among child cs ≡ true →
    maxima_of (map (along down) (map s (child ∷ without child cs))) ≡ maxima_of (map (along down) (map s cs))
lifted_maxima down s child cs among =
    let at = λ (u : Lengths → ℕ). lifted_length u down s child cs among in
    rw (at (λ l. l.lo), at (λ l. l.pref), at (λ l. l.hi)) refl

pub lifted_shape : (k : NodeKind) (s : NodeId → Shapes) (child : NodeId) (cs : List NodeId) → is_z k ≡ true → is_among child cs ≡ true →
    shape_of k (map s (child ∷ without child cs)) ≡ shape_of k (map s cs)
lifted_shape kinds.Z s child cs z among = rw (lifted_maxima false s child cs among, lifted_maxima true s child cs among) refl
lifted_shape k s child cs z among = cc

-- ---- what kinds don't look at

moved_shape : (k : NodeKind) (by : Point) (xs : List Shapes) → is_translate k ≡ true → shape_of (kinds.Translate by) xs ≡ shape_of k xs
moved_shape (kinds.Translate old) by xs h = refl
moved_shape k by xs h = cc

shown_shape : (k : NodeKind) (shown : Option NodeId) (xs : List Shapes) → is_t k ≡ true → shape_of (kinds.T shown) xs ≡ shape_of k xs
shown_shape (kinds.T old) shown xs h = refl
shown_shape k shown xs h = cc

turned_shape : (k : NodeKind) (page : ℕ) (xs : List Shapes) → shape_of (paged page k) xs ≡ shape_of k xs
turned_shape (kinds.Page per old) page xs = refl
turned_shape k page xs = refl

-- ---- the edits

single : (b : Bool) (x : NodeFault) → cond (not b) (Some x) None ≡ None → b ≡ true
single true x h = refl
single false x h = cc

pub first_passed : (b : Bool) (x : NodeFault) (o : Option NodeFault) → cond b (Some x) o ≡ None → b ≡ false
first_passed true x o h = cc
first_passed false x o h = refl

-- all nodes want what they wanted if the changed one does, whatever its children want
pub changed_shape : (t : Nodes) (n : NodeId) (change : Entry → Entry) → IsNode t n →
    ((s : NodeId → Shapes) →
    shape_of (change (node t n)).kind (map s (change (node t n)).children) ≡ shape_of (node t n).kind (map s (node t n).children)) →
    (m : NodeId) → shape (changed n change t) m ≡ shape t m
changed_shape t n change inside same m = shapes_like t (changed n change t)
    (λ k s. part_same (λ (x : Entry). shape_of x.kind (map s x.children)) t n (change (node t n)) k inside (same s)) m

-- so an edit leaves the table right
one_changed : (t : Nodes) (n : NodeId) (change : Entry → Entry) (l : Layout) → IsNode t n →
    ((s : NodeId → Shapes) →
    shape_of (change (node t n)).kind (map s (change (node t n)).children) ≡ shape_of (node t n).kind (map s (node t n).children)) →
    HasShapes t l → HasShapes (changed n change t) l
one_changed t n change l inside same has = record {
  each = λ m. has.each m ∙ sym (changed_shape t n change inside same m);
}

lifted_kept : (t : Nodes) → IsForest t → (child : NodeId) (l : Layout) (o : Option NodeId) → (node t child).parent ≡ o →
    of_parent o (λ parent. not (is_z (node t parent).kind)) ≡ false → HasShapes t l →
    HasShapes (at_parent o (λ parent. changed parent (lifting child)) t) l
lifted_kept t forest child l None up z has = has
lifted_kept t forest child l (Some p) up z has =
    one_changed t p (lifting child) l (parent_is_node t child p forest up)
    (λ s. lifted_shape (node t p).kind s child (node t p).children (not-false (is_z (node t p).kind) z) (forest.parents child p up)) has

kept_by : (t : Nodes) → IsForest t → (l : Layout) → HasShapes t l → (edit : Edit) → IsEdit t edit → refusal t edit ≡ None → keeps_shapes edit ≡ true →
    HasShapes (edited t edit) l
kept_by t forest l has (edits.Offset n by) fits allowed keeps =
    one_changed t n (turned_to (kinds.Translate by)) l fits.0
    (λ s. moved_shape (node t n).kind by (map s (node t n).children) (single (is_translate (node t n).kind) faults.WrongKind allowed)) has
kept_by t forest l has (edits.Move child at) fits allowed keeps =
    one_changed t child (λ e. record e { at = at }) l fits.0 (λ s. refl) has
kept_by t forest l has (edits.Lift child) fits allowed keeps =
    lifted_kept t forest child l (node t child).parent refl (first_passed _ _ _ allowed) has
kept_by t forest l has (edits.Show n child) fits allowed keeps =
    one_changed t n (turned_to (kinds.T (Some child))) l fits.0
    (λ s. shown_shape (node t n).kind (Some child) (map s (node t n).children) (not-false (is_t (node t n).kind) (first_passed _ _ _ allowed))) has
kept_by t forest l has (edits.Turn n page) fits allowed keeps =
    one_changed t n (λ e. turned_to (paged page e.kind) e) l fits
    (λ s. turned_shape (node t n).kind page (map s (node t n).children)) has
kept_by t forest l has (edits.Resize size) fits allowed keeps = has
kept_by t forest l has edit fits allowed keeps = cc

-- after such an edit the table has the shapes still
pub shapes_kept : (t u : Nodes) (edit : Edit) (l : Layout) → IsForest t → IsEdit t edit → refusal t edit ≡ None → keeps_shapes edit ≡ true →
    u ≡ edited t edit → HasShapes t l → HasShapes u l
shapes_kept t u edit l forest fits allowed keeps is has =
    subst (λ (w : Nodes). HasShapes w l) (sym is) (kept_by t forest l has edit fits allowed keeps)
