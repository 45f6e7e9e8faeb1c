-- But for one child an edit leaves each node the children that it had, in their order.
use Rattle.std.proofs.Common.{◌≡◌, Bool, true, false, cond, not, ◌==◌, List, [], ◌∷◌, ◌++◌, Option, Some, None, ◌⊎◌, inl, inr, refl, sym, ap, ◌∙◌}
use Rattle.tr_base.specs.declared.Point.{Point}
use Rattle.tr_base.specs.declared.NodeId.{NodeId}
use Rattle.tr_forest.specs.declared.Edit.{Edit}
use Rattle.tr_forest.specs.declared.Edit.TheVariants as edits
use Rattle.tr_forest.specs.declared.NodeKind.TheVariants as kinds
use Rattle.tr_forest.specs.Nodes.{Entry, Nodes, IsNode, is_z, node}
use Rattle.tr_forest.specs.Forests.{IsForest}
use Rattle.tr_forest.specs.Edits.{IsEdit, at_parent, bereft, changed, edited, lifting, loose, paged, reshaped, turned_to, without}
use Rattle.tr_forest.proofs.FamilyLemmas.{by_id, parent_is_node, test_same}
use Rattle.tr_forest.proofs.Lists.{joined}
use Rattle.tr_forest.proofs.Keeping.{changed_part, still_node}
use Rattle.tr_forest.proofs.Hanging.{IsHung, hung_is}
use Rattle.tr_base.specs.Layouts.{has_points}
use Rattle.tr_tree.specs.Trees.{Seen, edited_tree}
use Rattle.tr_tree.specs.Places.{domain}
use Rattle.tr_spot.specs.Changes.{AreAlikeBut, without_child}
use Rattle.tr_surface.specs.TreeSteps.{child_of, first_node, if_placed, moved_child}
use Rattle.tr_surface.specs.Survivors.{IsLike, carried_child, is_hanging, placed_child}

true-false : true ≡ false → ⊥
true-false h = cc

-- ---- a list without one child

-- it was in front
without_first : (child : NodeId) (cs : List NodeId) → without child (child ∷ cs) ≡ without child cs
without_first child cs = ap (λ b. cond (not b) (child ∷ without child cs) (without child cs)) (test_same child child refl)

-- it was behind
without_last : (child : NodeId) (cs : List NodeId) → without child (cs ++ child ∷ []) ≡ without child cs
without_last child [] = without_first child []
without_last child (c ∷ cs) = ap (λ ks. cond (not (c.0 == child.0)) (c ∷ ks) ks) (without_last child cs)

without_joined : (front : Bool) (child : NodeId) (cs : List NodeId) → without child (joined front child cs) ≡ without child cs
without_joined true child cs = without_first child cs
without_joined false child cs = without_last child cs

-- it was taken out before
without_twice : (child : NodeId) (cs : List NodeId) → without child (without child cs) ≡ without child cs
without_twice child [] = refl
without_twice child (c ∷ cs) = by_id c child
    (λ same. ap (λ b. without child (cond (not b) (c ∷ without child cs) (without child cs))) (test_same c child same)
    ∙ without_twice child cs
    ∙ sym (ap (λ b. cond (not b) (c ∷ without child cs) (without child cs)) (test_same c child same)))
    (λ other. ap (λ b. without child (cond (not b) (c ∷ without child cs) (without child cs))) other
    ∙ ap (λ b. cond (not b) (c ∷ without child (without child cs)) (without child (without child cs))) other
    ∙ ap (λ ks. c ∷ ks) (without_twice child cs)
    ∙ sym (ap (λ b. cond (not b) (c ∷ without child cs) (without child cs)) other))

-- ---- one node is changed

abbrev children_of : Nodes → NodeId → List NodeId
children_of t n = (node t n).children

-- the change leaves the children
same_children : (t : Nodes) (m : NodeId) (change : Entry → Entry) → IsNode t m → (change (node t m)).children ≡ (node t m).children → (n : NodeId) →
    children_of (changed m change t) n ≡ children_of t n
same_children t m change is same n = changed_part (λ (e : Entry). e.children) t m n change is same

-- the change leaves the children but for one
same_others : (child : NodeId) (t : Nodes) (m : NodeId) (change : Entry → Entry) → IsNode t m →
    without child (change (node t m)).children ≡ without child (node t m).children → (n : NodeId) →
    without child (children_of (changed m change t) n) ≡ without child (children_of t n)
same_others child t m change is same n = changed_part (λ (e : Entry). without child e.children) t m n change is same

-- ---- the edits of children

attached : (t : Nodes) (child parent : NodeId) (at : Point) → IsNode t child → IsNode t parent → (n : NodeId) →
    without child (children_of (edited t (edits.Attach child parent at)) n) ≡ without child (children_of t n)
attached t child parent at hc hp n =
    let e : IsHung t (edited t (edits.Attach child parent at)) child parent = hung_is t child parent at hc hp in
    by_id n parent
    (λ is. ap (λ (k : NodeId). without child (children_of (edited t (edits.Attach child parent at)) k)) is ∙ ap (without child) e.down
    ∙ without_joined (is_z (node t parent).kind) child (node t parent).children ∙ sym (ap (λ (k : NodeId). without child (children_of t k)) is))
    (λ other. ap (without child) (e.other_down n other))

-- a change of the parent, if there is one
at_parent_same : (t : Nodes) (child : NodeId) (change : Entry → Entry) → IsForest t →
    ((e : Entry) → without child (change e).children ≡ without child e.children) →
    (o : Option NodeId) → (node t child).parent ≡ o → (n : NodeId) →
    without child (children_of (at_parent o (λ parent. changed parent change) t) n) ≡ without child (children_of t n)
at_parent_same t child change forest same None e n = refl
at_parent_same t child change forest same (Some parent) e n =
    same_others child t parent change (parent_is_node t child parent forest e) (same (node t parent)) n

still_at_parent : (t : Nodes) (child : NodeId) (change : Entry → Entry) → IsNode t child → (o : Option NodeId) →
    IsNode (at_parent o (λ parent. changed parent change) t) child
still_at_parent t child change h None = h
still_at_parent t child change h (Some parent) = still_node t parent child change h

detached : (t : Nodes) (child : NodeId) → IsForest t → IsNode t child → (n : NodeId) →
    without child (children_of (edited t (edits.Detach child)) n) ≡ without child (children_of t n)
detached t child forest h n =
    let u : Nodes = at_parent (node t child).parent (λ parent. changed parent (bereft child)) t in
    same_others child u child loose (still_at_parent t child (bereft child) h (node t child).parent) refl n
    ∙ at_parent_same t child (bereft child) forest (λ e. without_twice child e.children) (node t child).parent refl n

lifted : (t : Nodes) (child : NodeId) → IsForest t → (n : NodeId) →
    without child (children_of (edited t (edits.Lift child)) n) ≡ without child (children_of t n)
lifted t child forest n =
    at_parent_same t child (lifting child) forest
    (λ e. without_first child (without child e.children) ∙ without_twice child e.children) (node t child).parent refl n

-- ---- each edit

same_but : (t : Nodes) (edit : Edit) → IsForest t → IsEdit t edit → (n : NodeId) →
    without_child (placed_child edit) (node (edited t edit) n).children ≡ without_child (placed_child edit) (node t n).children
same_but t (edits.Attach child parent at) forest is n = attached t child parent at is.0 is.1 n
same_but t (edits.Detach child) forest is n = detached t child forest is n
same_but t (edits.Tint m tint) forest is n = same_children t m (λ e. record e { tint = tint }) is refl n
same_but t (edits.Border m width) forest is n = same_children t m (turned_to (kinds.Border width)) is refl n
same_but t (edits.Offset m by) forest is n = same_children t m (turned_to (kinds.Translate by)) is.0 refl n
same_but t (edits.Fix m size) forest is n = same_children t m (turned_to (kinds.Rigid size)) is.0 refl n
same_but t (edits.Move child at) forest is n = same_children t child (λ e. record e { at = at }) is.0 refl n
same_but t (edits.Lift child) forest is n = lifted t child forest n
same_but t (edits.Show m child) forest is n = same_children t m (turned_to (kinds.T (Some child))) is.0 refl n
same_but t (edits.Turn m page) forest is n = same_children t m (λ e. turned_to (paged page e.kind) e) is refl n
same_but t (edits.Shapes m shapes) forest is n = same_children t m (λ e. turned_to (reshaped shapes e.kind) e) is refl n
same_but t (edits.Resize size) forest is n = refl
same_but t (edits.Rescreen kind) forest is n = refl

pub alike_edited : (was : Seen) (edit : Edit) → IsForest was.nodes → IsEdit was.nodes edit →
    IsLike was (edited_tree was edit) → (edited_tree was edit).size ≡ was.size →
    AreAlikeBut (placed_child edit) was (edited_tree was edit)
alike_edited was edit forest is like size = record { count = like.count; root = like.root; size = size; children = same_but was.nodes edit forest is }

-- what is the same for all children is so but for one
alike_with : (was is : Seen) (child : Option NodeId) → AreAlikeBut None was is → AreAlikeBut child was is
alike_with was is child a = record { count = a.count; root = a.root; size = a.size; children = λ n. ap (without_child child) (a.children n) }

-- an edit that hangs no child and takes none away leaves the children but for the one that it moves or brings to the front
pub alike_carried : (was : Seen) (edit : Edit) → is_hanging edit ≡ false → AreAlikeBut (placed_child edit) was (edited_tree was edit) →
    AreAlikeBut (carried_child was.nodes edit) was (edited_tree was edit)
alike_carried was (edits.Attach child parent at) h a = absurd (true-false h)
alike_carried was (edits.Detach child) h a = absurd (true-false h)
alike_carried was (edits.Lift child) h a = a
alike_carried was (edits.Move child at) h a = alike_with was (edited_tree was (edits.Move child at)) (Some child) a
alike_carried was (edits.Offset n by) h a = alike_with was (edited_tree was (edits.Offset n by)) (first_node (node was.nodes n).children) a
alike_carried was edit h a = a

-- what it moves is that child, if it moves one
moved_part : (was : Seen) (o : Option NodeId) → (if_placed was o ≡ None) ⊎ (if_placed was o ≡ o)
moved_part was None = inl refl
moved_part was (Some n) = by_test (has_points (domain was n))
  where
    by_test : (b : Bool) → (cond b (Some n) None ≡ None) ⊎ (cond b (Some n) None ≡ Some n)
    by_test true = inr refl
    by_test false = inl refl

pub moved_carried : (was : Seen) (edit : Edit) → (moved_child was edit ≡ None) ⊎ (moved_child was edit ≡ carried_child was.nodes edit)
moved_carried was (edits.Lift child) = inl refl
moved_carried was edit = moved_part was (child_of was.nodes edit)
