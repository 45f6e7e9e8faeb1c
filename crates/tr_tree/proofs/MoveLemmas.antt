-- What a lift and a move leave: a lift moves no node, and a move leaves all but the child and what lies below it, and the child's sides.
use Rattle.std.proofs.Common.{◌≡◌, ℕ, zero, suc, ℤ, pos, ◌+ℤ◌, Bool, true, false, cond, not, ◌&&◌, [], Option, Some, None, inl, inr, refl, sym, ap, ◌∙◌, arith}
use Rattle.std.specs.Prelude.{int_lt, is_some}
use Rattle.std.proofs.lemmas.Bool.{not-false}
use Rattle.std.proofs.lemmas.Int.{ints}
use Rattle.tr_base.specs.declared.Point.{Point}
use Rattle.tr_base.specs.declared.NodeId.{NodeId}
use Rattle.tr_base.specs.declared.Shapes.{Shapes}
use Rattle.tr_base.specs.Rects.{Edges, empty_rect, rect_of, sides_of}
use Rattle.tr_base.specs.Layouts.{has_points, placed, preferred_place}
use Rattle.tr_base.proofs.LayoutLemmas.{unsigned_abs-added}
use Rattle.tr_forest.specs.declared.NodeKind.TheVariants as kinds
use Rattle.tr_forest.specs.declared.Edit.TheVariants as edits
use Rattle.tr_forest.specs.declared.NodeFault.{NodeFault}
use Rattle.tr_forest.specs.Nodes.{Nodes, Entry, IsNode, node, is_leaf, is_z}
use Rattle.tr_forest.specs.Families.{is_among, is_under, of_parent}
use Rattle.tr_forest.specs.Forests.{IsForest}
use Rattle.tr_forest.specs.Edits.{IsEdit, at_parent, changed, edited, hangs, lifting, refusal}
use Rattle.tr_forest.proofs.FamilyLemmas.{IsUnderChild, parent_is_node, under_split}
use Rattle.tr_forest.proofs.Keeping.{changed_part}
use Rattle.tr_forest.proofs.Editing.{follows_edited}
use Rattle.tr_tree.specs.Trees.{Seen, edited_tree}
use Rattle.tr_tree.specs.Wishes.{shape}
use Rattle.tr_tree.specs.Places.{domain}
use Rattle.tr_tree.proofs.DomainLemmas.{domain_below}
use Rattle.tr_tree.proofs.KeepLemmas.{changed_shape, first_passed, lifted_shape}
use Rattle.tr_tree.proofs.LayoutLemmas.{domains_within_alike, tinted_alike}
use Rattle.tr_tree.proofs.StayLemmas.{lifted_stays, moved_kind, moved_stays, parent_is_off, stay_within, z_child}

-- ---- a lift

pub lifted_domain : (t : Seen) (child n : NodeId) → IsForest t.nodes → IsEdit t.nodes (edits.Lift child) → refusal t.nodes (edits.Lift child) ≡ None →
    domain (edited_tree t (edits.Lift child)) n ≡ domain t n
lifted_domain t child n forest fits allowed =
    by_parent (node t.nodes child).parent refl (first_passed _ _ _ allowed) (follows_edited t.nodes (edits.Lift child) forest fits allowed).forest
  where
    by_parent : (o : Option NodeId) → (node t.nodes child).parent ≡ o → of_parent o (λ parent. not (is_z (node t.nodes parent).kind)) ≡ false →
        IsForest (at_parent o (λ parent. changed parent (lifting child)) t.nodes) →
        domain (record t { nodes = at_parent o (λ parent. changed parent (lifting child)) t.nodes }) n ≡ domain t n
    by_parent None up z new = refl
    by_parent (Some p) up z new =
        let u : Nodes = changed p (lifting child) t.nodes in
        let inside : IsNode t.nodes p = parent_is_node t.nodes child p forest up in
        let is : is_z (node t.nodes p).kind ≡ true = not-false (is_z (node t.nodes p).kind) z in
        stay_within 16 t (record t { nodes = u }) (λ _. true)
        (lifted_stays t.nodes child p forest new inside is
        (changed_shape t.nodes p (lifting child) inside
        (λ s. lifted_shape (node t.nodes p).kind s child (node t.nodes p).children is (forest.parents child p up))))
        refl n refl

-- ---- a tint

pub tinted_domain : (t : Seen) (m n : NodeId) (tint : ℕ) → IsNode t.nodes m → domain (edited_tree t (edits.Tint m tint)) n ≡ domain t n
tinted_domain t m n tint inside = domains_within_alike 16 t (edited_tree t (edits.Tint m tint)) (tinted_alike t.nodes m tint inside) refl n

-- ---- a move

moved_shape : (t : Nodes) (child : NodeId) (at : Point) → IsNode t child → (n : NodeId) → shape (edited t (edits.Move child at)) n ≡ shape t n
moved_shape t child at inside n = changed_shape t child (λ (x : Entry). record x { at = at }) inside (λ s. refl) n

pub moved_domain : (t : Seen) (child : NodeId) (at : Point) (n : NodeId) → IsForest t.nodes → IsEdit t.nodes (edits.Move child at) →
    refusal t.nodes (edits.Move child at) ≡ None → is_under (edited t.nodes (edits.Move child at)) child n ≡ false →
    domain (edited_tree t (edits.Move child at)) n ≡ domain t n
moved_domain t child at n forest fits allowed off =
    stay_within 16 t (edited_tree t (edits.Move child at)) (λ m. not (is_under (edited t.nodes (edits.Move child at)) child m))
    (moved_stays t.nodes child at forest (follows_edited t.nodes (edits.Move child at) forest fits allowed).forest fits.0
    (moved_shape t.nodes child at fits.0))
    refl n (ap not off)

same_room : (x y : ℤ) (n : ℕ) → int_lt x (x +ℤ pos n) ≡ int_lt y (y +ℤ pos n)
same_room x y zero =
    let here : int_lt x (x +ℤ pos 0) ≡ false = grind (arith, ints) in
    let there : int_lt y (y +ℤ pos 0) ≡ false = grind (arith, ints) in
    here ∙ sym there
same_room x y (suc n) =
    let here : int_lt x (x +ℤ pos (suc n)) ≡ true = grind (arith, ints) in
    let there : int_lt y (y +ℤ pos (suc n)) ≡ true = grind (arith, ints) in
    here ∙ sym there

same_sides : (x y v w : ℤ) (m n : ℕ) →
    sides_of (rect_of x (x +ℤ pos m) v (v +ℤ pos n)) ≡ sides_of (rect_of y (y +ℤ pos m) w (w +ℤ pos n))
same_sides x y v w m n =
    by_tests (int_lt x (x +ℤ pos m)) (int_lt v (v +ℤ pos n))
    ∙ ap (λ a. sides_of (cond (a && int_lt v (v +ℤ pos n)) there empty_rect)) (same_room x y m)
    ∙ ap (λ b. sides_of (cond (int_lt y (y +ℤ pos m) && b) there empty_rect)) (same_room v w n)
  where
    there : Edges
    there = record { west = y; east = y +ℤ pos m; north = w; south = w +ℤ pos n }

    by_tests : (a b : Bool) → sides_of (cond (a && b) (record { west = x; east = x +ℤ pos m; north = v; south = v +ℤ pos n }) empty_rect)
        ≡ sides_of (cond (a && b) there empty_rect)
    by_tests true true = rw (unsigned_abs-added x m, unsigned_abs-added v n, unsigned_abs-added y m, unsigned_abs-added w n) refl
    by_tests true false = refl
    by_tests false b = refl

-- where a child is placed at its preferred size, the offset doesn't change its sides
pub preferred_sides : (e : Edges) (a b : Point) (s : Shapes) → sides_of (preferred_place e a s) ≡ sides_of (preferred_place e b s)
preferred_sides e a b s = by_test (has_points e)
  where
    by_test : (some : Bool) → sides_of (cond some (placed e a.h a.v (s.across.pref, s.down.pref)) empty_rect)
        ≡ sides_of (cond some (placed e b.h b.v (s.across.pref, s.down.pref)) empty_rect)
    by_test true = same_sides (e.west +ℤ a.h) (e.west +ℤ b.h) (e.north +ℤ a.v) (e.north +ℤ b.v) s.across.pref s.down.pref
    by_test false = refl

second_passed : (a b : Bool) (x y : NodeFault) → cond a (Some x) (cond (not b) (Some y) None) ≡ None → b ≡ true
second_passed a true x y h = refl
second_passed true false x y h = cc
second_passed false false x y h = cc

-- the child keeps its sides
pub moved_sides : (t : Seen) (child : NodeId) (at : Point) → IsForest t.nodes → IsEdit t.nodes (edits.Move child at) →
    refusal t.nodes (edits.Move child at) ≡ None → sides_of (domain (edited_tree t (edits.Move child at)) child) ≡ sides_of (domain t child)
moved_sides t child at forest fits allowed =
    by_parent (node t.nodes child).parent refl (second_passed _ (hangs t.nodes child) _ _ allowed)
  where
    u : Seen
    u = edited_tree t (edits.Move child at)

    new : IsForest u.nodes
    new = (follows_edited t.nodes (edits.Move child at) forest fits allowed).forest

    by_parent : (o : Option NodeId) → (node t.nodes child).parent ≡ o → is_some o ≡ true → sides_of (domain u child) ≡ sides_of (domain t child)
    by_parent None up some = cc
    by_parent (Some p) up some =
        let up_new : (node u.nodes child).parent ≡ Some p =
        changed_part (λ (x : Entry). x.parent) t.nodes child child (λ x. record x { at = at }) fits.0 refl ∙ up in
        let z : (node u.nodes p).kind ≡ kinds.Z = moved_kind t.nodes child at p fits.0 (first_passed _ _ _ allowed) up_new in
        let z_old : (node t.nodes p).kind ≡ kinds.Z =
        sym (changed_part (λ (x : Entry). x.kind) t.nodes child p (λ x. record x { at = at }) fits.0 refl) ∙ z in
        let e : Edges = domain t p in
        let stays : domain u p ≡ e = moved_domain t child at p forest fits allowed (parent_is_off u.nodes new child p up_new) in
        ap sides_of (domain_below u new child p up_new ∙ z_child u.nodes p child (domain u p) z (new.parents child p up_new)
        ∙ ap (λ (r : Edges). preferred_place r (node u.nodes child).at (shape u.nodes child)) stays
        ∙ ap (preferred_place e (node u.nodes child).at) (moved_shape t.nodes child at fits.0 child))
        ∙ preferred_sides e (node u.nodes child).at (node t.nodes child).at (shape t.nodes child)
        ∙ ap sides_of (sym (domain_below t forest child p up ∙ z_child t.nodes p child e z_old (forest.parents child p up)))

-- nothing but a leaf itself lies below it
pub under_leaf : (t : Nodes) (leaf n : NodeId) → IsForest t → is_leaf (node t leaf).kind ≡ true → is_under t leaf n ≡ true → n ≡ leaf
under_leaf t leaf n forest is under = elim (under_split t leaf n forest under) [ inl h ↦ h | inr h ↦ absurd (none h) ]
  where
    none : IsUnderChild t leaf n → ⊥
    none h =
        let clash : is_among h.child [] ≡ true = sym (ap (is_among h.child) (forest.leaves leaf is)) ∙ h.among in
        cc
