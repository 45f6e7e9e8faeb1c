-- Which windows keep their sizes: those whose rectangles have the same edges, and all after some edits.
use Rattle.std.proofs.Common.{◌≡◌, ◌<◌, ℕ, zero, suc, Bool, true, false, cond, not, ◌&&◌, None, refl, sym, ap, ◌∙◌, arith}
use Rattle.tr_base.specs.declared.NodeId.{NodeId}
use Rattle.tr_base.specs.declared.LeafId.{LeafId}
use Rattle.tr_base.specs.declared.Point.{Point}
use Rattle.tr_base.specs.declared.Size.{Size}
use Rattle.tr_base.specs.declared.Kind.{Kind}
use Rattle.tr_base.specs.declared.Event.TheVariants as events
use Rattle.tr_base.specs.Ops.{same_kind}
use Rattle.tr_base.specs.Rects.{Edges, sides_of}
use Rattle.tr_base.proofs.BoolLemmas.{same_number}
use Rattle.tr_base.proofs.KindLemmas.{same_kind_itself}
use Rattle.tr_forest.specs.declared.Edit.{Edit}
use Rattle.tr_forest.specs.declared.Edit.TheVariants as edits
use Rattle.tr_forest.specs.Nodes.{Nodes, Entry, is_leaf, leaf_count, node, node_of}
use Rattle.tr_forest.specs.Families.{is_under}
use Rattle.tr_forest.specs.Forests.{IsForest}
use Rattle.tr_forest.specs.Edits.{IsEdit, edited, refusal}
use Rattle.tr_forest.proofs.FamilyLemmas.{same_id}
use Rattle.tr_forest.proofs.Keeping.{Follows, changed_part}
use Rattle.tr_forest.proofs.LeafLemmas.{leaf_is_node_of, node_of_is_leaf}
use Rattle.tr_forest.proofs.Editing.{follows_edited}
use Rattle.tr_tree.specs.Trees.{Seen, edited_tree, kind_after}
use Rattle.tr_tree.specs.Places.{domain}
use Rattle.tr_tree.proofs.MoveLemmas.{lifted_domain, moved_domain, moved_sides, tinted_domain, under_leaf}
use Rattle.tr_spot.specs.Spots.{size_of}
use Rattle.tr_spot.specs.Leaves.{leaf_domain, leaf_size, same_size}
use Rattle.tr_mail.specs.Mails.{Sending, send}
use Rattle.tr_mail.specs.Deliveries.{is_reshaped, reshape, reshape_below}
use Rattle.tr_mail.specs.Sizes.{keeps_sizes}

pub same_rects : (a b : Edges) → a ≡ b → same_size (size_of a) (size_of b) ≡ true
same_rects a b is =
    ap (λ (e : Edges). same_size (size_of e) (size_of b)) is
    ∙ rw (same_number (size_of b).wide, same_number (size_of b).high) refl

-- where no leaf is reshaped, none is told
pub unreshaped : (n : ℕ) (was is : Seen) (s : Sending) → ((leaf : LeafId) → leaf.0 < n → is_reshaped was is leaf ≡ false) → reshape_below n was is s ≡ s
unfolding reshape_below
unreshaped zero was is s none = refl
unreshaped (suc n) was is s none =
    ap (reshape was is (record { 0 = n })) (unreshaped n was is s (λ leaf lt. none leaf (omega (arith, lt))))
    ∙ ap (λ b. cond b (send (record { 0 = n }) (events.Reshape (leaf_size is (record { 0 = n })) is.kind) s) s) (none (record { 0 = n }) (omega arith))

-- a window with the same sides and the same kind of pixels isn't reshaped
same_window : (was is : Seen) (leaf : LeafId) → sides_of (leaf_domain is leaf) ≡ sides_of (leaf_domain was leaf) → is.kind ≡ was.kind →
    is_reshaped was is leaf ≡ false
same_window was is leaf sides kind =
    let size : leaf_size is leaf ≡ leaf_size was leaf = ap (λ (s : ℕ × ℕ). record { wide = s.0; high = s.1 }) sides in
    ap (λ (z : Size). not (same_size (leaf_size was leaf) z && same_kind was.kind is.kind)) size
    ∙ ap (λ (k : Kind). not (same_size (leaf_size was leaf) (leaf_size was leaf) && same_kind was.kind k)) kind
    ∙ rw (same_number (leaf_size was leaf).wide, same_number (leaf_size was leaf).high, same_kind_itself was.kind) refl

-- an edit leaves which node each leaf is
still_leaf : (t u : Nodes) (leaf : LeafId) → IsForest t → Follows t u → leaf.0 < leaf_count t → node_of u leaf ≡ node_of t leaf
still_leaf t u leaf forest f lt =
    sym (same_id (node_of t leaf) (node_of u leaf)
    (leaf_is_node_of u (node_of t leaf) leaf f.forest (f.values.leaf (node_of t leaf) ∙ node_of_is_leaf t leaf forest lt)))

-- an edit that leaves the sides of all nodes, and the kind of pixels, reshapes no leaf
all_kept : (t : Seen) (edit : Edit) (leaf : LeafId) → IsForest t.nodes → IsEdit t.nodes edit → refusal t.nodes edit ≡ None → leaf.0 < leaf_count t.nodes →
    kind_after edit t.kind ≡ t.kind → ((n : NodeId) → sides_of (domain (edited_tree t edit) n) ≡ sides_of (domain t n)) →
    is_reshaped t (edited_tree t edit) leaf ≡ false
all_kept t edit leaf forest fits allowed lt kind each =
    same_window t (edited_tree t edit) leaf
    (ap (λ (n : NodeId). sides_of (domain (edited_tree t edit) n))
    (still_leaf t.nodes (edited t.nodes edit) leaf forest (follows_edited t.nodes edit forest fits allowed) lt)
    ∙ each (node_of t.nodes leaf))
    kind

-- a move of a window leaves the sides of all nodes
moved_kept : (t : Seen) (child : NodeId) (at : Point) → IsForest t.nodes → IsEdit t.nodes (edits.Move child at) →
    refusal t.nodes (edits.Move child at) ≡ None → is_leaf (node t.nodes child).kind ≡ true → (n : NodeId) →
    sides_of (domain (edited_tree t (edits.Move child at)) n) ≡ sides_of (domain t n)
moved_kept t child at forest fits allowed leaf n = by_test (is_under u child n) refl
  where
    u : Nodes
    u = edited t.nodes (edits.Move child at)

    by_test : (b : Bool) → is_under u child n ≡ b → sides_of (domain (edited_tree t (edits.Move child at)) n) ≡ sides_of (domain t n)
    by_test true h =
        let still : is_leaf (node u child).kind ≡ true =
        changed_part (λ (x : Entry). is_leaf x.kind) t.nodes child child (λ x. record x { at = at }) fits.0 refl ∙ leaf in
        let is : n ≡ child = under_leaf u child n (follows_edited t.nodes (edits.Move child at) forest fits allowed).forest still h in
        ap (λ (m : NodeId). sides_of (domain (edited_tree t (edits.Move child at)) m)) is
        ∙ moved_sides t child at forest fits allowed
        ∙ ap (λ (m : NodeId). sides_of (domain t m)) (sym is)
    by_test false h = ap sides_of (moved_domain t child at n forest fits allowed h)

pub sizes_kept : (t : Seen) (edit : Edit) → IsForest t.nodes → IsEdit t.nodes edit → refusal t.nodes edit ≡ None → keeps_sizes t.nodes edit ≡ true →
    (leaf : LeafId) → leaf.0 < leaf_count t.nodes → is_reshaped t (edited_tree t edit) leaf ≡ false
sizes_kept t (edits.Tint m tint) forest fits allowed keeps leaf lt =
    all_kept t (edits.Tint m tint) leaf forest fits allowed lt refl (λ n. ap sides_of (tinted_domain t m n tint fits))
sizes_kept t (edits.Lift child) forest fits allowed keeps leaf lt =
    all_kept t (edits.Lift child) leaf forest fits allowed lt refl (λ n. ap sides_of (lifted_domain t child n forest fits allowed))
sizes_kept t (edits.Move child at) forest fits allowed keeps leaf lt =
    all_kept t (edits.Move child at) leaf forest fits allowed lt refl (moved_kept t child at forest fits allowed keeps)
sizes_kept t edit forest fits allowed keeps leaf lt = cc
