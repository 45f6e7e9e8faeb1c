-- What belongs to a node: the points that it owns, where the spot is its leaf's or its frame's.
use Rattle.std.proofs.Common.{◌≡◌, ℕ, Bool, true, false, cond, ◌&&◌, ◌==◌, Option, Some, None, refl, sym, ap, ◌∙◌}
use Rattle.std.proofs.lemmas.Option.{none-some, same_Some}
use Rattle.tr_base.specs.declared.Point.{Point}
use Rattle.tr_base.specs.declared.NodeId.{NodeId}
use Rattle.tr_base.specs.declared.LeafId.{LeafId}
use Rattle.tr_base.specs.declared.Spot.{Spot}
use Rattle.tr_base.specs.declared.Spot.TheVariants as spots
use Rattle.tr_base.specs.Rects.{has_point, whole_of}
use Rattle.tr_base.proofs.RectLemmas.{false-true}
use Rattle.tr_forest.specs.declared.NodeKind.{NodeKind}
use Rattle.tr_forest.specs.declared.NodeKind.TheVariants as kinds
use Rattle.tr_forest.specs.Nodes.{Nodes, node, is_leaf, leaf_of}
use Rattle.tr_forest.specs.Forests.{IsForest}
use Rattle.tr_forest.proofs.FamilyLemmas.{same_id}
use Rattle.tr_tree.specs.Trees.{Seen}
use Rattle.tr_spot.specs.Spots.{owner, spot, spot_on, spot_below, is_in_leaf, is_on_frame, is_spot_as, is_spot_of}
use Rattle.tr_spot.specs.Ways.{is_it, ends_at, owns}
use Rattle.tr_spot.proofs.WayLemmas.{equal_numbers, equal_test, same_tests}

-- nodes of which one alone is a leaf differ
apart : (t : Nodes) (m n : NodeId) → is_leaf (node t m).kind ≡ true → is_leaf (node t n).kind ≡ false → (m.0 == n.0) ≡ false
apart t m n leaf other = by_test (m.0 == n.0) refl
  where
    by_test : (b : Bool) → (m.0 == n.0) ≡ b → b ≡ false
    by_test true is = sym leaf ∙ ap (λ (k : NodeId). is_leaf (node t k).kind) (same_id m n (equal_numbers m.0 n.0 is)) ∙ other
    by_test false is = refl

swapped : (m n : NodeId) → (m.0 == n.0) ≡ false → (n.0 == m.0) ≡ false
swapped m n h = by_test (n.0 == m.0) refl
  where
    by_test : (b : Bool) → (n.0 == m.0) ≡ b → b ≡ false
    by_test true is = sym (equal_test m.0 n.0 (sym (equal_numbers n.0 m.0 is))) ∙ h
    by_test false is = refl

-- a leaf is told by its number
pub leaf_by_number : (a b : LeafId) → a.0 ≡ b.0 → a ≡ b
leaf_by_number a b e = let numbered : ℕ → LeafId = λ k. record { 0 = k } in ap numbered e

off : (n : NodeId) (kind : NodeKind) → false ≡ is_spot_as kind n spots.Off
off n (kinds.Leaf leaf shapes) = refl
off n kind = refl

by_kinds : (t : Seen) → IsForest t.nodes → (p : Point) (o n : NodeId) (ko kn : NodeKind) → (node t.nodes o).kind ≡ ko → (node t.nodes n).kind ≡ kn →
    (o.0 == n.0) ≡ is_spot_as kn n (spot_on t p o ko)
by_kinds t forest p o n (kinds.Leaf lo so) (kinds.Leaf ln sn) eo en = same_tests _ _ there back
  where
    there : (o.0 == n.0) ≡ true → (lo.0 == ln.0) ≡ true
    there h =
        let same : kinds.Leaf lo so ≡ kinds.Leaf ln sn = sym eo ∙ ap (λ (k : NodeId). (node t.nodes k).kind) (same_id o n (equal_numbers o.0 n.0 h)) ∙ en in
        let leaf : lo ≡ ln = cc in
        equal_test lo.0 ln.0 (ap (λ (l : LeafId). l.0) leaf)

    back : (lo.0 == ln.0) ≡ true → (o.0 == n.0) ≡ true
    back h =
        let leaf : lo ≡ ln = leaf_by_number lo ln (equal_numbers lo.0 ln.0 h) in
        equal_test o.0 n.0 (forest.unlike o n ln (ap leaf_of eo ∙ ap (λ (l : LeafId). Some l) leaf) (ap leaf_of en))
by_kinds t forest p o n (kinds.Leaf lo so) kn eo en = apart t.nodes o n (ap is_leaf eo) (ap is_leaf en)
by_kinds t forest p o n ko (kinds.Leaf ln sn) eo en = swapped n o (apart t.nodes n o (ap is_leaf en) (ap is_leaf eo))
by_kinds t forest p o n ko kn eo en = refl

by_root : (t : Seen) → IsForest t.nodes → (p : Point) (n : NodeId) (o : Option NodeId) → is_it n (ends_at t p o) ≡ is_spot_of t n (spot_below t p o)
by_root t forest p n None = off n (node t.nodes n).kind
by_root t forest p n (Some root) = by_kinds t forest p (owner t root p) n (node t.nodes (owner t root p)).kind (node t.nodes n).kind refl refl

by_screen : (t : Seen) (p : Point) (n : NodeId) (b : Bool) → is_it n (ends_at t p t.nodes.root) ≡ is_spot_of t n (spot_below t p t.nodes.root) →
    (b && is_it n (ends_at t p t.nodes.root)) ≡ is_spot_of t n (cond b (spot_below t p t.nodes.root) spots.Off)
by_screen t p n true h = h
by_screen t p n false h = off n (node t.nodes n).kind

-- a node owns just the points whose spot is the node's
pub spot_is : (t : Seen) → IsForest t.nodes → (p : Point) (n : NodeId) → owns t p n ≡ is_spot_of t n (spot t p)
spot_is t forest p n = by_screen t p n (has_point (whole_of t.size) p) (by_root t forest p n t.nodes.root)

-- the spots of a leaf, and of another node
pub leaf_spot : (kind : NodeKind) (leaf : LeafId) (n : NodeId) (s : Spot) → leaf_of kind ≡ Some leaf → is_spot_as kind n s ≡ is_in_leaf leaf s
leaf_spot (kinds.Leaf own shapes) leaf n s h = let same : own ≡ leaf = same_Some own leaf h in ap (λ (l : LeafId). is_in_leaf l s) same
leaf_spot kind leaf n s h = absurd (none-some leaf h)

pub frame_spot : (kind : NodeKind) (n : NodeId) (s : Spot) → is_leaf kind ≡ false → is_spot_as kind n s ≡ is_on_frame n s
frame_spot (kinds.Leaf leaf shapes) n s h = absurd (false-true (sym h))
frame_spot kind n s h = refl

-- no point belongs to the frame of a leaf
no_frame_of : (t : Seen) (p : Point) (o n : NodeId) (ko : NodeKind) → (node t.nodes o).kind ≡ ko →
    is_leaf (node t.nodes n).kind ≡ true → false ≡ is_on_frame n (spot_on t p o ko)
no_frame_of t p o n (kinds.Leaf leaf shapes) eo h = refl
no_frame_of t p o n ko eo h = sym (swapped n o (apart t.nodes n o h (ap is_leaf eo)))

no_frame_below : (t : Seen) (p : Point) (n : NodeId) (o : Option NodeId) → is_leaf (node t.nodes n).kind ≡ true → false ≡ is_on_frame n (spot_below t p o)
no_frame_below t p n None h = refl
no_frame_below t p n (Some root) h = no_frame_of t p (owner t root p) n (node t.nodes (owner t root p)).kind refl h

pub no_frame : (t : Seen) (p : Point) (n : NodeId) → is_leaf (node t.nodes n).kind ≡ true → false ≡ is_on_frame n (spot t p)
no_frame t p n h = by_test (has_point (whole_of t.size) p)
  where
    by_test : (b : Bool) → false ≡ is_on_frame n (cond b (spot_below t p t.nodes.root) spots.Off)
    by_test true = no_frame_below t p n t.nodes.root h
    by_test false = refl
