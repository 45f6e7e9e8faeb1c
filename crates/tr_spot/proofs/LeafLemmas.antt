-- What a leaf's spot tells: the point of the leaf's window, which lies in the window, and the window's size.
use Rattle.std.proofs.Common.{◌≡◌, ℕ, zero, suc, ℤ, pos, ◌-ℤ◌, Bool, true, false, ◌&&◌, cond, Option, Some, None, refl, sym, ap, ◌∙◌, arith}
use Rattle.std.specs.Prelude.{unsigned_abs}
use Rattle.std.specs.List.{find}
use Rattle.std.proofs.lemmas.Int.{ints}
use Rattle.tr_base.specs.declared.Point.{Point}
use Rattle.tr_base.specs.declared.NodeId.{NodeId}
use Rattle.tr_base.specs.declared.LeafId.{LeafId}
use Rattle.tr_base.specs.declared.Spot.TheVariants as spots
use Rattle.tr_base.specs.Rects.{Edges, between, has_point, whole_of}
use Rattle.tr_base.proofs.RectLemmas.{false-true, has_point-rect_of}
use Rattle.tr_forest.specs.declared.NodeKind.{NodeKind}
use Rattle.tr_forest.specs.declared.NodeKind.TheVariants as kinds
use Rattle.tr_forest.specs.Nodes.{node, leaf_of, node_of}
use Rattle.tr_forest.specs.Families.{levels}
use Rattle.tr_forest.specs.Forests.{IsForest}
use Rattle.tr_forest.proofs.LeafLemmas.{leaf_is_node_of}
use Rattle.tr_forest.proofs.FamilyLemmas.{same_id}
use Rattle.tr_tree.specs.Trees.{Seen}
use Rattle.tr_tree.specs.Places.{domain}
use Rattle.tr_tree.proofs.DomainLemmas.{root_domain}
use Rattle.tr_spot.specs.Spots.{followed, owner, owner_within, spot, spot_on, spot_below, from_corner, size_of, is_in_leaf}
use Rattle.tr_spot.specs.Leaves.{leaf_domain, leaf_size, in_leaf}
use Rattle.tr_spot.proofs.NodeLemmas.{find_passes}
use Rattle.tr_spot.proofs.WayLemmas.{equal_numbers, and_left, and_right}
use Rattle.tr_spot.proofs.SpotLemmas.{leaf_by_number}

-- the point is one of the leaf's window
pub record IsPartOf (t : Seen) (leaf : LeafId) (p : Point) : Type 0 where
  pub on : has_point (whole_of t.size) p ≡ true
  pub is : spot t p ≡ spots.Leaf leaf (in_leaf t leaf p) (leaf_size t leaf) t.kind
  pub within : has_point (whole_of (leaf_size t leaf)) (in_leaf t leaf p) ≡ true

-- the owner's domain has the point
owner_within-has : (f : ℕ) (t : Seen) (n : NodeId) (p : Point) → has_point (domain t n) p ≡ true → has_point (domain t (owner_within f t n p)) p ≡ true
unfolding owner_within
owner_within-has zero t n p has = has
owner_within-has (suc f) t n p has = by_child (find (λ c. has_point (domain t c) p) (node t.nodes n).children) refl (λ c h. owner_within-has f t c p h)
  where
    by_child : (o : Option NodeId) → find (λ c. has_point (domain t c) p) (node t.nodes n).children ≡ o →
        ((c : NodeId) → has_point (domain t c) p ≡ true → has_point (domain t (owner_within f t c p)) p ≡ true) →
        has_point (domain t (followed n (λ c. owner_within f t c p) o)) p ≡ true
    by_child None e below = has
    by_child (Some c) e below = below c (find_passes (λ k. has_point (domain t k) p) (node t.nodes n).children c e)

-- a point between two edges, by its distance from the first
between-start : (low high x : ℤ) → between low high x ≡ true → between (pos 0) (pos (unsigned_abs (high -ℤ low))) (x -ℤ low) ≡ true
between-start low high x h = grind (arith, ints)

and_both : (a b : Bool) → a ≡ true → b ≡ true → a && b ≡ true
and_both true b h k = k
and_both false b h k = h

-- a point of a rectangle, by its distance from the corner, is one of the window of its size
in_window : (e : Edges) (p : Point) → has_point e p ≡ true → has_point (whole_of (size_of e)) (from_corner e p) ≡ true
in_window e p h =
    has_point-rect_of (pos 0) (pos (size_of e).wide) (pos 0) (pos (size_of e).high) (from_corner e p)
    ∙ and_both _ _ (between-start e.west e.east p.h (and_left _ _ h)) (between-start e.north e.south p.v (and_right (between e.west e.east p.h) _ h))

by_kind : (t : Seen) → IsForest t.nodes → (leaf : LeafId) (p : Point) (n : NodeId) → has_point (whole_of t.size) p ≡ true → has_point (domain t n) p ≡ true →
    (kind : NodeKind) → (node t.nodes n).kind ≡ kind → is_in_leaf leaf (spot_on t p n kind) ≡ true → spot t p ≡ spot_on t p n kind → IsPartOf t leaf p
by_kind t forest leaf p n on has (kinds.Leaf own shapes) e h is =
    let same : own ≡ leaf = leaf_by_number own leaf (equal_numbers own.0 leaf.0 h) in
    let at : n ≡ node_of t.nodes leaf =
    same_id n (node_of t.nodes leaf) (leaf_is_node_of t.nodes n leaf forest (ap leaf_of e ∙ ap (λ (l : LeafId). Some l) same)) in
    record {
      on = on;
      is = is
          ∙ ap (λ (l : LeafId). spots.Leaf l (from_corner (domain t n) p) (size_of (domain t n)) t.kind) same
          ∙ ap (λ (m : NodeId). spots.Leaf leaf (from_corner (domain t m) p) (size_of (domain t m)) t.kind) at;
      within = in_window (leaf_domain t leaf) p (ap (λ (m : NodeId). has_point (domain t m) p) (sym at) ∙ has);
    }
by_kind t forest leaf p n on has kind e h is = absurd (false-true h)

by_root : (t : Seen) → IsForest t.nodes → (leaf : LeafId) (p : Point) → has_point (whole_of t.size) p ≡ true → (o : Option NodeId) → t.nodes.root ≡ o →
    is_in_leaf leaf (spot_below t p o) ≡ true → spot t p ≡ spot_below t p o → IsPartOf t leaf p
by_root t forest leaf p on None e h is = absurd (false-true h)
by_root t forest leaf p on (Some root) e h is =
    let n : NodeId = owner t root p in
    let has : has_point (domain t n) p ≡ true = owner_within-has levels t root p (ap (λ (d : Edges). has_point d p) (root_domain t forest root e) ∙ on) in
    by_kind t forest leaf p n on has (node t.nodes n).kind refl h is

-- a point whose spot is in the leaf is one of the leaf's window
pub part_of : (t : Seen) → IsForest t.nodes → (leaf : LeafId) (p : Point) → is_in_leaf leaf (spot t p) ≡ true → IsPartOf t leaf p
part_of t forest leaf p = by_screen (has_point (whole_of t.size) p) refl
  where
    by_screen : (b : Bool) → has_point (whole_of t.size) p ≡ b → is_in_leaf leaf (cond b (spot_below t p t.nodes.root) spots.Off) ≡ true → IsPartOf t leaf p
    by_screen true on h = by_root t forest leaf p on t.nodes.root refl h (ap (λ b. cond b (spot_below t p t.nodes.root) spots.Off) on)
    by_screen false off h = absurd (false-true h)
