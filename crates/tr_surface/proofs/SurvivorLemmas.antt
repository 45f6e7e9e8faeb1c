-- What survives of the points of one node.
use Rattle.std.proofs.Common.{◌≡◌, ℕ, ℤ, ◌-ℤ◌, Bool, true, false, cond, not, ◌&&◌, ◌||◌, ◌==◌, Option, Some, None, refl, sym, ap, ◌∙◌, arith}
use Rattle.std.specs.Ordering.{int_eq}
use Rattle.std.proofs.lemmas.Int.{ints}
use Rattle.std.proofs.lemmas.Bool.Decides.{Decides-int_eq, same_from_decides, Decides-like}
use Rattle.std.proofs.lemmas.Option.{none-some, same_Some}
use Rattle.tr_base.specs.declared.Point.{Point}
use Rattle.tr_base.specs.declared.Size.{Size}
use Rattle.tr_base.specs.declared.Kind.{Kind}
use Rattle.tr_base.specs.declared.NodeId.{NodeId}
use Rattle.tr_base.specs.declared.LeafId.{LeafId}
use Rattle.tr_base.specs.declared.Spot.{Spot}
use Rattle.tr_base.specs.declared.Spot.TheVariants as spots
use Rattle.tr_base.specs.Rects.{before_shift, has_point, whole_of}
use Rattle.tr_base.proofs.BoolLemmas.{same_number, from_false-true}
use Rattle.tr_base.proofs.KindLemmas.{same_kind_itself}
use Rattle.tr_forest.specs.declared.NodeKind.{NodeKind}
use Rattle.tr_forest.specs.declared.NodeKind.TheVariants as kinds
use Rattle.tr_forest.specs.Nodes.{node, leaf_of, is_leaf}
use Rattle.tr_forest.specs.Forests.{IsForest}
use Rattle.tr_tree.specs.Trees.{Seen}
use Rattle.tr_tree.specs.Places.{domain}
use Rattle.tr_spot.specs.Spots.{spot, spot_on, spot_below, is_in_leaf, is_on_frame, is_spot_of, from_corner}
use Rattle.tr_spot.specs.Ways.{ends_at, owns}
use Rattle.tr_spot.specs.Leaves.{same_size}
use Rattle.tr_spot.proofs.WayLemmas.{and_left, and_right, equal_numbers, it_is}
use Rattle.tr_spot.proofs.SpotLemmas.{spot_is, leaf_spot, frame_spot}
use Rattle.tr_surface.specs.declared.survivors.Survivors.TheVariants as variants
use Rattle.tr_surface.specs.Surfaces.{is_on}
use Rattle.tr_surface.specs.TreeSteps.{WindowFacts, is_kept, same_point, survives}
use Rattle.tr_surface.specs.Survivors.{corner, domain_size, leaf_survivors, survivors_by, has_survivor}

-- ---- tests

-- a coordinate less one origin is that less the other where the origins differ by as much as the coordinates
along : (x by o n : ℤ) → int_eq ((x -ℤ by) -ℤ o) (x -ℤ n) ≡ int_eq (n -ℤ by) o
along x by o n = same_from_decides _ _ (Decides-like _ there back (Decides-int_eq ((x -ℤ by) -ℤ o) (x -ℤ n))) (Decides-int_eq (n -ℤ by) o)
  where
    there : (x -ℤ by) -ℤ o ≡ x -ℤ n → n -ℤ by ≡ o
    there e = omega (arith, ints)

    back : n -ℤ by ≡ o → (x -ℤ by) -ℤ o ≡ x -ℤ n
    back e = omega (arith, ints)

same_place : (p by o n : Point) → same_point (before_shift (before_shift p by) o) (before_shift p n) ≡ same_point (before_shift n by) o
same_place p by o n = rw (along p.h by.h o.h n.h, along p.v by.v o.v n.v) refl

-- ---- the spot of a node

-- at a point of a node the spot is what the node makes it
pub record Owns (t : Seen) (n : NodeId) (p : Point) : Type 0 where
  pub on : is_on t p ≡ true
  pub spot : spot t p ≡ spot_on t p n (node t.nodes n).kind

pub owns_point : (t : Seen) → IsForest t.nodes → (n : NodeId) (p : Point) → is_spot_of t n (spot t p) ≡ true → Owns t n p
owns_point t forest n p h = record {
  on = on;
  spot = ap (λ b. cond b (spot_below t p t.nodes.root) spots.Off) on
      ∙ by_root t.nodes.root (it_is n _ (and_right (has_point (whole_of t.size) p) _ mine));
}
  where
    mine : owns t p n ≡ true
    mine = spot_is t forest p n ∙ h

    on : is_on t p ≡ true
    on = and_left (has_point (whole_of t.size) p) _ mine

    by_root : (o : Option NodeId) → ends_at t p o ≡ Some n → spot_below t p o ≡ spot_on t p n (node t.nodes n).kind
    by_root None e = absurd (none-some n e)
    by_root (Some root) e = ap (λ (m : NodeId). spot_on t p m (node t.nodes m).kind) (same_Some _ n e)

pub leaf_on : (t : Seen) (p : Point) (n : NodeId) (kind : NodeKind) (leaf : LeafId) → leaf_of kind ≡ Some leaf →
    spot_on t p n kind ≡ spots.Leaf leaf (from_corner (domain t n) p) (domain_size t n) t.kind
leaf_on t p n (kinds.Leaf own shapes) leaf e = ap (λ (l : LeafId). spots.Leaf l (from_corner (domain t n) p) (domain_size t n) t.kind) (same_Some own leaf e)
leaf_on t p n kind leaf e = absurd (none-some leaf e)

pub frame_on : (t : Seen) (p : Point) (n : NodeId) (kind : NodeKind) → leaf_of kind ≡ None → spot_on t p n kind ≡ spots.Frame n (node t.nodes n).tint t.kind
frame_on t p n (kinds.Leaf own shapes) e = absurd (none-some own (sym e))
frame_on t p n kind e = refl

no_leaf : (kind : NodeKind) → leaf_of kind ≡ None → is_leaf kind ≡ false
no_leaf (kinds.Leaf own shapes) e = absurd (none-some own (sym e))
no_leaf kind e = refl

-- ---- what survives between two spots of a leaf, and of a frame

leaves_survive : (k : WindowFacts) (leaf : LeafId) (p by o n : Point) (from to : Size) (kind : Kind) →
    survives k (spots.Leaf leaf (before_shift (before_shift p by) o) from kind) (spots.Leaf leaf (before_shift p n) to kind)
    ≡ has_survivor k (leaf_survivors (same_point (before_shift n by) o) leaf from to) (before_shift p n)
leaves_survive k leaf p by o n from to kind = rw (same_number leaf.0, same_place p by o n, same_kind_itself kind) (by_place (same_point (before_shift n by) o))
  where
    q : Point
    q = before_shift p n

    by_size : (y : Bool) →
        ((((true && true) && y) && true) || ((((true && true) && true) && not y) && is_kept k leaf from to q))
        ≡ has_survivor k (cond y variants.All (variants.Kept leaf from to)) q
    by_size true = refl
    by_size false = refl

    by_place : (x : Bool) →
        ((((true && x) && same_size from to) && true) || ((((true && x) && true) && not (same_size from to)) && is_kept k leaf from to q))
        ≡ has_survivor k (leaf_survivors x leaf from to) q
    by_place true = by_size (same_size from to)
    by_place false = refl

frames_survive : (k : WindowFacts) (n : NodeId) (a b : ℕ) (kind : Kind) (q : Point) →
    survives k (spots.Frame n a kind) (spots.Frame n b kind) ≡ has_survivor k (cond (a == b) variants.All variants.Nothing) q
frames_survive k n a b kind q = rw (same_number n.0, same_kind_itself kind) (by_test (a == b))
  where
    by_test : (x : Bool) → (((true && x) && true) || false) ≡ has_survivor k (cond x variants.All variants.Nothing) q
    by_test true = refl
    by_test false = refl

-- ---- what survives between two spots, of which the second is a node's

-- a leaf's points survive in the leaf alone
leaf_apart : (k : WindowFacts) (leaf : LeafId) (s t : Spot) → is_in_leaf leaf s ≡ false → is_in_leaf leaf t ≡ true → survives k s t ≡ false
leaf_apart k leaf (spots.Leaf a p from old) (spots.Leaf b q to new) h here =
    let apart : (a.0 == b.0) ≡ false = ap (λ (m : ℕ). (a.0 == m)) (equal_numbers b.0 leaf.0 here) ∙ h in
    rw apart refl
leaf_apart k leaf (spots.Frame n a old) (spots.Leaf b q to new) h here = refl
leaf_apart k leaf spots.Off (spots.Leaf b q to new) h here = refl
leaf_apart k leaf s (spots.Frame n b new) h here = from_false-true here
leaf_apart k leaf s spots.Off h here = from_false-true here

-- a frame's in the frame alone
frame_apart : (k : WindowFacts) (n : NodeId) (s t : Spot) → is_on_frame n s ≡ false → is_on_frame n t ≡ true → survives k s t ≡ false
frame_apart k n (spots.Frame a x old) (spots.Frame b y new) h here =
    let apart : (a.0 == b.0) ≡ false = ap (λ (m : ℕ). (a.0 == m)) (equal_numbers b.0 n.0 here) ∙ h in
    rw apart refl
frame_apart k n (spots.Leaf a p from old) (spots.Frame b y new) h here = refl
frame_apart k n spots.Off (spots.Frame b y new) h here = refl
frame_apart k n s (spots.Leaf b q to new) h here = from_false-true here
frame_apart k n s spots.Off h here = from_false-true here

-- a point of a node, and one that isn't, before and after
abbrev pub IsOf : Seen → NodeId → Point → Bool
IsOf t n p = is_spot_of t n (spot t p)

-- both trees are forests
pub record AreForests (was is : Seen) : Type 0 where
  pub before : IsForest was.nodes
  pub after : IsForest is.nodes

-- where the node had the point before, it survives where it is among the node's survivors
pub there : (k : WindowFacts) (was is : Seen) → AreForests was is → is.kind ≡ was.kind → (n : NodeId) →
    (o : Option LeafId) → leaf_of (node is.nodes n).kind ≡ o → leaf_of (node was.nodes n).kind ≡ o →
    (by p : Point) → IsOf was n (before_shift p by) ≡ true → IsOf is n p ≡ true →
    survives k (spot was (before_shift p by)) (spot is p) ≡ has_survivor k (survivors_by was is by n o) (from_corner (domain is n) p)
there k was is forests kind n o is_o was_o by p before after =
    let s = before_shift p by in
    rw ((owns_point was forests.before n s before).spot, (owns_point is forests.after n p after).spot) (by_leaf o is_o was_o)
  where
    by_leaf : (o : Option LeafId) → leaf_of (node is.nodes n).kind ≡ o → leaf_of (node was.nodes n).kind ≡ o →
        survives k (spot_on was (before_shift p by) n (node was.nodes n).kind) (spot_on is p n (node is.nodes n).kind)
        ≡ has_survivor k (survivors_by was is by n o) (from_corner (domain is n) p)
    by_leaf (Some leaf) e f =
        let old : Spot = spots.Leaf leaf (from_corner (domain was n) (before_shift p by)) (domain_size was n) was.kind in
        rw (leaf_on was (before_shift p by) n (node was.nodes n).kind leaf f, leaf_on is p n (node is.nodes n).kind leaf e)
        (ap (λ (z : Kind). survives k old (spots.Leaf leaf (from_corner (domain is n) p) (domain_size is n) z)) kind
        ∙ leaves_survive k leaf p by (corner was n) (corner is n) (domain_size was n) (domain_size is n) was.kind)
    by_leaf None e f =
        rw (frame_on was (before_shift p by) n (node was.nodes n).kind f, frame_on is p n (node is.nodes n).kind e)
        (ap (λ (z : Kind). survives k (spots.Frame n (node was.nodes n).tint was.kind) (spots.Frame n (node is.nodes n).tint z)) kind
        ∙ frames_survive k n (node was.nodes n).tint (node is.nodes n).tint was.kind (from_corner (domain is n) p))

-- where it hadn't, nothing does
pub apart : (k : WindowFacts) (was is : Seen) (n : NodeId) → leaf_of (node is.nodes n).kind ≡ leaf_of (node was.nodes n).kind →
    (s p : Point) → IsOf was n s ≡ false → IsOf is n p ≡ true → survives k (spot was s) (spot is p) ≡ false
apart k was is n same s p before after = by_leaf (leaf_of (node was.nodes n).kind) same refl
  where
    by_leaf : (o : Option LeafId) → leaf_of (node is.nodes n).kind ≡ o → leaf_of (node was.nodes n).kind ≡ o → survives k (spot was s) (spot is p) ≡ false
    by_leaf (Some leaf) e f = leaf_apart k leaf (spot was s) (spot is p)
        (sym (leaf_spot (node was.nodes n).kind leaf n (spot was s) f) ∙ before) (sym (leaf_spot (node is.nodes n).kind leaf n (spot is p) e) ∙ after)
    by_leaf None e f = frame_apart k n (spot was s) (spot is p)
        (sym (frame_spot (node was.nodes n).kind n (spot was s) (no_leaf _ f)) ∙ before)
        (sym (frame_spot (node is.nodes n).kind n (spot is p) (no_leaf _ e)) ∙ after)
