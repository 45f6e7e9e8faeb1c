-- What is painted of the frames, and which points of them are bad.
use Rattle.std.proofs.Common.{◌≡◌, ℕ, zero, suc, ◌<◌, Bool, true, false, ◌&&◌, ◌||◌, not, cond, List, [], Option, Some, None, length, get_or, refl, sym, ap, ◌∙◌, arith}
use Rattle.std.proofs.lemmas.List.Folds.{list_any_at, list_any_none}
use Rattle.std.proofs.lemmas.Bool.{and_from}
use Rattle.std.proofs.lemmas.List.Elements.{All-from_get_or}
use Rattle.tr_base.specs.declared.Point.{Point}
use Rattle.tr_base.specs.declared.Size.{Size}
use Rattle.tr_base.specs.declared.NodeId.{NodeId}
use Rattle.tr_base.specs.declared.Spot.{Spot}
use Rattle.tr_base.specs.declared.Spot.TheVariants as spots
use Rattle.tr_base.specs.declared.Op.TheVariants.{Set}
use Rattle.tr_base.specs.Ops.{eff}
use Rattle.tr_base.specs.Rects.{Edges, has_point, whole_of}
use Rattle.tr_base.proofs.RectLemmas.{false-true}
use Rattle.tr_region.specs.Points.{holds}
use Rattle.tr_screen.specs.Pictures.{Picture, pixel_of}
use Rattle.tr_screen.specs.Runs.{Repaints}
use Rattle.tr_exec.specs.Walks.{in_area}
use Rattle.tr_forest.specs.declared.NodeKind.{NodeKind}
use Rattle.tr_forest.specs.declared.NodeKind.TheVariants as kinds
use Rattle.tr_forest.specs.Nodes.{node, is_leaf, IsNode}
use Rattle.tr_forest.specs.Families.{levels}
use Rattle.tr_forest.specs.Forests.{IsForest}
use Rattle.tr_forest.proofs.FamilyLemmas.{same_id}
use Rattle.tr_tree.specs.Trees.{Seen}
use Rattle.tr_tree.specs.Places.{domain}
use Rattle.tr_tree.proofs.DomainLemmas.{root_domain}
use Rattle.tr_spot.specs.Spots.{followed, owner, owner_within, spot, spot_on, spot_below, is_on_frame, region_of}
use Rattle.tr_spot.specs.Ways.{front}
use Rattle.tr_spot.proofs.NodeLemmas.{find_passes}
use Rattle.tr_spot.proofs.OwnerLemmas.{front_below}
use Rattle.tr_spot.proofs.SpotLemmas.{frame_spot, no_frame}
use Rattle.tr_spot.proofs.WayLemmas.{equal_numbers, equal_test, and_left, and_right, same_tests}
use Rattle.tr_surface.specs.Surfaces.{AreOwn, IsShown, Shown, any_holds, is_bad, is_on, is_frame, frame_colour}
use Rattle.tr_surface.specs.Frames.{AreBadFrames, AreGoodFrames}
use Rattle.tr_surface.proofs.SurvivorLemmas.{IsOf, owns_point}
use Rattle.tr_surface.proofs.GoodLemmas.{HasOwner, bad_here, bad_off, bad_on, has_owner}

-- the colour of the node's frame
abbrev colour_on : Seen → NodeId → ℕ
colour_on t n = eff t.kind (Set (node t.nodes n).tint) 0

-- the colour of a point on the frame of a node
pub colour_is : (t : Seen) (n : NodeId) (p : Point) → is_on_frame n (spot t p) ≡ true → frame_colour (spot t p) ≡ colour_on t n
colour_is t n p h = by_test (has_point (whole_of t.size) p) h
  where
    by_kind : (o : NodeId) (kind : NodeKind) → is_on_frame n (spot_on t p o kind) ≡ true → frame_colour (spot_on t p o kind) ≡ colour_on t n
    by_kind o (kinds.Leaf leaf shapes) h = absurd (false-true h)
    by_kind o kind h = ap (λ (m : NodeId). colour_on t m) (same_id o n (equal_numbers o.0 n.0 h))

    by_root : (o : Option NodeId) → is_on_frame n (spot_below t p o) ≡ true → frame_colour (spot_below t p o) ≡ colour_on t n
    by_root None h = absurd (false-true h)
    by_root (Some root) h = by_kind (owner t root p) (node t.nodes (owner t root p)).kind h

    by_test : (b : Bool) → is_on_frame n (cond b (spot_below t p t.nodes.root) spots.Off) ≡ true →
        frame_colour (cond b (spot_below t p t.nodes.root) spots.Off) ≡ colour_on t n
    by_test true h = by_root t.nodes.root h
    by_test false h = absurd (false-true h)

-- what lies on a node's frame lies on a frame
pub on_frame : (n : NodeId) (s : Spot) → is_on_frame n s ≡ true → is_frame s ≡ true
on_frame n (spots.Frame m tint kind) h = refl
on_frame n (spots.Leaf leaf at size kind) h = h
on_frame n spots.Off h = h

-- one pixel for a region is its points' colour where that is the same for all
pub painted_one : (colour : Point → ℕ) (frame : List Edges) (area : Edges) (pixel : ℕ) (old new : Picture) →
    Repaints (in_area (holds frame) area) (λ p. pixel) old new → ((p : Point) → holds frame p ≡ true → (has_point area p ≡ true) × (pixel ≡ colour p)) →
    Repaints (holds frame) colour old new
painted_one colour frame area pixel old new painted all = record {
  size = painted.size;
  kind = painted.kind;
  points = λ p on. painted.points p on ∙ by_test p (holds frame p) refl;
}
  where
    by_test : (p : Point) (b : Bool) → holds frame p ≡ b →
        cond (b && has_point area p) pixel (pixel_of old p) ≡ cond b (colour p) (pixel_of old p)
    by_test p true held =
        let here = all p held in
        ap (λ (in_it : Bool). cond in_it pixel (pixel_of old p)) here.0 ∙ here.1
    by_test p false held = refl

-- the owner of a point is a node, and its domain has the point
record IsOwner (t : Seen) (p : Point) (n : NodeId) : Type 0 where
  is_node : IsNode t.nodes n
  inside : has_point (domain t n) p ≡ true

owner_from : (f : ℕ) (t : Seen) → IsForest t.nodes → (n : NodeId) (p : Point) → IsOwner t p n → IsOwner t p (owner_within f t n p)
unfolding owner_within
owner_from zero t forest n p at = at
owner_from (suc f) t forest n p at = by_front (λ c k. owner_from f t forest c p k) (front t p (node t.nodes n).children) refl
  where
    by_front : ((c : NodeId) → IsOwner t p c → IsOwner t p (owner_within f t c p)) →
        (o : Option NodeId) → front t p (node t.nodes n).children ≡ o → IsOwner t p (followed n (λ c. owner_within f t c p) o)
    by_front below None e = at
    by_front below (Some c) e = below c (record {
      is_node = (front_below t forest n c p e).is_node;
      inside = find_passes (λ k. has_point (domain t k) p) (node t.nodes n).children c e;
    })

root_owner : (t : Seen) → IsForest t.nodes → (root : NodeId) → t.nodes.root ≡ Some root → (p : Point) → is_on t p ≡ true → IsOwner t p (owner t root p)
root_owner t forest root is p on = owner_from levels t forest root p (record {
  is_node = forest.root root is;
  inside = ap (λ (e : Edges). has_point e p) (root_domain t forest root is) ∙ on;
})

-- a point that belongs to a frame belongs to that of a node
pub record IsFramed (t : Seen) (p : Point) : Type 0 where
  pub node_at : NodeId
  pub is_node : IsNode t.nodes node_at
  pub on : is_on_frame node_at (spot t p) ≡ true

pub framed : (t : Seen) → IsForest t.nodes → (p : Point) → is_frame (spot t p) ≡ true → IsFramed t p
framed t forest p h = by_root t.nodes.root refl
  where
    on : is_on t p ≡ true
    on = by_test (is_on t p) h
      where
        by_test : (b : Bool) → is_frame (cond b (spot_below t p t.nodes.root) spots.Off) ≡ true → b ≡ true
        by_test true k = refl
        by_test false k = k

    is : spot t p ≡ spot_below t p t.nodes.root
    is = ap (λ b. cond b (spot_below t p t.nodes.root) spots.Off) on

    by_kind : (o : NodeId) (kind : NodeKind) → is_frame (spot_on t p o kind) ≡ true → is_on_frame o (spot_on t p o kind) ≡ true
    by_kind o (kinds.Leaf leaf shapes) k = absurd (false-true k)
    by_kind o kind k = equal_test o.0 o.0 refl

    by_root : (o : Option NodeId) → t.nodes.root ≡ o → IsFramed t p
    by_root None e = absurd (false-true (sym (ap is_frame (is ∙ ap (λ (r : Option NodeId). spot_below t p r) e)) ∙ h))
    by_root (Some root) e =
        let at : spot t p ≡ spot_below t p (Some root) = is ∙ ap (λ (r : Option NodeId). spot_below t p r) e in
        let o = owner t root p in
        record {
          node_at = o;
          is_node = (root_owner t forest root e p on).is_node;
          on = ap (λ (s : Spot). is_on_frame o s) at ∙ by_kind o (node t.nodes o).kind (sym (ap is_frame at) ∙ h);
        }

-- the bad points of all frames
pub any_bad : (s : Shown) (frames : List (List Edges)) → IsForest s.tree.nodes → AreBadFrames s frames → (p : Point) →
    any_holds frames p ≡ (is_bad s p && is_frame (spot s.tree p))
any_bad s frames forest are p = same_tests _ _ there back
  where
    back : (is_bad s p && is_frame (spot s.tree p)) ≡ true → any_holds frames p ≡ true
    back h =
        let bad : is_bad s p ≡ true = and_left (is_bad s p) (is_frame (spot s.tree p)) h in
        let at = framed s.tree forest p (and_right (is_bad s p) (is_frame (spot s.tree p)) h) in
        list_any_at (λ r. holds r p) frames at.node_at.0 [] (omega (arith, are.count, at.is_node.within))
        (are.points at.node_at p at.is_node ∙ and_from _ _ bad at.on)

    none : (is_bad s p && is_frame (spot s.tree p)) ≡ false → (i : ℕ) → i < length frames → holds (get_or frames i []) p ≡ false
    none h i lt =
        let n : NodeId = record { 0 = i } in
        are.points n p (record { within = omega (arith, are.count, lt) }) ∙ by_test (is_bad s p) (is_on_frame n (spot s.tree p)) refl h
      where
        by_test : (b c : Bool) → is_on_frame (record { 0 = i }) (spot s.tree p) ≡ c → (b && is_frame (spot s.tree p)) ≡ false → b && c ≡ false
        by_test false c e k = refl
        by_test true false e k = refl
        by_test true true e k = absurd (false-true (sym k ∙ on_frame (record { 0 = i }) (spot s.tree p) e))

    there : any_holds frames p ≡ true → (is_bad s p && is_frame (spot s.tree p)) ≡ true
    there h = by_test (is_bad s p && is_frame (spot s.tree p)) refl
      where
        by_test : (b : Bool) → (is_bad s p && is_frame (spot s.tree p)) ≡ b → b ≡ true
        by_test true e = refl
        by_test false e = sym (list_any_none (λ r. holds r p) frames (All-from_get_or (λ r. holds r p ≡ false) frames [] (none e))) ∙ h

-- what is repaired of a surface where its frames are painted, as the contract has it
pub record AreRepaired (s new : Shown) : Type 0 where
  pub bad_is : (p : Point) → is_bad new p ≡ (is_bad s p && not (is_frame (spot s.tree p)))
  pub painted : (p : Point) → is_bad s p ≡ true → is_frame (spot s.tree p) ≡ true → pixel_of new.screen p ≡ frame_colour (spot s.tree p)
  pub others : (p : Point) → is_on s.tree p ≡ true → (is_bad s p && is_frame (spot s.tree p)) ≡ false → pixel_of new.screen p ≡ pixel_of s.screen p

-- a point of a node lies on its frame where it lies on a frame
frame_here : (t : Seen) → IsForest t.nodes → (n : NodeId) (p : Point) → IsOf t n p ≡ true → is_on_frame n (spot t p) ≡ is_frame (spot t p)
frame_here t forest n p mine =
    ap (λ (s : Spot). is_on_frame n s) at ∙ by_kind (node t.nodes n).kind ∙ sym (ap (λ (s : Spot). is_frame s) at)
  where
    at : spot t p ≡ spot_on t p n (node t.nodes n).kind
    at = (owns_point t forest n p mine).spot

    by_kind : (kind : NodeKind) → is_on_frame n (spot_on t p n kind) ≡ is_frame (spot_on t p n kind)
    by_kind (kinds.Leaf leaf shapes) = refl
    by_kind kind = equal_test n.0 n.0 refl

-- and belongs to the node where it lies on the node's frame
frame_own : (t : Seen) (n : NodeId) (p : Point) → is_on_frame n (spot t p) ≡ true → IsOf t n p ≡ true
frame_own t n p h = by_leaf (is_leaf (node t.nodes n).kind) refl
  where
    by_leaf : (b : Bool) → is_leaf (node t.nodes n).kind ≡ b → IsOf t n p ≡ true
    by_leaf true e = absurd (false-true (no_frame t p n e ∙ h))
    by_leaf false e = frame_spot (node t.nodes n).kind n (spot t p) e ∙ h

-- the bad points of a node's frame are those that aren't among its good ones
pub frame_bad : (s : Shown) → IsShown s → (n : NodeId) → IsNode s.tree.nodes n → (p : Point) →
    (is_on_frame n (spot s.tree p) && not (holds (region_of s.good n) p)) ≡ (is_bad s p && is_on_frame n (spot s.tree p))
frame_bad s is n inside p = by_frame (is_on_frame n (spot s.tree p)) refl
  where
    and_true : (b : Bool) → (b && true) ≡ b
    and_true true = refl
    and_true false = refl

    and_false : (b : Bool) → (b && false) ≡ false
    and_false true = refl
    and_false false = refl

    by_frame : (b : Bool) → is_on_frame n (spot s.tree p) ≡ b →
        (is_on_frame n (spot s.tree p) && not (holds (region_of s.good n) p)) ≡ (is_bad s p && is_on_frame n (spot s.tree p))
    by_frame true e =
        ap (λ b. b && not (holds (region_of s.good n) p)) e
        ∙ sym (bad_here s is n inside p (frame_own s.tree n p e))
        ∙ sym (ap (λ b. is_bad s p && b) e ∙ and_true (is_bad s p))
    by_frame false e = ap (λ b. b && not (holds (region_of s.good n) p)) e ∙ sym (ap (λ b. is_bad s p && b) e ∙ and_false (is_bad s p))

-- the good points with those of the frames are each node's own
pub frames_own : (s : Shown) → IsShown s → (good : List (List Edges)) → AreGoodFrames s good → AreOwn s.tree good
frames_own s is good are = record {
  count = are.count;
  points = λ n p inside h. by_good n p inside (holds (region_of s.good n) p) refl (sym (are.points n p inside) ∙ h);
}
  where
    by_good : (n : NodeId) (p : Point) → IsNode s.tree.nodes n → (b : Bool) → holds (region_of s.good n) p ≡ b →
        (holds (region_of s.good n) p || is_on_frame n (spot s.tree p)) ≡ true → IsOf s.tree n p ≡ true
    by_good n p inside true e h = is.own.points n p inside e
    by_good n p inside false e h = frame_own s.tree n p (sym (ap (λ b. b || is_on_frame n (spot s.tree p)) e) ∙ h)

pub repaired : (s new : Shown) → IsShown s → IsShown new → new.tree ≡ s.tree → AreGoodFrames s new.good →
    (frames : List (List Edges)) → AreBadFrames s frames →
    Repaints (any_holds frames) (λ p. frame_colour (spot s.tree p)) s.screen new.screen → AreRepaired s new
repaired s new is after tree good frames are painted = record {
  bad_is = λ p. by_screen p (is_on s.tree p) refl;
  painted = λ p bad framed.
      painted.points p (on p ∙ bad_on s p bad)
      ∙ ap (λ b. cond b (frame_colour (spot s.tree p)) (pixel_of s.screen p)) (all p ∙ and_from _ _ bad framed);
  others = λ p here none.
      painted.points p (on p ∙ here) ∙ ap (λ b. cond b (frame_colour (spot s.tree p)) (pixel_of s.screen p)) (all p ∙ none);
}
  where
    all : (p : Point) → any_holds frames p ≡ (is_bad s p && is_frame (spot s.tree p))
    all p = any_bad s frames is.forest are p

    on : (p : Point) → has_point (whole_of s.screen.size) p ≡ is_on s.tree p
    on p = ap (λ (size : Size). has_point (whole_of size) p) is.size

    not_either : (a b : Bool) → not (a || b) ≡ (not a && not b)
    not_either true b = refl
    not_either false b = refl

    by_screen : (p : Point) (b : Bool) → is_on s.tree p ≡ b → is_bad new p ≡ (is_bad s p && not (is_frame (spot s.tree p)))
    by_screen p false off =
        bad_off new p (ap (λ (t : Seen). is_on t p) tree ∙ off)
        ∙ sym (ap (λ b. b && not (is_frame (spot s.tree p))) (bad_off s p off))
    by_screen p true here =
        let at : HasOwner s.tree p = has_owner s.tree is.forest is.root p here in
        let n : NodeId = at.node_at in
        bad_here new after n (record { within = omega (arith, at.is_node.within, ap (λ (t : Seen). length t.nodes.entries) tree) }) p
        (ap (λ (t : Seen). IsOf t n p) tree ∙ at.mine)
        ∙ ap not (good.points n p at.is_node)
        ∙ not_either (holds (region_of s.good n) p) (is_on_frame n (spot s.tree p))
        ∙ ap (λ b. b && not (is_on_frame n (spot s.tree p))) (sym (bad_here s is n at.is_node p at.mine))
        ∙ ap (λ b. is_bad s p && not b) (frame_here s.tree is.forest n p at.mine)
