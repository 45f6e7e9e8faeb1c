-- Which points are good after a change of the tree, told node by node, and which of them follow the child that is moved.
use Rattle.std.proofs.Common.{◌≡◌, ℕ, zero, suc, ℤ, ◌+◌, ◌-ℤ◌, ◌<◌, pos, add-one, Bool, true, false, cond, not, ◌&&◌, ◌||◌, List, [], Option, Some, None, length, get_or, inl, inr, refl, sym, ap, ◌∙◌, arith}
use Rattle.std.proofs.lemmas.Bool.{cases_eq}
use Rattle.std.proofs.lemmas.Int.{ints}
use Rattle.tr_base.specs.declared.Point.{Point}
use Rattle.tr_base.specs.declared.NodeId.{NodeId}
use Rattle.tr_base.specs.declared.LeafId.{LeafId}
use Rattle.tr_base.specs.declared.Spot.{Spot}
use Rattle.tr_base.specs.Rects.{Edges, before_shift}
use Rattle.tr_base.proofs.BoolLemmas.{and_false, and_true, or_true}
use Rattle.tr_region.specs.Points.{holds}
use Rattle.tr_forest.specs.Nodes.{Nodes, node, node_of, IsNode, leaf_of}
use Rattle.tr_forest.specs.Families.{is_under}
use Rattle.tr_forest.specs.Forests.{IsForest}
use Rattle.tr_forest.proofs.LeafLemmas.{leaf_is_node_of}
use Rattle.tr_forest.proofs.FamilyLemmas.{same_id}
use Rattle.tr_tree.specs.Trees.{Seen}
use Rattle.tr_tree.specs.Places.{domain}
use Rattle.tr_spot.specs.Spots.{HasRoot, spot, spot_on, from_corner, region_of}
use Rattle.tr_spot.proofs.WayLemmas.{and_right}
use Rattle.tr_surface.specs.declared.survivors.Survivors.{Survivors}
use Rattle.tr_surface.specs.Surfaces.{AreOwn, IsShown, Shown, any_holds, is_bad, is_on}
use Rattle.tr_surface.specs.TreeSteps.{WindowFacts, is_below, source_by, survives, way_of}
use Rattle.tr_surface.specs.Survivors.{AreGoodAfter, IsLike, change, change_to, follows, follows_by, goes_on, good_at, good_by, has_survivor, in_moved, survivors_from, unmoved, way_from}
use Rattle.tr_surface.proofs.SurvivorLemmas.{AreForests, IsOf, owns_point, leaf_on, frame_on, there, apart}
use Rattle.tr_surface.proofs.GoodLemmas.{HasOwner, any_here, any_off, good_own, has_owner, one_owner}

-- ---- where the points of a node come from

pub before_none : (p : Point) → before_shift p unmoved ≡ p
before_none p = rw (none p.h, none p.v) refl
  where
    none : (x : ℤ) → x -ℤ pos 0 ≡ x
    none x = omega (arith, ints)

-- a point of a node lies below a child where the node does
pub below_is : (t : Seen) → IsForest t.nodes → (child n : NodeId) (p : Point) → IsOf t n p ≡ true →
    is_below t.nodes child (spot t p) ≡ is_under t.nodes child n
below_is t forest child n p mine =
    ap (λ (s : Spot). is_below t.nodes child s) (owns_point t forest n p mine).spot ∙ by_leaf (leaf_of (node t.nodes n).kind) refl
  where
    by_leaf : (o : Option LeafId) → leaf_of (node t.nodes n).kind ≡ o → is_below t.nodes child (spot_on t p n (node t.nodes n).kind) ≡ is_under t.nodes child n
    by_leaf (Some leaf) e =
        ap (λ (s : Spot). is_below t.nodes child s) (leaf_on t p n (node t.nodes n).kind leaf e)
        ∙ ap (λ (m : NodeId). is_under t.nodes child m) (sym (same_id n (node_of t.nodes leaf) (leaf_is_node_of t.nodes n leaf forest e)))
    by_leaf None e = ap (λ (s : Spot). is_below t.nodes child s) (frame_on t p n (node t.nodes n).kind e)

pub source_is : (was is : Seen) → IsForest is.nodes → (moved : Option NodeId) (n : NodeId) (p : Point) → IsOf is n p ≡ true →
    source_by was is moved p ≡ before_shift p (way_from was is moved n)
source_is was is forest None n p mine = sym (before_none p)
source_is was is forest (Some child) n p mine =
    ap (λ b. cond b (before_shift p (way_of was is child)) p) (below_is is forest child n p mine) ∙ by_test (is_under is.nodes child n)
  where
    by_test : (b : Bool) → cond b (before_shift p (way_of was is child)) p ≡ before_shift p (cond b (way_of was is child) unmoved)
    by_test true = refl
    by_test false = sym (before_none p)

-- ---- the points of a node that are good

-- what an edit leaves of two trees whose kind is the same
pub record AreKin (was is : Seen) : Type 0 where
  pub forests : AreForests was is
  pub like : IsLike was is
  pub kind : is.kind ≡ was.kind

-- a point of a node is good where it comes from a good point of the node, which survives
pub node_good : (k : WindowFacts) (was is : Seen) → AreKin was is → (moved : Option NodeId) (bad : Point → Bool) (n : NodeId) (p : Point) → IsOf is n p ≡ true →
    let by = way_from was is moved n in
    good_by k (change was is moved bad) p
    ≡ (IsOf was n (before_shift p by) && not (bad (before_shift p by)) && has_survivor k (survivors_from was is by n) (from_corner (domain is n) p))
node_good k was is kin moved bad n p mine =
    ap (λ (s : Point). is_on is p && is_on was s && not (bad s) && survives k (spot was s) (spot is p)) (source_is was is kin.forests.after moved n p mine)
    ∙ ap (λ b. b && is_on was from && not (bad from) && survives k (spot was from) (spot is p)) (owns_point is kin.forests.after n p mine).on
    ∙ by_case (IsOf was n from) refl
  where
    by : Point
    by = way_from was is moved n

    from : Point
    from = before_shift p by

    by_case : (b : Bool) → IsOf was n from ≡ b →
        (true && is_on was from && not (bad from) && survives k (spot was from) (spot is p))
        ≡ (IsOf was n from && not (bad from) && has_survivor k (survivors_from was is by n) (from_corner (domain is n) p))
    by_case true e =
        ap (λ b. true && b && not (bad from) && survives k (spot was from) (spot is p)) (owns_point was kin.forests.before n from e).on
        ∙ ap (λ b. true && true && not (bad from) && b)
        (there k was is kin.forests kin.kind n (leaf_of (node was.nodes n).kind) (kin.like.leaves n) refl by p e mine)
        ∙ sym (ap (λ b. b && not (bad from) && has_survivor k (survivors_from was is by n) (from_corner (domain is n) p)) e)
    by_case false e =
        ap (λ b. true && is_on was from && not (bad from) && b) (apart k was is n (kin.like.leaves n) from p e mine)
        ∙ and_false (true && is_on was from && not (bad from))
        ∙ sym (ap (λ b. b && not (bad from) && has_survivor k (survivors_from was is by n) (from_corner (domain is n) p)) e)

-- ---- the good points of all nodes

-- a point of a node is good where it goes on
goes_good : (k : WindowFacts) (s : Shown) (is : Seen) → IsShown s → AreKin s.tree is → (moved : Option NodeId) (n : NodeId) → IsNode is.nodes n → (p : Point) →
    IsOf is n p ≡ true → goes_on k s.tree is moved s.good n p ≡ good_by k (change_to s is moved) p
goes_good k s is shown kin moved n inside p mine =
    ap (λ b. b && has_survivor k (survivors_from s.tree is by n) (from_corner (domain is n) p)) (good_own s shown n old from)
    ∙ sym (node_good k s.tree is kin moved (is_bad s) n p mine)
  where
    by : Point
    by = way_from s.tree is moved n

    from : Point
    from = before_shift p by

    old : IsNode s.tree.nodes n
    old = record { within = omega (arith, inside.within, kin.like.count) }

-- a list of regions has the good points of all nodes
pub record AreFound (k : WindowFacts) (s : Shown) (is : Seen) (moved : Option NodeId) (good : List (List Edges)) : Type 0 where
  pub count : length good ≡ length is.nodes.entries
  pub each : (n : NodeId) (p : Point) → IsNode is.nodes n → holds (region_of good n) p ≡ good_at k s.tree is moved s.good n p

pub found_own : (k : WindowFacts) (s : Shown) (is : Seen) (moved : Option NodeId) (good : List (List Edges)) → AreFound k s is moved good → AreOwn is good
found_own k s is moved good found = record {
  count = found.count;
  points = λ n p inside h. and_right (goes_on k s.tree is moved s.good n p) (IsOf is n p) (sym (found.each n p inside) ∙ h);
}

-- a good point of a node
found_here : (k : WindowFacts) (s : Shown) (is : Seen) → IsShown s → AreKin s.tree is → (moved : Option NodeId) (good : List (List Edges)) →
    AreFound k s is moved good → (n : NodeId) → IsNode is.nodes n → (p : Point) → IsOf is n p ≡ true →
    holds (region_of good n) p ≡ good_by k (change_to s is moved) p
found_here k s is shown kin moved good found n inside p mine =
    found.each n p inside
    ∙ ap (λ b. goes_on k s.tree is moved s.good n p && b) mine
    ∙ and_true (goes_on k s.tree is moved s.good n p)
    ∙ goes_good k s is shown kin moved n inside p mine

pub good_found : (k : WindowFacts) (s : Shown) (is : Seen) → IsShown s → AreKin s.tree is → HasRoot is → (moved : Option NodeId) (good : List (List Edges)) →
    AreFound k s is moved good → AreGoodAfter k (change_to s is moved) good
good_found k s is shown kin root moved good found = record { own = own; any = λ p. by_screen p (is_on is p) refl }
  where
    own : AreOwn is good
    own = found_own k s is moved good found

    by_screen : (p : Point) (b : Bool) → is_on is p ≡ b → any_holds good p ≡ good_by k (change_to s is moved) p
    by_screen p false off =
        let from : Point = source_by s.tree is moved p in
        any_off is kin.forests.after good own p off
        ∙ sym (ap (λ b. b && is_on s.tree from && not (is_bad s from) && survives k (spot s.tree from) (spot is p)) off)
    by_screen p true on =
        let at : HasOwner is p = has_owner is kin.forests.after root p on in
        any_here is kin.forests.after good own at.node_at at.is_node p at.mine
        ∙ found_here k s is shown kin moved good found at.node_at at.is_node p at.mine

-- where a node's good points come to, told by its own way and survivors
pub goes_on_is : (k : WindowFacts) (was is : Seen) (moved : Option NodeId) (good : List (List Edges)) (n : NodeId)
    (by : Point) (survivors : Survivors) (left : Bool) (p : Point) →
    by ≡ way_from was is moved n → survivors ≡ survivors_from was is by n →
    left ≡ (holds (region_of good n) (before_shift p by) && has_survivor k survivors (from_corner (domain is n) p)) → left ≡ goes_on k was is moved good n p
goes_on_is k was is moved good n by survivors left p way its e =
    e ∙ ap (λ (w : Survivors). holds (region_of good n) (before_shift p by) && has_survivor k w (from_corner (domain is n) p)) its
    ∙ ap (λ (d : Point). holds (region_of good n) (before_shift p d) && has_survivor k (survivors_from was is d n) (from_corner (domain is n) p)) way

-- ---- those that follow the child that is moved

pub moved_none : (t : Nodes) (child : NodeId) (regions : List (List Edges)) (p : Point) → in_moved 0 t child regions p ≡ false
unfolding in_moved
moved_none t child regions p = refl

pub moved_more : (n : NodeId) (t : Nodes) (child : NodeId) (regions : List (List Edges)) (p : Point) →
    in_moved (n.0 + 1) t child regions p ≡ (in_moved n.0 t child regions p || (is_under t child n && holds (region_of regions n) p))
unfolding in_moved
moved_more n t child regions p = ap (λ m. in_moved m t child regions p) (add-one n.0)

-- a node of which no point is good adds none
pub moved_past : (n : NodeId) (t : Nodes) (child : NodeId) (regions : List (List Edges)) (p : Point) → holds (region_of regions n) p ≡ false →
    in_moved n.0 t child regions p ≡ in_moved (n.0 + 1) t child regions p
moved_past n t child regions p none = sym (moved_more n t child regions p ∙ plain (in_moved n.0 t child regions p) (is_under t child n) none)
  where
    plain : (b u : Bool) → {h : Bool} → h ≡ false → (b || (u && h)) ≡ b
    plain true u e = refl
    plain false true e = e
    plain false false e = refl

moved_at : (n i : ℕ) (t : Nodes) (child : NodeId) (regions : List (List Edges)) (p : Point) → i < n →
    (is_under t child (record { 0 = i }) && holds (get_or regions i []) p) ≡ true → in_moved n t child regions p ≡ true
unfolding in_moved
moved_at zero i t child regions p lt h = absurd (omega arith)
moved_at (suc n) i t child regions p lt h = elim (cases_eq i n) [
  | inl e ↦ ap (λ (m : ℕ). in_moved n t child regions p || (is_under t child (record { 0 = m }) && holds (get_or regions m []) p)) (sym e)
      ∙ ap (λ b. in_moved n t child regions p || b) h ∙ or_true (in_moved n t child regions p)
  | inr ne ↦ ap (λ b. b || (is_under t child (record { 0 = n }) && holds (get_or regions n []) p)) (moved_at n i t child regions p (omega (arith, ne)) h)
]

moved_off : (n : ℕ) (t : Nodes) (child : NodeId) (regions : List (List Edges)) (p : Point) →
    ((i : ℕ) → i < n → (is_under t child (record { 0 = i }) && holds (get_or regions i []) p) ≡ false) → in_moved n t child regions p ≡ false
unfolding in_moved
moved_off zero t child regions p none = refl
moved_off (suc n) t child regions p none = rw (moved_off n t child regions p (λ i h. none i (omega arith)), none n (omega arith)) refl

-- of a point of a node: it does where the node lies below the child, and the point is one of the node's
moved_here : (t : Seen) → IsForest t.nodes → (good : List (List Edges)) → AreOwn t good → (child n : NodeId) → IsNode t.nodes n → (p : Point) →
    IsOf t n p ≡ true → in_moved (length t.nodes.entries) t.nodes child good p ≡ (is_under t.nodes child n && holds (region_of good n) p)
moved_here t forest good own child n inside p mine = by_test (is_under t.nodes child n && holds (region_of good n) p) refl
  where
    other : (is_under t.nodes child n && holds (region_of good n) p) ≡ false → (i : ℕ) → i < length t.nodes.entries → (b : Bool) →
        holds (get_or good i []) p ≡ b → (is_under t.nodes child (record { 0 = i }) && holds (get_or good i []) p) ≡ false
    other none i lt true h =
        let at : NodeId = record { 0 = i } in
        let same : at ≡ n = one_owner t forest at n p (own.points at p (record { within = lt }) h) mine in
        ap (λ (m : NodeId). is_under t.nodes child m && holds (region_of good m) p) same ∙ none
    other none i lt false h = ap (λ b. is_under t.nodes child (record { 0 = i }) && b) h ∙ and_false (is_under t.nodes child (record { 0 = i }))

    by_test : (b : Bool) → (is_under t.nodes child n && holds (region_of good n) p) ≡ b →
        in_moved (length t.nodes.entries) t.nodes child good p ≡ (is_under t.nodes child n && holds (region_of good n) p)
    by_test true h = moved_at (length t.nodes.entries) n.0 t.nodes child good p inside.within h ∙ sym h
    by_test false h =
        moved_off (length t.nodes.entries) t.nodes child good p (λ i lt. other h i lt (holds (get_or good i []) p) refl) ∙ sym h

pub follows_found : (k : WindowFacts) (s : Shown) (is : Seen) → IsShown s → AreKin s.tree is → HasRoot is → (moved : Option NodeId) (good : List (List Edges)) →
    AreFound k s is moved good → (p : Point) → follows is.nodes moved good p ≡ follows_by k (change_to s is moved) p
follows_found k s is shown kin root None good found p = refl
follows_found k s is shown kin root (Some child) good found p = by_screen (is_on is p) refl
  where
    own : AreOwn is good
    own = found_own k s is (Some child) good found

    after : AreGoodAfter k (change_to s is (Some child)) good
    after = good_found k s is shown kin root (Some child) good found

    none : is_on is p ≡ false → (i : ℕ) → i < length is.nodes.entries → (b : Bool) → holds (get_or good i []) p ≡ b → b ≡ false
    none off i lt true h = sym (owns_point is kin.forests.after (record { 0 = i }) p (own.points (record { 0 = i }) p (record { within = lt }) h)).on ∙ off
    none off i lt false h = refl

    by_screen : (b : Bool) → is_on is p ≡ b →
        in_moved (length is.nodes.entries) is.nodes child good p ≡ (is_below is.nodes child (spot is p) && good_by k (change_to s is (Some child)) p)
    by_screen false off =
        moved_off (length is.nodes.entries) is.nodes child good p
        (λ i lt. ap (λ b. is_under is.nodes child (record { 0 = i }) && b) (none off i lt (holds (get_or good i []) p) refl)
        ∙ and_false (is_under is.nodes child (record { 0 = i })))
        ∙ sym (ap (λ b. is_below is.nodes child (spot is p) && b) (sym (after.any p) ∙ any_off is kin.forests.after good own p off)
        ∙ and_false (is_below is.nodes child (spot is p)))
    by_screen true on =
        let at : HasOwner is p = has_owner is kin.forests.after root p on in
        moved_here is kin.forests.after good own child at.node_at at.is_node p at.mine
        ∙ ap (λ b. b && holds (region_of good at.node_at) p) (sym (below_is is kin.forests.after child at.node_at p at.mine))
        ∙ ap (λ b. is_below is.nodes child (spot is p) && b) (found_here k s is shown kin (Some child) good found at.node_at at.is_node p at.mine)
