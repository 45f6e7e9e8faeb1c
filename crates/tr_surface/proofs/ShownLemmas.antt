-- What lies on the screen, and what executing a batch makes of a surface.
use Rattle.std.proofs.Common.{◌≡◌, ℕ, Bool, true, false, cond, not, ◌&&◌, ◌||◌, List, Some, None, set, refl, sym, ap, ◌∙◌}
use mathlib.Core.List.{reverse}
use Rattle.std.specs.Prelude.{is_none}
use Rattle.tr_base.specs.declared.Point.{Point}
use Rattle.tr_base.specs.declared.Size.{Size}
use Rattle.tr_base.specs.declared.NodeId.{NodeId}
use Rattle.tr_base.specs.declared.LeafId.{LeafId}
use Rattle.tr_base.specs.declared.Spot.TheVariants as spots
use Rattle.tr_base.specs.Rects.{Edges, before_shift, has_point, whole_of}
use Rattle.tr_base.proofs.BoolLemmas.{not_not}
use Rattle.tr_region.specs.Points.{holds}
use Rattle.tr_screen.specs.Pictures.{Picture, pixel_of}
use Rattle.tr_paint.specs.declared.Paint.{Paint}
use Rattle.tr_paint.specs.Traces.{Look, look_of}
use Rattle.tr_paint.specs.Batches.{touches}
use Rattle.tr_exec.specs.Executions.{RegionLiesOn, colour_after, known_base, screen_point}
use Rattle.tr_exec.proofs.BaseLemmas.{trace_alike}
use Rattle.tr_forest.specs.Nodes.{IsNode, leaf_of, node}
use Rattle.tr_tree.specs.Trees.{Seen}
use Rattle.tr_spot.specs.Spots.{spot, spot_below, is_in_leaf, region_of}
use Rattle.tr_spot.specs.Leaves.{leaf_corner}
use Rattle.tr_spot.proofs.SpotLemmas.{leaf_spot}
use Rattle.tr_surface.specs.Surfaces.{AreOwn, IsShown, Shown, is_bad, is_on, leaf_base}
use Rattle.tr_surface.proofs.SurvivorLemmas.{IsOf}
use Rattle.tr_surface.proofs.GoodLemmas.{bad_here, bad_others, bad_with, good_leaf, own_with}

-- a point that belongs to a leaf is on the screen
pub in_leaf_on : (t : Seen) (leaf : LeafId) (p : Point) → is_in_leaf leaf (spot t p) ≡ true → is_on t p ≡ true
in_leaf_on t leaf p h = by_test (has_point (whole_of t.size) p) h
  where
    by_test : (b : Bool) → is_in_leaf leaf (cond b (spot_below t p t.nodes.root) spots.Off) ≡ true → b ≡ true
    by_test true h = refl
    by_test false h = h

-- a region holds the visible points of a leaf
abbrev pub IsVisible : Seen → LeafId → List Edges → Type 0
IsVisible t leaf region = (p : Point) → holds region p ≡ is_in_leaf leaf (spot t p)

-- the visible points of a leaf are on the screen
pub visible_on : (t : Seen) (leaf : LeafId) (size : Size) (region : List Edges) → size ≡ t.size → IsVisible t leaf region → RegionLiesOn size region
visible_on t leaf size region same are p h =
    ap (λ (s : Size). has_point (whole_of s) p) same ∙ in_leaf_on t leaf p (sym (are p) ∙ h)

-- other pixels and other good points, on a screen of the same size and kind
pub stays_shown : (t : Seen) (good now : List (List Edges)) (old new : Picture) → IsShown (record { tree = t; screen = old; good = good }) →
    new.size ≡ old.size → new.kind ≡ old.kind → AreOwn t now → IsShown (record { tree = t; screen = new; good = now })
stays_shown t good now old new was size kind own = record {
  forest = was.forest;
  root = was.root;
  size = size ∙ was.size;
  kind = kind ∙ was.kind;
  own = own;
}

-- a leaf, its node, and the region of its visible points
pub record IsSeen (s : Shown) (leaf : LeafId) (n : NodeId) (visible : List Edges) : Type 0 where
  pub is_node : IsNode s.tree.nodes n
  pub leaf_is : leaf_of (node s.tree.nodes n).kind ≡ Some leaf
  pub are : IsVisible s.tree leaf visible

-- the points of the node are those of the leaf
pub of_leaf : (s : Shown) (leaf : LeafId) (n : NodeId) (visible : List Edges) → IsSeen s leaf n visible → (p : Point) →
    IsOf s.tree n p ≡ is_in_leaf leaf (spot s.tree p)
of_leaf s leaf n visible seen p = leaf_spot (node s.tree.nodes n).kind leaf n (spot s.tree p) seen.leaf_is

-- the good points of the node are visible ones
pub good_seen : (s : Shown) → IsShown s → (leaf : LeafId) (n : NodeId) (visible : List Edges) → IsSeen s leaf n visible → (p : Point) →
    holds (region_of s.good n) p ≡ true → holds visible p ≡ true
good_seen s is leaf n visible seen p h =
    seen.are p ∙ sym (of_leaf s leaf n visible seen p) ∙ is.own.points n p seen.is_node h

-- where no visible point of a leaf is bad, the good points of its node are the visible ones
pub all_visible : (s : Shown) → IsShown s → (leaf : LeafId) (n : NodeId) → IsNode s.tree.nodes n → leaf_of (node s.tree.nodes n).kind ≡ Some leaf →
    ((p : Point) → is_in_leaf leaf (spot s.tree p) ≡ true → is_bad s p ≡ false) → IsVisible s.tree leaf (region_of s.good n)
all_visible s is leaf n inside its good p = good_leaf s is leaf n inside its p ∙ by_leaf (is_in_leaf leaf (spot s.tree p)) refl
  where
    by_leaf : (b : Bool) → is_in_leaf leaf (spot s.tree p) ≡ b → (b && not (is_bad s p)) ≡ b
    by_leaf true seen = ap not (good p seen)
    by_leaf false hidden = refl

-- the same tree and good points have the same bad points, whatever the screen shows
pub bad_same : (t : Seen) (good : List (List Edges)) (old new : Picture) (p : Point) →
    is_bad (record { tree = t; screen = new; good = good }) p ≡ is_bad (record { tree = t; screen = old; good = good }) p
unfolding is_bad
bad_same t good old new p = refl

-- the colour of a point of the screen after a batch, by the regions of the leaf and by the leaf
pub colour_is : (s : Shown) → IsShown s → (leaf : LeafId) (n : NodeId) (visible : List Edges) → IsSeen s leaf n visible →
    (look : Look) (batch : List Paint) (origin p : Point) → origin ≡ leaf_corner s.tree leaf →
    colour_after look (known_base origin visible (region_of s.good n) s.screen) batch origin p
    ≡ colour_after look (leaf_base s leaf) batch (leaf_corner s.tree leaf) p
colour_is s is leaf n visible seen look batch origin p at =
    ap (λ (o : Point). colour_after look (known_base o visible (region_of s.good n) s.screen) batch o p) at
    ∙ trace_alike look (known_base corner visible (region_of s.good n) s.screen) (leaf_base s leaf) (λ q. seen.are (screen_point corner q))
    (λ q in_it. by_tests (is_in_leaf leaf (spot s.tree (screen_point corner q))) (is_bad s (screen_point corner q)) (pixel_of s.screen (screen_point corner q))
    (holds (region_of s.good n) (screen_point corner q)) (good_leaf s is leaf n seen.is_node seen.leaf_is (screen_point corner q)) in_it)
    (reverse batch) (before_shift p corner)
  where
    corner : Point
    corner = leaf_corner s.tree leaf

    by_tests : (v bad : Bool) (x : ℕ) (good : Bool) → good ≡ (v && not bad) → v ≡ true → cond good (Some x) None ≡ cond bad None (Some x)
    by_tests true true x good e in_it = ap (λ b. cond b (Some x) None) e
    by_tests true false x good e in_it = ap (λ b. cond b (Some x) None) e
    by_tests false bad x good e in_it = cc

-- what a batch makes of a leaf's window, as the contract has it
pub record IsExecuted (s new : Shown) (font : List (List ℕ)) (leaf : LeafId) (batch : List Paint) : Type 0 where
  pub known : (p : Point) (x : ℕ) → is_in_leaf leaf (spot s.tree p) ≡ true →
      colour_after (look_of s.tree.kind font) (leaf_base s leaf) batch (leaf_corner s.tree leaf) p ≡ Some x → pixel_of new.screen p ≡ x
  pub unknown : (p : Point) → is_in_leaf leaf (spot s.tree p) ≡ true →
      is_bad new p ≡ is_none (colour_after (look_of s.tree.kind font) (leaf_base s leaf) batch (leaf_corner s.tree leaf) p)
  pub untouched : (p : Point) → is_in_leaf leaf (spot s.tree p) ≡ true → touches batch (before_shift p (leaf_corner s.tree leaf)) ≡ false →
      pixel_of new.screen p ≡ pixel_of s.screen p
  pub pixels : (p : Point) → is_on s.tree p ≡ true → is_in_leaf leaf (spot s.tree p) ≡ false → pixel_of new.screen p ≡ pixel_of s.screen p
  pub others : (p : Point) → is_in_leaf leaf (spot s.tree p) ≡ false → is_bad new p ≡ is_bad s p

-- the bad points of the leaf where these are its good ones
pub bad_seen : (s new : Shown) → IsShown s → IsShown new → (leaf : LeafId) (n : NodeId) (visible : List Edges) → IsSeen s leaf n visible →
    (region : List Edges) → new.tree ≡ s.tree → new.good ≡ set s.good n.0 region → (none : Bool) (p : Point) →
    holds region p ≡ (holds visible p && not none) → is_in_leaf leaf (spot s.tree p) ≡ true → is_bad new p ≡ none
bad_seen s new is after leaf n visible seen region tree good none p its in_it =
    bad_with s new is after n seen.is_node region tree good p (of_leaf s leaf n visible seen p ∙ in_it)
    ∙ ap not (its ∙ ap (λ b. b && not none) (seen.are p ∙ in_it)) ∙ not_not none

pub bad_unseen : (s new : Shown) → IsShown s → IsShown new → (leaf : LeafId) (n : NodeId) (visible : List Edges) → IsSeen s leaf n visible →
    (region : List Edges) → new.tree ≡ s.tree → new.good ≡ set s.good n.0 region → (p : Point) →
    is_in_leaf leaf (spot s.tree p) ≡ false → is_bad new p ≡ is_bad s p
bad_unseen s new is after leaf n visible seen region tree good p out =
    bad_others s new is after n region tree good p (of_leaf s leaf n visible seen p ∙ out)

not_either : (a b : Bool) → not (a || b) ≡ (not a && not b)
not_either true b = refl
not_either false b = refl

and_true : (b : Bool) → b ≡ (b && true)
and_true true = refl
and_true false = refl

-- the bad points where some of the leaf's have become good
pub bad_put : (s new : Shown) → IsShown s → IsShown new → (leaf : LeafId) (n : NodeId) → IsNode s.tree.nodes n →
    leaf_of (node s.tree.nodes n).kind ≡ Some leaf → (part more : List Edges) → ((p : Point) → holds more p ≡ (holds (region_of s.good n) p || holds part p)) →
    ((p : Point) → holds part p ≡ true → is_in_leaf leaf (spot s.tree p) ≡ true) →
    new.tree ≡ s.tree → new.good ≡ set s.good n.0 more → (p : Point) → is_bad new p ≡ (is_bad s p && not (holds part p))
bad_put s new is after leaf n inside its part more union within tree good p = by_leaf (is_in_leaf leaf (spot s.tree p)) refl
  where
    own : IsOf s.tree n p ≡ is_in_leaf leaf (spot s.tree p)
    own = leaf_spot (node s.tree.nodes n).kind leaf n (spot s.tree p) its

    none : is_in_leaf leaf (spot s.tree p) ≡ false → (b : Bool) → holds part p ≡ b → b ≡ false
    none out true h = sym (within p h) ∙ out
    none out false h = refl

    by_leaf : (b : Bool) → is_in_leaf leaf (spot s.tree p) ≡ b → is_bad new p ≡ (is_bad s p && not (holds part p))
    by_leaf true e =
        bad_with s new is after n inside more tree good p (own ∙ e)
        ∙ ap not (union p) ∙ not_either (holds (region_of s.good n) p) (holds part p)
        ∙ ap (λ b. b && not (holds part p)) (sym (bad_here s is n inside p (own ∙ e)))
    by_leaf false e =
        bad_others s new is after n more tree good p (own ∙ e)
        ∙ and_true (is_bad s p)
        ∙ ap (λ b. is_bad s p && not b) (sym (none e (holds part p) refl))

-- more points of the leaf are its node's own
pub put_own : (s : Shown) → IsShown s → (leaf : LeafId) (n : NodeId) → IsNode s.tree.nodes n → leaf_of (node s.tree.nodes n).kind ≡ Some leaf →
    (part more : List Edges) → ((p : Point) → holds more p ≡ (holds (region_of s.good n) p || holds part p)) →
    ((p : Point) → holds part p ≡ true → is_in_leaf leaf (spot s.tree p) ≡ true) → AreOwn s.tree (set s.good n.0 more)
put_own s is leaf n inside its part more union within = own_with s.tree s.good is.own n inside more
    (λ p h. by_good p (holds (region_of s.good n) p) refl (sym (union p) ∙ h))
  where
    by_good : (p : Point) (b : Bool) → holds (region_of s.good n) p ≡ b → (holds (region_of s.good n) p || holds part p) ≡ true → IsOf s.tree n p ≡ true
    by_good p true e h = is.own.points n p inside e
    by_good p false e h =
        leaf_spot (node s.tree.nodes n).kind leaf n (spot s.tree p) its ∙ within p (sym (ap (λ b. b || holds part p) e) ∙ h)
