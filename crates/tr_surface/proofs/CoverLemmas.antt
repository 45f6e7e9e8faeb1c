-- What a child covers: it tells which points of the nodes are still their own.
use Rattle.std.proofs.Common.{◌≡◌, ◌⊎◌, Bool, true, false, cond, not, ◌&&◌, Option, Some, None, inl, inr, refl, sym, ap, ◌∙◌}
use Rattle.tr_base.specs.declared.Point.{Point}
use Rattle.tr_base.specs.declared.NodeId.{NodeId}
use Rattle.tr_base.specs.Rects.{before_shift, has_point}
use Rattle.tr_region.specs.Points.{holds}
use Rattle.tr_forest.specs.Nodes.{IsNode}
use Rattle.tr_tree.specs.Trees.{Seen}
use Rattle.tr_tree.specs.Places.{domain}
use Rattle.tr_spot.specs.Ways.{owns}
use Rattle.tr_spot.specs.Changes.{AreAlikeBut}
use Rattle.tr_spot.specs.Covers.{comes_upon, lies_under}
use Rattle.tr_spot.proofs.CoverLemmas.{owns_apart, owns_under}
use Rattle.tr_spot.proofs.SpotLemmas.{spot_is}
use Rattle.tr_surface.specs.declared.covers.Cover.{Cover}
use Rattle.tr_surface.specs.TreeSteps.{way_of}
use Rattle.tr_surface.specs.Survivors.{unmoved, way_from, way_of_moved}
use Rattle.tr_surface.specs.TreeChanges.{IsCover}
use Rattle.tr_surface.proofs.SurvivorLemmas.{AreForests, IsOf}
use Rattle.tr_surface.proofs.TreeChangeLemmas.{before_none}

-- ---- how far nodes move

way_there : (was is : Seen) (child : Option NodeId) (n : NodeId) → lies_under is.nodes child n ≡ true → way_from was is child n ≡ way_of_moved was is child
way_there was is None n h = refl
way_there was is (Some c) n h = ap (λ b. cond b (way_of was is c) unmoved) h

way_away : (was is : Seen) (child : Option NodeId) (n : NodeId) → lies_under is.nodes child n ≡ false → way_from was is child n ≡ unmoved
way_away was is None n h = refl
way_away was is (Some c) n h = ap (λ b. cond b (way_of was is c) unmoved) h

-- a child that is moved is this one, if one is moved
abbrev Fits : Option NodeId → Option NodeId → Type 0
Fits moved child = (moved ≡ None) ⊎ (moved ≡ child)

there_of : (was is : Seen) (moved child : Option NodeId) → Fits moved child → (n : NodeId) → lies_under is.nodes child n ≡ true →
    way_from was is moved n ≡ way_of_moved was is moved
there_of was is moved child (inl none) n h = ap (λ (o : Option NodeId). way_from was is o n) none ∙ ap (λ (o : Option NodeId). way_of_moved was is o) (sym none)
there_of was is moved child (inr same) n h =
    ap (λ (o : Option NodeId). way_from was is o n) same ∙ way_there was is child n h ∙ ap (λ (o : Option NodeId). way_of_moved was is o) (sym same)

away_of : (was is : Seen) (moved child : Option NodeId) → Fits moved child → (n : NodeId) → lies_under is.nodes child n ≡ false →
    way_from was is moved n ≡ unmoved
away_of was is moved child (inl none) n h = ap (λ (o : Option NodeId). way_from was is o n) none
away_of was is moved child (inr same) n h = ap (λ (o : Option NodeId). way_from was is o n) same ∙ way_away was is child n h

-- ---- a cover

pub cover_is : (was is : Seen) (moved : Option NodeId) (v : Cover) → AreForests was is → AreAlikeBut v.child was is → Fits moved v.child →
    ((n : NodeId) (p : Point) → IsNode is.nodes n → has_point (domain is n) p ≡ has_point (domain was n) (before_shift p (way_from was is moved n))) →
    ((p : Point) → holds v.region p ≡ comes_upon is p v.child) → IsCover was is moved v
cover_is was is moved v forests alike fits moves covered = record {
  carried = record {
    before = forests.before;
    after = forests.after;
    alike = alike;
    still = λ n p inside h. moves n p inside
        ∙ ap (λ (d : Point). has_point (domain was n) (before_shift p d)) (away_of was is moved v.child fits n h)
        ∙ ap (λ (q : Point). has_point (domain was n) q) (before_none p);
    moved = λ n p inside h. moves n p inside
        ∙ ap (λ (d : Point). has_point (domain was n) (before_shift p d)) (there_of was is moved v.child fits n h);
  };
  points = covered;
  there = λ n h. there_of was is moved v.child fits n h;
  away = λ n h. away_of was is moved v.child fits n h;
}

-- the points that a cover leaves of a node's are its own
pub cover_own : (was is : Seen) (moved : Option NodeId) (v : Cover) → IsCover was is moved v → (n : NodeId) (p : Point) →
    IsOf was n (before_shift p (way_from was is moved n)) ≡ true →
    cond (lies_under is.nodes v.child n) (holds v.region p) (not (holds v.region p)) ≡ IsOf is n p
cover_own was is moved v cover n p mine =
    ap (λ b. cond (lies_under is.nodes v.child n) b (not b)) (cover.points p)
    ∙ by_under (lies_under is.nodes v.child n) refl
    ∙ spot_is is cover.carried.after p n
  where
    by_under : (b : Bool) → lies_under is.nodes v.child n ≡ b →
        cond (lies_under is.nodes v.child n) (comes_upon is p v.child) (not (comes_upon is p v.child)) ≡ owns is p n
    by_under true e =
        ap (λ b. cond b (comes_upon is p v.child) (not (comes_upon is p v.child))) e
        ∙ sym (owns_under (way_of_moved was is moved) v.child was is cover.carried n p e
        (spot_is was cover.carried.before (before_shift p (way_of_moved was is moved)) n
        ∙ ap (λ (d : Point). IsOf was n (before_shift p d)) (sym (cover.there n e)) ∙ mine))
    by_under false e =
        ap (λ b. cond b (comes_upon is p v.child) (not (comes_upon is p v.child))) e
        ∙ sym (owns_apart (way_of_moved was is moved) v.child was is cover.carried n p e
        (spot_is was cover.carried.before p n
        ∙ ap (λ (q : Point). IsOf was n q) (sym (before_none p))
        ∙ ap (λ (d : Point). IsOf was n (before_shift p d)) (sym (cover.away n e)) ∙ mine))

pub and_when : (a b c : Bool) → (a ≡ true → b ≡ c) → (a && b) ≡ (a && c)
and_when true b c h = h refl
and_when false b c h = refl
