-- Which points are known after a tree step, and that none is where the kind changes.
use Rattle.std.proofs.Common.{◌≡◌, Bool, true, false, cond, not, ◌&&◌, ◌||◌, ◌==◌, List, [], Option, Some, None, refl, sym, ap, ◌∙◌}
use Rattle.std.specs.Prelude.{IsSome}
use Rattle.tr_base.specs.declared.Point.{Point}
use Rattle.tr_base.specs.declared.Kind.{Kind}
use Rattle.tr_base.specs.declared.NodeId.{NodeId}
use Rattle.tr_base.specs.declared.Spot.{Spot}
use Rattle.tr_base.specs.declared.Spot.TheVariants as spots
use Rattle.tr_base.specs.Rects.{Edges}
use Rattle.tr_base.proofs.BoolLemmas.{from_false-true}
use Rattle.tr_base.specs.Ops.{same_kind}
use Rattle.tr_region.specs.Points.{holds}
use Rattle.tr_forest.specs.declared.NodeKind.{NodeKind}
use Rattle.tr_forest.specs.declared.NodeKind.TheVariants as kinds
use Rattle.tr_forest.specs.Nodes.{node}
use Rattle.tr_tree.specs.Trees.{Seen}
use Rattle.tr_spot.specs.Spots.{HasRoot, owner, region_of, spot, spot_on, spot_below}
use Rattle.tr_spot.specs.Leaves.{same_size}
use Rattle.tr_surface.specs.Surfaces.{Shown, any_holds, is_bad, is_on}
use Rattle.tr_surface.specs.TreeSteps.{WindowFacts, is_kept, same_point, source_by, survives}
use Rattle.tr_surface.specs.Survivors.{change, change_to, good_by}
use Rattle.tr_surface.proofs.GoodLemmas.{any_none, bad_is}

-- a good point is on the screen, its source was, and survives
pub record IsGood (k : WindowFacts) (was is : Seen) (moved : Option NodeId) (bad : Point → Bool) (p : Point) : Type 0 where
  pub on : is_on is p ≡ true
  pub was_on : is_on was (source_by was is moved p) ≡ true
  pub was_good : bad (source_by was is moved p) ≡ false
  pub lasts : survives k (spot was (source_by was is moved p)) (spot is p) ≡ true

pub good_parts : (k : WindowFacts) (was is : Seen) (moved : Option NodeId) (bad : Point → Bool) (p : Point) →
    good_by k (change was is moved bad) p ≡ true → IsGood k was is moved bad p
good_parts k was is moved bad p h = by_tests (is_on is p) (is_on was s) (bad s) (survives k (spot was s) (spot is p)) refl refl refl refl h
  where
    s : Point
    s = source_by was is moved p

    by_tests : (a b c d : Bool) → is_on is p ≡ a → is_on was s ≡ b → bad s ≡ c → survives k (spot was s) (spot is p) ≡ d →
        (a && b && not c && d) ≡ true → IsGood k was is moved bad p
    by_tests true true false true e f g i h = record { on = e; was_on = f; was_good = g; lasts = i }
    by_tests true true false false e f g i h = from_false-true h
    by_tests true true true d e f g i h = from_false-true h
    by_tests true false c d e f g i h = from_false-true h
    by_tests false b c d e f g i h = from_false-true h

-- ---- another kind

-- the kind that a spot tells; a spot off the screen tells none
kind_in : Kind → Spot → Kind
kind_in kind (spots.Leaf leaf at size own) = own
kind_in kind (spots.Frame n tint own) = own
kind_in kind spots.Off = kind

is_off : Spot → Bool
is_off spots.Off = true
is_off spot = false

-- spots of other kinds differ
other_kind : (k : WindowFacts) (old new : Kind) (s t : Spot) → is_off t ≡ false → same_kind (kind_in old s) (kind_in new t) ≡ false → survives k s t ≡ false
unfolding kind_in is_off
other_kind k old new (spots.Leaf a p from x) (spots.Leaf b q to y) on h =
    rw h (by_tests (a.0 == b.0 && same_point p q) (same_size from to) (is_kept k a from to q))
  where
    by_tests : (one size kept : Bool) → (((one && size) && false) || (((one && false) && not size) && kept)) ≡ false
    by_tests true true kept = refl
    by_tests true false kept = refl
    by_tests false size kept = refl
other_kind k old new (spots.Frame m a x) (spots.Frame n b y) on h = rw h (by_test ((m.0 == n.0) && (a == b)))
  where
    by_test : (one : Bool) → ((one && false) || false) ≡ false
    by_test true = refl
    by_test false = refl
other_kind k old new (spots.Leaf a p from x) (spots.Frame n b y) on h = refl
other_kind k old new (spots.Frame m a x) (spots.Leaf b q to y) on h = refl
other_kind k old new spots.Off (spots.Leaf b q to y) on h = refl
other_kind k old new spots.Off (spots.Frame n b y) on h = refl
other_kind k old new s spots.Off on h = from_false-true (sym on)

-- a spot tells the kind of its screen
on_kind : (t : Seen) (p : Point) (n : NodeId) (kind : NodeKind) → kind_in t.kind (spot_on t p n kind) ≡ t.kind
unfolding kind_in
on_kind t p n (kinds.Leaf leaf shapes) = refl
on_kind t p n kind = refl

below_kind : (t : Seen) (p : Point) (o : Option NodeId) → kind_in t.kind (spot_below t p o) ≡ t.kind
unfolding kind_in
below_kind t p None = refl
below_kind t p (Some root) = on_kind t p (owner t root p) (node t.nodes (owner t root p)).kind

spot_kind : (t : Seen) (p : Point) → kind_in t.kind (spot t p) ≡ t.kind
unfolding kind_in
spot_kind t p = by_screen (is_on t p)
  where
    by_screen : (b : Bool) → kind_in t.kind (cond b (spot_below t p t.nodes.root) spots.Off) ≡ t.kind
    by_screen true = below_kind t p t.nodes.root
    by_screen false = refl

on_node : (t : Seen) (p : Point) (n : NodeId) (kind : NodeKind) → is_off (spot_on t p n kind) ≡ false
unfolding is_off
on_node t p n (kinds.Leaf leaf shapes) = refl
on_node t p n kind = refl

-- a point of the screen belongs to a node
on_is : (t : Seen) → HasRoot t → (p : Point) → is_on t p ≡ true → is_off (spot t p) ≡ false
on_is t root p on = ap (λ b. is_off (cond b (spot_below t p t.nodes.root) spots.Off)) on ∙ by_root t.nodes.root root
  where
    by_root : (o : Option NodeId) → IsSome o → is_off (spot_below t p o) ≡ false
    by_root None some = from_false-true some
    by_root (Some r) some = on_node t p (owner t r p) (node t.nodes (owner t r p)).kind

-- where none is good, none stays so
pub none_left : (k : WindowFacts) (s : Shown) (is : Seen) (moved : Option NodeId) → ((n : NodeId) → region_of s.good n ≡ []) → (p : Point) →
    good_by k (change_to s is moved) p ≡ false
none_left k s is moved none p =
    let q : Point = source_by s.tree is moved p in
    let empty : any_holds s.good q ≡ false = any_none s.good q (λ i lt. ap (λ (r : List Edges). holds r q) (none (record { 0 = i }))) in
    by_tests (is_on is p) (is_on s.tree q) (is_bad s q) (survives k (spot s.tree q) (spot is p))
    (bad_is s q ∙ ap (λ b. is_on s.tree q && not b) empty)
  where
    by_tests : (a b c d : Bool) → c ≡ (b && true) → (a && b && not c && d) ≡ false
    by_tests false b c d h = refl
    by_tests true false c d h = refl
    by_tests true true c d h = ap (λ x. not x && d) h

-- where the kind changes no point stays good
pub none_good : (k : WindowFacts) (was is : Seen) (moved : Option NodeId) (bad : Point → Bool) → HasRoot is → same_kind was.kind is.kind ≡ false → (p : Point) →
    good_by k (change was is moved bad) p ≡ false
none_good k was is moved bad root other p = by_good (good_by k (change was is moved bad) p) refl
  where
    by_good : (b : Bool) → good_by k (change was is moved bad) p ≡ b → b ≡ false
    by_good false h = refl
    by_good true h =
        let g : IsGood k was is moved bad p = good_parts k was is moved bad p h in
        let s : Point = source_by was is moved p in
        let kinds_apart : same_kind (kind_in was.kind (spot was s)) (kind_in is.kind (spot is p)) ≡ false =
        ap (λ (x : Kind). same_kind x (kind_in is.kind (spot is p))) (spot_kind was s) ∙ ap (λ (x : Kind). same_kind was.kind x) (spot_kind is p) ∙ other in
        sym (sym (other_kind k was.kind is.kind (spot was s) (spot is p) (on_is is root p g.on) kinds_apart) ∙ g.lasts)
