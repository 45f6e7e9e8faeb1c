-- Regions of the screen: they lie in a square of 1024 points each way, and a region that isn't empty holds a point.
use Rattle.std.proofs.Common.{◌≡◌, ◌<◌, ◌≤◌, ℤ, pos, ◌-ℤ◌, ◌≤ℤ◌, ◌<ℤ◌, Bool, true, false, ◌&&◌, ◌||◌, not, List, [], ◌∷◌, length, refl, sym, arith}
use Rattle.std.specs.Prelude.{IsTrue}
use Rattle.std.specs.List.{AllByRecursion}
use Rattle.std.proofs.lemmas.Int.{ints}
use Rattle.tr_base.specs.declared.Point.{Point}
use Rattle.tr_base.specs.declared.NodeId.{NodeId}
use Rattle.tr_base.specs.Rects.{Edges, has_point}
use Rattle.tr_region.specs.Points.{holds, count_below, count_in_square, IsInSquare}
use Rattle.tr_region.specs.Bands.{IsCanonical}
use Rattle.tr_region.proofs.CountLemmas.{count_below-le, sum_below-le}
use Rattle.tr_region.proofs.OrderLemmas.{IsFull, AreInOrder, AreInOrder-canonical}
use Rattle.tr_exec.specs.Executions.{RegionLiesOn, greatest_screen}
use Rattle.tr_exec.proofs.SiteLemmas.{IsThere, there}
use Rattle.tr_forest.specs.Forests.{IsForest}
use Rattle.tr_spot.specs.Spots.{spot, is_on_frame}
use Rattle.tr_surface.specs.Surfaces.{Shown, is_bad, is_frame}
use Rattle.tr_surface.proofs.FrameLemmas.{framed}

or_left : (a b : Bool) → a ≡ true → a || b ≡ true
or_left true b h = refl
or_left false b h = cc

or_right : (a b : Bool) → b ≡ true → a || b ≡ true
or_right true b h = refl
or_right false b h = h

-- a rectangle holds its corner, and the point that lies opposite
corner_held : (r : Edges) → IsFull r → has_point r (record { h = r.west; v = r.north }) ≡ true
corner_held r full = held r.west r.north (omega (arith, ints)) full.across (omega (arith, ints)) full.down
  where
    held : (h v : ℤ) → r.west ≤ℤ h → h <ℤ r.east → r.north ≤ℤ v → v <ℤ r.south → has_point r (record { h = h; v = v }) ≡ true
    held h v a b c e = grind (arith, ints)

opposite_held : (r : Edges) → IsFull r → has_point r (record { h = r.east -ℤ pos 1; v = r.south -ℤ pos 1 }) ≡ true
opposite_held r full =
    held (r.east -ℤ pos 1) (r.south -ℤ pos 1) (omega (arith, ints, full.across)) (omega (arith, ints)) (omega (arith, ints, full.down)) (omega (arith, ints))
  where
    held : (h v : ℤ) → r.west ≤ℤ h → h <ℤ r.east → r.north ≤ℤ v → v <ℤ r.south → has_point r (record { h = h; v = v }) ≡ true
    held h v a b c e = grind (arith, ints)

-- a region that isn't empty holds a point
pub some_point : (rects : List Edges) → IsCanonical rects → (rects ≡ [] → ⊥) → (p : Point) × (holds rects p ≡ true)
some_point rects canonical some = by_list rects (AreInOrder-canonical rects canonical) some
  where
    by_list : (rs : List Edges) → AreInOrder rs → (rs ≡ [] → ⊥) → (p : Point) × (holds rs p ≡ true)
    by_list [] order none = absurd (none refl)
    by_list (r ∷ rs) order none = (record { h = r.west; v = r.north }, or_left _ _ (corner_held r order.0))

pub not_both : (b : Bool) → IsTrue (not b) → IsTrue b → ⊥
not_both true h k = cc
not_both false h k = cc

rect_in_square : (r : Edges) → IsFull r → ((p : Point) → has_point r p ≡ true → IsThere p) → IsInSquare r
rect_in_square r full on =
    let first = on (record { h = r.west; v = r.north }) (corner_held r full) in
    let last = on (record { h = r.east -ℤ pos 1; v = r.south -ℤ pos 1 }) (opposite_held r full) in
    record { west = first.west; east = omega (arith, ints, last.east); north = first.north; south = omega (arith, ints, last.south) }

pub in_square : (rects : List Edges) → IsCanonical rects → RegionLiesOn greatest_screen rects → AllByRecursion IsInSquare rects
in_square rects canonical on = each rects (AreInOrder-canonical rects canonical) (λ p held. there p (on p held))
  where
    each : (rs : List Edges) → AreInOrder rs → ((p : Point) → holds rs p ≡ true → IsThere p) → AllByRecursion IsInSquare rs
    each [] order all = tt
    each (r ∷ rs) order all = (
      rect_in_square r order.0 (λ p h. all p (or_left (has_point r p) (holds rs p) h)),
      each rs order.2 (λ p h. all p (or_right (has_point r p) (holds rs p) h)),
    )

-- there are at most 1024 times 1024 points in it
pub square_count : (rects : List Edges) → count_in_square 1024 rects ≤ 1048576
square_count rects =
    sum_below-le 1024 1024 (λ v. count_below 1024 (λ h. holds rects (record { h = pos h; v = pos v })))
    (λ v. count_below-le 1024 (λ h. holds rects (record { h = pos h; v = pos v })))

-- no frame point is bad where none on a node's frame is
pub none_framed : (s : Shown) → IsForest s.tree.nodes →
    ((m : NodeId) (p : Point) → m.0 < length s.tree.nodes.entries → (is_bad s p && is_on_frame m (spot s.tree p)) ≡ false) →
    (p : Point) → is_frame (spot s.tree p) ≡ true → is_bad s p ≡ false
none_framed s forest none p h =
    let at = framed s.tree forest p h in
    by_test (is_bad s p) (is_on_frame at.node_at (spot s.tree p)) at.on (none at.node_at p at.is_node.within)
  where
    by_test : (b c : Bool) → c ≡ true → b && c ≡ false → b ≡ false
    by_test true true e k = k
    by_test true false e k = sym e
    by_test false c e k = refl
