-- Areas and regions that are moved stay within reach.
use Rattle.std.proofs.Common.{◌≡◌, ℕ, ◌≤◌, ℤ, pos, neg_ℤ, ◌+ℤ◌, ◌-ℤ◌, ◌≤ℤ◌, ◌<ℤ◌, Bool, true, false, ◌&&◌, ◌||◌, List, [], ◌∷◌, refl, sym, ◌∙◌, arith}
use Rattle.std.specs.List.{AllByRecursion}
use Rattle.std.proofs.lemmas.Int.{ints}
use Rattle.tr_base.specs.declared.Point.{Point}
use Rattle.tr_base.specs.Rects.{Edges, InReach, AreInReach, between, has_point, shifted, whole_of, IsScreenSize}
use Rattle.tr_base.proofs.RectLemmas.{has_point-rect_of}
use Rattle.tr_base.specs.declared.Size.{Size}
use Rattle.std.proofs.lemmas.Bool.{and_parts}
use Rattle.tr_base.proofs.RectFacts.{rect_of-in_reach}
use Rattle.tr_region.specs.Points.{holds}
use Rattle.tr_region.specs.Bands.{IsCanonical}
use Rattle.tr_region.proofs.OrderLemmas.{IsFull, AreInOrder, AreInOrder-canonical}
use Rattle.tr_paint.specs.Paints.{IsNearZero, IsNearPoint, IsNearRect}
use Rattle.tr_exec.specs.Executions.{IsOrigin, RegionLiesOn, greatest_screen}

-- an edge of an area, moved to where the window lies
edge_in_reach : (x o : ℤ) → IsNearZero x → neg_ℤ (pos 65536) ≤ℤ o → o ≤ℤ pos 65536 → InReach (x +ℤ o)
edge_in_reach x o near low high = record { low = omega (arith, ints, near.low, low); high = omega (arith, ints, near.high, high) }

-- an area, moved to where the window lies
pub area_in_reach : (a : Edges) (o : Point) → IsNearRect a → IsOrigin o → AreInReach (shifted a o)
area_in_reach a o near at =
    rect_of-in_reach _ _ _ _
    (edge_in_reach a.west o.h near.west at.west at.east) (edge_in_reach a.east o.h near.east at.west at.east)
    (edge_in_reach a.north o.v near.north at.north at.south) (edge_in_reach a.south o.v near.south at.north at.south)

-- an edge of the screen, moved by a near coordinate
screen_edge : (x d : ℤ) → pos 0 ≤ℤ x → x ≤ℤ pos 1024 → IsNearZero d → InReach (x +ℤ d)
screen_edge x d low high near = record { low = omega (arith, ints, near.low, low); high = omega (arith, ints, near.high, high) }

-- the point lies on the greatest screen
pub record IsThere (p : Point) : Type 0 where
  pub west : pos 0 ≤ℤ p.h
  pub east : p.h <ℤ pos 1024
  pub north : pos 0 ≤ℤ p.v
  pub south : p.v <ℤ pos 1024

pub there : (p : Point) → has_point (whole_of greatest_screen) p ≡ true → IsThere p
there p on =
    let held : between (pos 0) (pos 1024) p.h && between (pos 0) (pos 1024) p.v ≡ true =
    sym (has_point-rect_of (pos 0) (pos 1024) (pos 0) (pos 1024) p) ∙ on in
    record { west = grind (arith, ints); east = grind (arith, ints); north = grind (arith, ints); south = grind (arith, ints) }

-- a rectangle that holds points of the screen alone
rect_in_reach : (r : Edges) (d : Point) → IsFull r → ((p : Point) → has_point r p ≡ true → IsThere p) → IsNearPoint d → AreInReach (shifted r d)
rect_in_reach r d full on near =
    let first = on (record { h = r.west; v = r.north }) (held r.west r.north (omega (arith, ints)) full.across (omega (arith, ints)) full.down) in
    let last = on (record { h = r.east -ℤ pos 1; v = r.south -ℤ pos 1 })
    (held (r.east -ℤ pos 1) (r.south -ℤ pos 1) (omega (arith, ints, full.across)) (omega (arith, ints))
    (omega (arith, ints, full.down)) (omega (arith, ints))) in
    rect_of-in_reach _ _ _ _
    (screen_edge r.west d.h first.west (omega (arith, ints, first.east)) near.h)
    (screen_edge r.east d.h (omega (arith, ints, first.west, full.across)) (omega (arith, ints, last.east)) near.h)
    (screen_edge r.north d.v first.north (omega (arith, ints, first.south)) near.v)
    (screen_edge r.south d.v (omega (arith, ints, first.north, full.down)) (omega (arith, ints, last.south)) near.v)
  where
    held : (h v : ℤ) → r.west ≤ℤ h → h <ℤ r.east → r.north ≤ℤ v → v <ℤ r.south → has_point r (record { h = h; v = v }) ≡ true
    held h v a b c e = grind (arith, ints)

-- a region of the screen, moved by a near distance
pub region_in_reach : (rects : List Edges) (d : Point) →
    IsCanonical rects → RegionLiesOn greatest_screen rects → IsNearPoint d →
    AllByRecursion (λ r. AreInReach (shifted r d)) rects
region_in_reach rects d canonical on near = each rects (AreInOrder-canonical rects canonical) (λ p held. there p (on p held))
  where
    or_left : (a b : Bool) → a ≡ true → a || b ≡ true
    or_left true b h = refl
    or_left false b h = cc

    or_right : (a b : Bool) → b ≡ true → a || b ≡ true
    or_right true b h = refl
    or_right false b h = h

    each : (rs : List Edges) → AreInOrder rs → ((p : Point) → holds rs p ≡ true → IsThere p) → AllByRecursion (λ (r : Edges). AreInReach (shifted r d)) rs
    each [] order all = tt
    each (r ∷ rs) order all = (
      rect_in_reach r d order.0 (λ p h. all p (or_left (has_point r p) (holds rs p) h)) near,
      each rs order.2 (λ p h. all p (or_right (has_point r p) (holds rs p) h)),
    )

-- what lies on a screen lies on the greatest one
pub on_greatest : (size : Size) (region : List Edges) → IsScreenSize size → RegionLiesOn size region → RegionLiesOn greatest_screen region
on_greatest size region is on p held =
    let parts = and_parts _ _ (sym (has_point-rect_of (pos 0) (pos size.wide) (pos 0) (pos size.high) p) ∙ on p held) in
    has_point-rect_of (pos 0) (pos 1024) (pos 0) (pos 1024) p ∙ both _ _ (further size.wide p.h is.wide parts.0) (further size.high p.v is.high parts.1)
  where
    further : (n : ℕ) (x : ℤ) → n ≤ 1024 → between (pos 0) (pos n) x ≡ true → between (pos 0) (pos 1024) x ≡ true
    further n x le h = grind (arith, ints)

    both : (a b : Bool) → a ≡ true → b ≡ true → a && b ≡ true
    both true b h k = k
    both false b h k = cc
