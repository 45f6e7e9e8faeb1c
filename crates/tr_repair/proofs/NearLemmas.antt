-- A region whose points are near 0 can be moved by a near distance.
use Rattle.std.proofs.Common.{◌≡◌, ℤ, pos, neg_ℤ, ◌+ℤ◌, ◌-ℤ◌, ◌≤ℤ◌, ◌<ℤ◌, Bool, true, false, ◌&&◌, ◌||◌, cond, List, [], ◌∷◌, refl, arith}
use Rattle.std.specs.Prelude.{int_lt}
use Rattle.std.specs.List.{AllByRecursion}
use Rattle.std.proofs.lemmas.Int.{ints}
use Rattle.tr_base.specs.declared.points.Point.{Point}
use Rattle.tr_base.specs.Rects.{Edges, InReach, AreInReach, empty_rect, shifted, has_point}
use Rattle.tr_region.specs.Points.{holds}
use Rattle.tr_region.proofs.OrderLemmas.{IsFull, AreInOrder}
use Rattle.tr_repair.specs.Near.{IsAround, IsDistance}

-- an edge of a rectangle whose points are near 0
record IsNearEdge (x : ℤ) : Type 0 where
  low : neg_ℤ (pos 524288) ≤ℤ x
  high : x ≤ℤ pos 524288

edge_in_reach : (x by : ℤ) → IsNearEdge x → neg_ℤ (pos 262144) ≤ℤ by → by ≤ℤ pos 262144 → InReach (x +ℤ by)
edge_in_reach x by near low high = record { low = omega (arith, ints, near.low, low); high = omega (arith, ints, near.high, high) }

zero_in_reach : InReach (pos 0)
zero_in_reach = record { low = omega (arith, ints); high = omega (arith, ints) }

-- a rectangle with points is near 0 where its corners are
rect_in_reach : (r : Edges) (d : Point) → IsFull r → ((p : Point) → has_point r p ≡ true → IsAround p) → IsDistance d → AreInReach (shifted r d)
rect_in_reach r d full around step = by_test (int_lt (r.west +ℤ d.h) (r.east +ℤ d.h) && int_lt (r.north +ℤ d.v) (r.south +ℤ d.v))
  where
    held : (h v : ℤ) → r.west ≤ℤ h → h <ℤ r.east → r.north ≤ℤ v → v <ℤ r.south → IsAround (record { h = h; v = v })
    held h v a b c e = around (record { h = h; v = v }) (grind (arith, ints))

    first : IsAround (record { h = r.west; v = r.north })
    first = held r.west r.north (omega (arith, ints)) full.across (omega (arith, ints)) full.down

    last : IsAround (record { h = r.east -ℤ pos 1; v = r.south -ℤ pos 1 })
    last =
        held (r.east -ℤ pos 1) (r.south -ℤ pos 1) (omega (arith, ints, full.across)) (omega (arith, ints))
        (omega (arith, ints, full.down)) (omega (arith, ints))

    west : IsNearEdge r.west
    west = record { low = first.west; high = omega (arith, ints, first.east) }

    east : IsNearEdge r.east
    east = record { low = omega (arith, ints, first.west, full.across); high = omega (arith, ints, last.east) }

    north : IsNearEdge r.north
    north = record { low = first.north; high = omega (arith, ints, first.south) }

    south : IsNearEdge r.south
    south = record { low = omega (arith, ints, first.north, full.down); high = omega (arith, ints, last.south) }

    by_test : (b : Bool) →
        AreInReach (cond b (record { west = r.west +ℤ d.h; east = r.east +ℤ d.h; north = r.north +ℤ d.v; south = r.south +ℤ d.v }) empty_rect)
    by_test true = record {
      west = edge_in_reach r.west d.h west step.west step.east;
      east = edge_in_reach r.east d.h east step.west step.east;
      north = edge_in_reach r.north d.v north step.north step.south;
      south = edge_in_reach r.south d.v south step.north step.south;
    }
    by_test false = record { west = zero_in_reach; east = zero_in_reach; north = zero_in_reach; south = zero_in_reach }

-- each rectangle of a canonical list holds points
pub all_in_reach : (rects : List Edges) (d : Point) →
    AreInOrder rects → ((p : Point) → holds rects p ≡ true → IsAround p) → IsDistance d →
    AllByRecursion (λ r. AreInReach (shifted r d)) rects
all_in_reach [] d order around step = tt
all_in_reach (r ∷ rects) d order around step = (
  rect_in_reach r d order.0 (λ p h. around p (or_left (has_point r p) (holds rects p) h)) step,
  all_in_reach rects d order.2 (λ p h. around p (or_right (has_point r p) (holds rects p) h)) step,
)
  where
    or_left : (a b : Bool) → a ≡ true → a || b ≡ true
    or_left true b h = refl
    or_left false b h = cc

    or_right : (a b : Bool) → b ≡ true → a || b ≡ true
    or_right true b h = refl
    or_right false b h = h
