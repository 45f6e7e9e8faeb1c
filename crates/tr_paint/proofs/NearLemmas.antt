-- Near coordinates stay within reach.
use Rattle.std.proofs.Common.{◌≡◌, ℕ, ◌<◌, ℤ, pos, ◌+ℤ◌, ◌≤ℤ◌, ◌<ℤ◌, Bool, true, false, ◌&&◌, cond, refl, arith}
use Rattle.std.specs.Prelude.{int_lt}
use Rattle.std.specs.Int.{int_min, int_max}
use Rattle.std.proofs.lemmas.Int.{ints, clamps}
use Rattle.tr_base.specs.declared.Point.{Point}
use Rattle.tr_base.specs.declared.Size.{Size}
use Rattle.tr_base.specs.Rects.{Edges, InReach, AreInReach, rect_of, meet_of, shifted, whole_of, empty_rect}
use Rattle.tr_base.proofs.RectFacts.{rect_of-in_reach}
use Rattle.tr_paint.specs.Paints.{IsNearZero, IsNearPoint, IsNearRect}

-- an edge of a window, moved by a near coordinate
pub near_moved : (n : ℕ) (d : ℤ) → n < 65536 → IsNearZero d → InReach (pos n +ℤ d)
near_moved n d small near = record { low = omega (arith, ints, near.low); high = omega (arith, ints, near.high) }

-- a window, moved by near coordinates
pub whole-in_reach : (size : Size) (d : Point) → size.wide < 65536 → size.high < 65536 → IsNearPoint d → AreInReach (shifted (whole_of size) d)
whole-in_reach size d wide high near = by_test (int_lt (pos 0) (pos size.wide) && int_lt (pos 0) (pos size.high))
  where
    by_test : (b : Bool) → AreInReach (shifted (cond b (record { west = pos 0; east = pos size.wide; north = pos 0; south = pos size.high }) empty_rect) d)
    by_test true =
        rect_of-in_reach _ _ _ _
        (near_moved 0 d.h (omega arith) near.h) (near_moved size.wide d.h wide near.h)
        (near_moved 0 d.v (omega arith) near.v) (near_moved size.high d.v high near.v)
    by_test false =
        rect_of-in_reach _ _ _ _
        (near_moved 0 d.h (omega arith) near.h) (near_moved 0 d.h (omega arith) near.h)
        (near_moved 0 d.v (omega arith) near.v) (near_moved 0 d.v (omega arith) near.v)

low_max : (a b : ℤ) → a ≤ℤ int_max a b
low_max a b = grind (arith, ints, clamps)

min_high : (a b : ℤ) → int_min a b ≤ℤ a
min_high a b = grind (arith, ints, clamps)

lt_of : (a b : ℤ) → int_lt a b ≡ true → a <ℤ b
lt_of a b h = grind (arith, ints)

-- the common part of a near rectangle and any other is near
pub near-meet : (a b : Edges) → IsNearRect a → IsNearRect (meet_of a b)
near-meet a b near = by_tests (int_lt west east) (int_lt north south) refl refl
  where
    west : ℤ
    west = int_max a.west b.west

    east : ℤ
    east = int_min a.east b.east

    north : ℤ
    north = int_max a.north b.north

    south : ℤ
    south = int_min a.south b.south

    none : IsNearZero (pos 0)
    none = record { low = omega (arith, ints); high = omega (arith, ints) }

    empty : IsNearRect empty_rect
    empty = record { west = none; east = none; north = none; south = none }

    between : (low high x y : ℤ) → IsNearZero low → IsNearZero high → int_lt (int_max low x) (int_min high y) ≡ true →
        IsNearZero (int_max low x) × IsNearZero (int_min high y)
    between low high x y l h test =
        let first = low_max low x in
        let last = min_high high y in
        let order = lt_of (int_max low x) (int_min high y) test in (
          record { low = omega (arith, ints, first, l.low); high = omega (arith, ints, order, last, h.high) },
          record { low = omega (arith, ints, order, first, l.low); high = omega (arith, ints, last, h.high) },
        )

    by_tests : (p q : Bool) → int_lt west east ≡ p → int_lt north south ≡ q →
        IsNearRect (cond (p && q) (record { west = west; east = east; north = north; south = south }) empty_rect)
    by_tests true true h k =
        let across = between a.west a.east b.west b.east near.west near.east h in
        let down = between a.north a.south b.north b.south near.north near.south k in
        record { west = across.0; east = across.1; north = down.0; south = down.1 }
    by_tests true false h k = empty
    by_tests false q h k = empty

-- the rectangle of near edges is near
pub rect_of-near : (w e n s : ℤ) → IsNearZero w → IsNearZero e → IsNearZero n → IsNearZero s → IsNearRect (rect_of w e n s)
rect_of-near w e n s hw he hn hs = by_test (int_lt w e && int_lt n s)
  where
    none : IsNearZero (pos 0)
    none = record { low = omega (arith, ints); high = omega (arith, ints) }

    by_test : (b : Bool) → IsNearRect (cond b (record { west = w; east = e; north = n; south = s }) empty_rect)
    by_test true = record { west = hw; east = he; north = hn; south = hs }
    by_test false = record { west = none; east = none; north = none; south = none }
