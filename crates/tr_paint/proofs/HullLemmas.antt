-- What lies in the least rectangle round two.
use Rattle.std.proofs.Common.{◌≡◌, ◌≢◌, ℤ, pos, ◌-ℤ◌, ◌≤ℤ◌, Bool, true, false, cond, ◌&&◌, refl, sym, ap, ◌∙◌, arith}
use Rattle.std.specs.Prelude.{int_lt}
use Rattle.std.specs.Int.{int_min, int_max}
use Rattle.std.proofs.lemmas.Int.{ints, clamps}
use Rattle.std.proofs.lemmas.Bool.{and_parts, and_from}
use Rattle.tr_base.specs.declared.Point.{Point}
use Rattle.tr_base.specs.Rects.{Edges, IsRect, between, empty_rect, has_point}
use Rattle.tr_base.proofs.RectFacts.{between-hull_left, between-hull_right}
use Rattle.tr_paint.specs.Hulls.{HasAll}

-- edges that lie as far out as those of two rectangles
abbrev pub is_round : Edges → Edges → Point → Bool
is_round a b q =
    between (int_min a.west b.west) (int_max a.east b.east) q.h && between (int_min a.north b.north) (int_max a.south b.south) q.v

-- the points of the first lie between them
pub round-first : (a b : Edges) (q : Point) → has_point a q ≡ true → is_round a b q ≡ true
round-first a b q h =
    let both = and_parts (between a.west a.east q.h) (between a.north a.south q.v) h in
    and_from _ _ (between-hull_left a.west b.west a.east b.east q.h both.0) (between-hull_left a.north b.north a.south b.south q.v both.1)

-- and so do those of the second
pub round-second : (a b : Edges) (q : Point) → has_point b q ≡ true → is_round a b q ≡ true
round-second a b q h =
    let both = and_parts (between b.west b.east q.h) (between b.north b.south q.v) h in
    and_from _ _ (between-hull_right a.west b.west a.east b.east q.h both.0) (between-hull_right a.north b.north a.south b.south q.v both.1)

-- an interval with a coordinate has its first one and its last one
between-low : (low high : ℤ) → int_lt low high ≡ true → between low high low ≡ true
between-low low high h = grind (arith, ints)

between-high : (low high : ℤ) → int_lt low high ≡ true → between low high (high -ℤ pos 1) ≡ true
between-high low high h = grind (arith, ints)

-- an interval that has the first and the last coordinate of two others has all that lie between these
between-least : (a b c d low high x : ℤ) → between low high a ≡ true → between low high (c -ℤ pos 1) ≡ true →
    between low high b ≡ true → between low high (d -ℤ pos 1) ≡ true → between (int_min a b) (int_max c d) x ≡ true → between low high x ≡ true
between-least a b c d low high x p q r s h = grind (arith, ints, clamps)

-- points lie between the edges of a rectangle that isn't the empty one
pub lies : (a : Edges) → IsRect a → a ≢ empty_rect → (int_lt a.west a.east && int_lt a.north a.south) ≡ true
lies a rect full = by_test (int_lt a.west a.east && int_lt a.north a.south) refl
  where
    by_test : (b : Bool) → (int_lt a.west a.east && int_lt a.north a.south) ≡ b → b ≡ true
    by_test true h = refl
    by_test false h = absurd (full (sym rect.edges ∙ ap (λ b. cond b a empty_rect) h))

-- its first point and its last one
abbrev first_of : Edges → Point
first_of a = record { h = a.west; v = a.north }

abbrev last_of : Edges → Point
last_of a = record { h = a.east -ℤ pos 1; v = a.south -ℤ pos 1 }

-- a rectangle that has all points of two others has all that lie between edges as far out as theirs
pub round-least : (a b e : Edges) → (int_lt a.west a.east && int_lt a.north a.south) ≡ true →
    (int_lt b.west b.east && int_lt b.north b.south) ≡ true → HasAll e (has_point a) → HasAll e (has_point b) → (q : Point) →
    is_round a b q ≡ true → has_point e q ≡ true
round-least a b e one other alls others q h =
    let at : (r : Edges) → (int_lt r.west r.east && int_lt r.north r.south) ≡ true → HasAll e (has_point r) →
    (has_point e (first_of r) ≡ true) × (has_point e (last_of r) ≡ true) = λ r full all. (
      all (first_of r) (and_from _ _ (between-low r.west r.east (and_parts _ _ full).0) (between-low r.north r.south (and_parts _ _ full).1)),
      all (last_of r) (and_from _ _ (between-high r.west r.east (and_parts _ _ full).0) (between-high r.north r.south (and_parts _ _ full).1)),
    ) in
    let p = at a one alls in
    let r = at b other others in
    let here = and_parts _ _ h in
    and_from _ _
    (between-least a.west b.west a.east b.east e.west e.east q.h
    (and_parts _ _ p.0).0 (and_parts _ _ p.1).0 (and_parts _ _ r.0).0 (and_parts _ _ r.1).0 here.0)
    (between-least a.north b.north a.south b.south e.north e.south q.v
    (and_parts _ _ p.0).1 (and_parts _ _ p.1).1 (and_parts _ _ r.0).1 (and_parts _ _ r.1).1 here.1)

-- an interval within another has no other coordinates
between-wider : (low high a b x : ℤ) → low ≤ℤ a → b ≤ℤ high → between a b x ≡ true → between low high x ≡ true
between-wider low high a b x p r h = grind (arith, ints)

-- a rectangle has all points of another whose edges lie within its own
pub within-all : (outer inner : Edges) → outer.west ≤ℤ inner.west → inner.east ≤ℤ outer.east →
    outer.north ≤ℤ inner.north → inner.south ≤ℤ outer.south → HasAll outer (has_point inner)
within-all outer inner west east north south = λ q h.
    let both = and_parts (between inner.west inner.east q.h) (between inner.north inner.south q.v) h in
    and_from _ _ (between-wider _ _ _ _ q.h west east both.0) (between-wider _ _ _ _ q.v north south both.1)
