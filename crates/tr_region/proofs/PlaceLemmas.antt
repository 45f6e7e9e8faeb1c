-- The places of the points of rectangles: each below the number of points, and where they are when one rectangle more stands at the end.
use Rattle.std.proofs.Common.{◌≡◌, ℕ, zero, suc, ◌+◌, ◌<◌, ◌≤◌, ℤ, ◌-ℤ◌, Bool, true, false, ◌||◌, cond, List, [], ◌∷◌, ◌++◌, length, get_or, take, refl, sym, ap, ◌∙◌, arith}
use Rattle.std.specs.Prelude.{unsigned_abs}
use Rattle.std.proofs.lemmas.Int.{ints}
use Rattle.std.proofs.lemmas.Nat.{mul-add-lt}
use Rattle.std.proofs.lemmas.Bool.{and_parts}
use Rattle.std.proofs.lemmas.List.{take_more}
use Rattle.std.proofs.lemmas.List.Sums.{sum_by-cons, sum_by-append, sum_by-take-le}
use Rattle.tr_base.specs.declared.Point.{Point}
use Rattle.tr_base.specs.Rects.{Edges, between, has_point, sides_of}
use Rattle.tr_base.proofs.RectLemmas.{false-true}
use Rattle.tr_base.proofs.BoolLemmas.{or_true, or_false}
use Rattle.tr_base.proofs.RectFacts.{between_parts, abs_is}
use Rattle.tr_region.specs.Areas.{area_of, total_area}
use Rattle.tr_region.specs.Places.{place_in, place_within}
use Rattle.tr_region.specs.Points.{holds}
use Rattle.tr_region.proofs.BandLemmas.{holds-append}

-- ---- one rectangle

-- how far a coordinate is from the first edge
far_within : (low high x : ℤ) → between low high x ≡ true → unsigned_abs (x -ℤ low) < unsigned_abs (high -ℤ low)
far_within low high x h =
    let at = between_parts low high x h in
    let here = abs_is (x -ℤ low) (omega (arith, ints, at.0)) in
    let all = abs_is (high -ℤ low) (omega (arith, ints, at.0, at.1)) in
    omega (arith, ints, here, all, at.1)

-- a point's row and column in its rectangle
pub row_and_column : (r : Edges) (p : Point) → has_point r p ≡ true →
    (unsigned_abs (p.v -ℤ r.north) < (sides_of r).1) × (unsigned_abs (p.h -ℤ r.west) < (sides_of r).0)
row_and_column r p h =
    let at = and_parts (between r.west r.east p.h) (between r.north r.south p.v) h in
    (far_within r.north r.south p.v at.1, far_within r.west r.east p.h at.0)

-- its place is one of the rectangle's
pub place_within-lt : (r : Edges) (p : Point) → has_point r p ≡ true → place_within r p < area_of r
place_within-lt r p h =
    let at = row_and_column r p h in
    mul-add-lt (unsigned_abs (p.v -ℤ r.north)) (sides_of r).0 (unsigned_abs (p.h -ℤ r.west)) (sides_of r).1 at.0 at.1

-- ---- one rectangle before others

-- the place of a point of the others
pub place_in-held : (r : Edges) (rs : List Edges) (p : Point) → holds rs p ≡ true → place_in (r ∷ rs) p ≡ area_of r + place_in rs p
place_in-held r rs p h = ap (λ b. cond b (area_of r + place_in rs p) (place_within r p)) h

-- the place of a point that none of the others holds
pub place_in-first : (r : Edges) (rs : List Edges) (p : Point) → holds rs p ≡ false → place_in (r ∷ rs) p ≡ place_within r p
place_in-first r rs p none = ap (λ b. cond b (area_of r + place_in rs p) (place_within r p)) none

-- a point that none of the others holds is the first one's
pub held_first : (r : Edges) (rs : List Edges) (p : Point) → holds (r ∷ rs) p ≡ true → holds rs p ≡ false → has_point r p ≡ true
held_first r rs p h none = sym (or_false (has_point r p)) ∙ ap (λ b. has_point r p || b) (sym none) ∙ h

-- ---- one rectangle more at the end

pub holds-push : (rects : List Edges) (r : Edges) (p : Point) → holds (rects ++ r ∷ []) p ≡ (holds rects p || has_point r p)
holds-push rects r p = holds-append rects (r ∷ []) p ∙ ap (λ b. holds rects p || b) (or_false (has_point r p))

-- its own points are held
pub holds-push_own : (rects : List Edges) (r : Edges) (p : Point) → has_point r p ≡ true → holds (rects ++ r ∷ []) p ≡ true
holds-push_own rects r p h = holds-push rects r p ∙ ap (λ b. holds rects p || b) h ∙ or_true (holds rects p)

-- any other point is held where it was
pub holds-push_other : (rects : List Edges) (r : Edges) (p : Point) → has_point r p ≡ false → holds (rects ++ r ∷ []) p ≡ holds rects p
holds-push_other rects r p out = holds-push rects r p ∙ ap (λ b. holds rects p || b) out ∙ or_false (holds rects p)

pub total_area-push : (rects : List Edges) (r : Edges) → total_area (rects ++ r ∷ []) ≡ total_area rects + area_of r
total_area-push rects r =
    let both = sum_by-append area_of rects (r ∷ []) in
    let last = sum_by-cons area_of r [] in
    omega (arith, both, last)

-- a point of the last rectangle stands behind those of the others
pub place_in-last : (rects : List Edges) (r : Edges) (p : Point) → has_point r p ≡ true → place_in (rects ++ r ∷ []) p ≡ total_area rects + place_within r p
place_in-last [] r p h = omega arith
place_in-last (x ∷ rects) r p h =
    let first = place_in-held x (rects ++ r ∷ []) p (holds-push_own rects r p h) in
    let rest = place_in-last rects r p h in
    let all = sum_by-cons area_of x rects in
    omega (arith, first, rest, all)

-- another point keeps its place
pub place_in-before : (rects : List Edges) (r : Edges) (p : Point) → has_point r p ≡ false → holds rects p ≡ true →
    place_in (rects ++ r ∷ []) p ≡ place_in rects p
place_in-before [] r p out h = absurd (false-true h)
place_in-before (x ∷ rects) r p out h = by_rest (λ e. place_in-before rects r p out e) (holds rects p) refl
  where
    by_rest : (holds rects p ≡ true → place_in (rects ++ r ∷ []) p ≡ place_in rects p) → (b : Bool) → holds rects p ≡ b →
        place_in ((x ∷ rects) ++ r ∷ []) p ≡ place_in (x ∷ rects) p
    by_rest rest true held =
        place_in-held x (rects ++ r ∷ []) p (holds-push_other rects r p out ∙ held)
        ∙ ap (λ n. area_of x + n) (rest held)
        ∙ sym (place_in-held x rects p held)
    by_rest rest false none =
        place_in-first x (rects ++ r ∷ []) p (holds-push_other rects r p out ∙ none) ∙ sym (place_in-first x rects p none)

-- ---- one rectangle of a list

-- the rectangle at a place of the list
pub record IsRectAt (rects : List Edges) (k : ℕ) (r : Edges) : Type 0 where
  pub within : k < length rects
  pub is : r ≡ get_or rects k r

-- its points are held
pub held_at : (rects : List Edges) (k : ℕ) (d : Edges) → k < length rects → (p : Point) → has_point (get_or rects k d) p ≡ true → holds rects p ≡ true
held_at [] k d lt p h = absurd (omega (arith, lt))
held_at (x ∷ rects) zero d lt p h = ap (λ b. b || holds rects p) h
held_at (x ∷ rects) (suc k) d lt p h = ap (λ b. has_point x p || b) (held_at rects k d (omega (arith, lt)) p h) ∙ or_true (has_point x p)

pub rect_held : (rects : List Edges) (k : ℕ) (r : Edges) → IsRectAt rects k r → (p : Point) → has_point r p ≡ true → holds rects p ≡ true
rect_held rects k r at p h = held_at rects k r at.within p (ap (λ (e : Edges). has_point e p) (sym at.is) ∙ h)

-- the rectangles before it, and it
pub take-rect : (rects : List Edges) (k : ℕ) (r : Edges) → IsRectAt rects k r → take (k + 1) rects ≡ take k rects ++ r ∷ []
take-rect rects k r at = take_more rects k r at.within ∙ ap (λ (e : Edges). take k rects ++ e ∷ []) (sym at.is)

pub total_area-rect : (rects : List Edges) (k : ℕ) (r : Edges) → IsRectAt rects k r → total_area (take (k + 1) rects) ≡ total_area (take k rects) + area_of r
total_area-rect rects k r at = ap total_area (take-rect rects k r at) ∙ total_area-push (take k rects) r

-- they hold no more points than all rectangles do
pub total_area-room : (rects : List Edges) (k : ℕ) (r : Edges) → IsRectAt rects k r → total_area (take k rects) + area_of r ≤ total_area rects
total_area-room rects k r at = omega (arith, total_area-rect rects k r at, sum_by-take-le area_of rects (k + 1))
