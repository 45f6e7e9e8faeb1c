-- The least rectangle round a list.
use Rattle.std.proofs.Common.{◌≡◌, ◌≢◌, ℕ, zero, suc, ◌+◌, ◌-◌, ◌≤◌, ◌<◌, ℤ, ◌-ℤ◌, ◌≤ℤ◌, ◌<ℤ◌, pos, Bool, true, false, ◌||◌, ◌↔◌, inl, inr, ⊎_elim, List, [], ◌∷◌, ◌++◌, length, take, get_or, refl, sym, ap, ◌∙◌, arith}
use Rattle.std.specs.Int.{int_min, int_max}
use Rattle.std.specs.List.{AllByRecursion}
use Rattle.std.proofs.lemmas.Int.{ints, clamps}
use Rattle.std.proofs.lemmas.Bool.{false≢true, or_cases, and_parts, and_from}
use Rattle.std.proofs.lemmas.List.Elements.{All-get_or, All-from_recursion}
use Rattle.std.proofs.lemmas.List.{take_more, take_all}
use Rattle.tr_base.specs.declared.Point.{Point}
use Rattle.tr_base.specs.Rects.{Edges, between, has_point, empty_rect}
use Rattle.tr_base.specs.Layouts.{IsBetween, IsPartOf}
use Rattle.tr_base.proofs.RectFacts.{between-hull_left, between-hull_right}
use Rattle.tr_base.proofs.BoolLemmas.{or_false}
use Rattle.tr_region.specs.Points.{holds}
use Rattle.tr_region.specs.Extents.{hull_of, extents_of}
use Rattle.tr_region.proofs.SweepLemmas.{some_length}
use Rattle.tr_region.proofs.OrderLemmas.{IsFull, Precedes, AreInOrder, IsFull-at}

-- ---- what lies in a hull

has_point-hull_left : (a b : Edges) (p : Point) → has_point a p ≡ true → has_point (hull_of a b) p ≡ true
has_point-hull_left a b p h =
    let both = and_parts (between a.west a.east p.h) (between a.north a.south p.v) h in
    and_from _ _ (between-hull_left a.west b.west a.east b.east p.h both.0) (between-hull_left a.north b.north a.south b.south p.v both.1)

has_point-hull_right : (a b : Edges) (p : Point) → has_point b p ≡ true → has_point (hull_of a b) p ≡ true
has_point-hull_right a b p h =
    let both = and_parts (between b.west b.east p.h) (between b.north b.south p.v) h in
    and_from _ _ (between-hull_right a.west b.west a.east b.east p.h both.0) (between-hull_right a.north b.north a.south b.south p.v both.1)

-- a list's points lie in its extents
pub holds-extents : (rects : List Edges) (p : Point) → holds rects p ≡ true → has_point (extents_of rects) p ≡ true
holds-extents [] p h = absurd (false≢true h)
holds-extents (r ∷ []) p h = sym (or_false (has_point r p)) ∙ h
holds-extents (r ∷ s ∷ rects) p h =
    ⊎_elim (λ (k : has_point r p ≡ true). has_point-hull_left r (extents_of (s ∷ rects)) p k)
    (λ (k : holds (s ∷ rects) p ≡ true). has_point-hull_right r (extents_of (s ∷ rects)) p (holds-extents (s ∷ rects) p k))
    (or_cases (has_point r p) (holds (s ∷ rects) p) h)

-- ---- edges of extents

IsFull-hull : (a b : Edges) → IsFull a → IsFull (hull_of a b)
IsFull-hull a b f =
    let across : a.west <ℤ a.east = f.across in
    let down : a.north <ℤ a.south = f.down in
    record { across = omega (arith, ints, clamps); down = omega (arith, ints, clamps) }

pub IsFull-extents : (r : Edges) (rects : List Edges) → AreInOrder (r ∷ rects) → IsFull (extents_of (r ∷ rects))
IsFull-extents r [] h = h.0
IsFull-extents r (s ∷ rects) h = IsFull-hull r (extents_of (s ∷ rects)) h.0

-- a list has no extents where it has no rectangle
pub no_extents : (rects : List Edges) → AreInOrder rects → (extents_of rects ≡ empty_rect) ↔ (rects ≡ [])
no_extents rects h = (none rects h, λ e. ap (λ (rs : List Edges). extents_of rs) e)
  where
    none : (rects : List Edges) → AreInOrder rects → extents_of rects ≡ empty_rect → rects ≡ []
    none [] h e = refl
    none (r ∷ rects) h e =
        let full = IsFull-extents r rects h in
        let flat : pos 0 <ℤ pos 0 = rw e at full.across in
        absurd (omega (arith, ints))

-- the first rectangle once more changes nothing
pub west-again : (r : Edges) (rects : List Edges) → (extents_of (r ∷ r ∷ rects)).west ≡ (extents_of (r ∷ rects)).west
west-again r [] = min_self r.west
  where
    min_self : (a : ℤ) → int_min a a ≡ a
    min_self a = grind (arith, ints, clamps)
west-again r (s ∷ rects) = min_again r.west (extents_of (s ∷ rects)).west
  where
    min_again : (a b : ℤ) → int_min a (int_min a b) ≡ int_min a b
    min_again a b = grind (arith, ints, clamps)

pub east-again : (r : Edges) (rects : List Edges) → (extents_of (r ∷ r ∷ rects)).east ≡ (extents_of (r ∷ rects)).east
east-again r [] = max_self r.east
  where
    max_self : (a : ℤ) → int_max a a ≡ a
    max_self a = grind (arith, ints, clamps)
east-again r (s ∷ rects) = max_again r.east (extents_of (s ∷ rects)).east
  where
    max_again : (a b : ℤ) → int_max a (int_max a b) ≡ int_max a b
    max_again a b = grind (arith, ints, clamps)

-- one rectangle more at the end
pub extents_of-push : (r : Edges) (rects : List Edges) (s : Edges) → extents_of (r ∷ (rects ++ s ∷ [])) ≡ hull_of (extents_of (r ∷ rects)) s
extents_of-push r [] s = refl
extents_of-push r (t ∷ rects) s =
    ap (hull_of r) (extents_of-push t rects s) ∙ hull_of-assoc r (extents_of (t ∷ rects)) s
  where
    min-assoc : (a b c : ℤ) → int_min a (int_min b c) ≡ int_min (int_min a b) c
    min-assoc a b c = grind (arith, ints, clamps)

    max-assoc : (a b c : ℤ) → int_max a (int_max b c) ≡ int_max (int_max a b) c
    max-assoc a b c = grind (arith, ints, clamps)

    hull_of-assoc : (a b c : Edges) → hull_of a (hull_of b c) ≡ hull_of (hull_of a b) c
    hull_of-assoc a b c =
        rw (min-assoc a.west b.west c.west, max-assoc a.east b.east c.east, min-assoc a.north b.north c.north, max-assoc a.south b.south c.south) refl

-- the first rectangle begins no later than any other
pub north-first : (r : Edges) (rects : List Edges) → AreInOrder (r ∷ rects) → (extents_of (r ∷ rects)).north ≡ r.north
north-first r [] h = refl
north-first r (s ∷ rects) h =
    ap (int_min r.north) (north-first s rects h.2) ∙ least r s h.0 h.1.0
  where
    least : (r s : Edges) → IsFull r → Precedes r s → int_min r.north s.north ≡ r.north
    least r s f (inl south) = let down : r.north <ℤ r.south = f.down in omega (arith, ints, clamps)
    least r s f (inr same) = let north : r.north ≡ s.north = same.0 in omega (arith, ints, clamps)

-- the last one ends no earlier
pub south-last : (rects : List Edges) (n : ℕ) (d : Edges) → AreInOrder rects → n + 1 ≡ length rects → (extents_of rects).south ≡ (get_or rects n d).south
south-last [] n d h e = absurd (omega arith)
south-last (r ∷ []) zero d h e = refl
south-last (r ∷ []) (suc n) d h e = absurd (omega arith)
south-last (r ∷ s ∷ rects) zero d h e = absurd (omega arith)
south-last (r ∷ s ∷ rects) (suc n) d h e =
    let last = get_or (s ∷ rects) n d in
    ap (int_max r.south) (south-last (s ∷ rects) n d h.2 (omega arith))
    ∙ greatest r last (IsFull-at (s ∷ rects) n d h.2 (omega arith))
    (All-get_or (Precedes r) (s ∷ rects) n d (omega arith) (All-from_recursion (Precedes r) (s ∷ rects) h.1))
  where
    greatest : (r s : Edges) → IsFull s → Precedes r s → int_max r.south s.south ≡ s.south
    greatest r s f (inl south) = let down : s.north <ℤ s.south = f.down in omega (arith, ints, clamps)
    greatest r s f (inr same) = let bottom : r.south ≡ s.south = same.1 in omega (arith, ints, clamps)

-- ---- a walk over a list that widens the extents

pub extents_of-more : (first : Edges) (rects : List Edges) (i : ℕ) (r : Edges) → i < length rects → r ≡ get_or rects i r →
    extents_of (first ∷ take (i + 1) rects) ≡ hull_of (extents_of (first ∷ take i rects)) r
extents_of-more first rects i r h e =
    ap (λ (rs : List Edges). extents_of (first ∷ rs)) (take_more rects i r h)
    ∙ extents_of-push first (take i rects) (get_or rects i r)
    ∙ ap (λ (s : Edges). hull_of (extents_of (first ∷ take i rects)) s) (sym e)

pub extents_of-whole : (first : Edges) (rects : List Edges) (n : ℕ) → rects ≢ [] → first ≡ get_or rects 0 first → length rects ≤ n →
    ((extents_of (first ∷ take n rects)).west ≡ (extents_of rects).west) × ((extents_of (first ∷ take n rects)).east ≡ (extents_of rects).east)
extents_of-whole first [] n some e h = absurd (some refl)
extents_of-whole first (r ∷ rects) n some e h = rw (take_all n (r ∷ rects) h, e) (west-again r rects, east-again r rects)

pub IsFull-some : (rects : List Edges) → rects ≢ [] → AreInOrder rects → IsFull (extents_of rects)
IsFull-some [] some h = absurd (some refl)
IsFull-some (r ∷ rects) some h = IsFull-extents r rects h

pub north-at : (rects : List Edges) (first : Edges) → rects ≢ [] → AreInOrder rects → first ≡ get_or rects 0 first → first.north ≡ (extents_of rects).north
north-at [] first some h e = absurd (some refl)
north-at (r ∷ rects) first some h e = ap (λ (s : Edges). s.north) e ∙ sym (north-first r rects h)

pub south-at : (rects : List Edges) (last : Edges) → rects ≢ [] → AreInOrder rects → last ≡ get_or rects (length rects - 1) last →
    last.south ≡ (extents_of rects).south
south-at rects last some h e =
    ap (λ (s : Edges). s.south) e ∙ sym (south-last rects (length rects - 1) last h (omega (arith, some_length rects some)))

-- ---- lists in which one lies north of the other

pub south-within : (rects : List Edges) (y : ℤ) → (extents_of rects).south ≤ℤ y → AllByRecursion (λ (r : Edges). r.south ≤ℤ y) rects
south-within [] y h = tt
south-within (r ∷ []) y h = (h, tt)
south-within (r ∷ s ∷ rects) y h = (omega (arith, ints, clamps), south-within (s ∷ rects) y (omega (arith, ints, clamps)))

pub north-within : (rects : List Edges) (y : ℤ) → AreInOrder rects → y <ℤ (extents_of rects).north → AllByRecursion (λ (r : Edges). y <ℤ r.north) rects
north-within [] y o h = tt
north-within (r ∷ []) y o h = (h, tt)
north-within (r ∷ s ∷ rects) y o h = (omega (arith, ints, clamps), north-within (s ∷ rects) y o.2 (omega (arith, ints, clamps)))

-- ---- the least rectangle round a list

-- a rectangle with points lies between the edges of one that has them all
between_edges : (r outer : Edges) → IsFull r → ((p : Point) → has_point r p ≡ true → has_point outer p ≡ true) → IsBetween r outer
between_edges r outer full all =
    let across : r.west <ℤ r.east = full.across in
    let down : r.north <ℤ r.south = full.down in
    let first = edges r.west r.north (all _ (corner r.west r.north (omega (arith, ints)) across (omega (arith, ints)) down)) in
    let last = edges (r.east -ℤ pos 1) (r.south -ℤ pos 1) (all _ (corner (r.east -ℤ pos 1) (r.south -ℤ pos 1)
    (omega (arith, ints)) (omega (arith, ints)) (omega (arith, ints)) (omega (arith, ints)))) in
    record { west = first.0; east = omega (arith, ints, last.1); north = first.2; south = omega (arith, ints, last.3) }
  where
    corner : (h v : ℤ) → r.west ≤ℤ h → h <ℤ r.east → r.north ≤ℤ v → v <ℤ r.south → has_point r (record { h = h; v = v }) ≡ true
    corner h v a b c d = grind (arith, ints)

    edges : (h v : ℤ) → has_point outer (record { h = h; v = v }) ≡ true → (outer.west ≤ℤ h) × (h <ℤ outer.east) × (outer.north ≤ℤ v) × (v <ℤ outer.south)
    edges h v on = (grind (arith, ints), grind (arith, ints), grind (arith, ints), grind (arith, ints))

between_hull : (a b outer : Edges) → IsBetween a outer → IsBetween b outer → IsBetween (hull_of a b) outer
between_hull a b outer f g = record {
  west = omega (arith, ints, clamps, f.west, g.west);
  east = omega (arith, ints, clamps, f.east, g.east);
  north = omega (arith, ints, clamps, f.north, g.north);
  south = omega (arith, ints, clamps, f.south, g.south);
}

between_all : (r : Edges) (rects : List Edges) (outer : Edges) → AreInOrder (r ∷ rects) →
    ((p : Point) → holds (r ∷ rects) p ≡ true → has_point outer p ≡ true) → IsBetween (extents_of (r ∷ rects)) outer
between_all r [] outer h all = between_edges r outer h.0 (λ p k. all p (or_false (has_point r p) ∙ k))
between_all r (s ∷ rects) outer h all =
    between_hull r (extents_of (s ∷ rects)) outer (between_edges r outer h.0 (λ p k. all p (ap (λ b. b || holds (s ∷ rects) p) k)))
    (between_all s rects outer h.2 (λ p k. all p (ap (λ b. has_point r p || b) k ∙ or_true (has_point r p))))
  where
    or_true : (b : Bool) → b || true ≡ true
    or_true true = refl
    or_true false = refl

-- the extents are part of each rectangle that has all points
pub extents_least : (rects : List Edges) → AreInOrder rects → (outer : Edges) → ((p : Point) → holds rects p ≡ true → has_point outer p ≡ true) →
    IsPartOf (extents_of rects) outer
extents_least [] h outer all = inl refl
extents_least (r ∷ rects) h outer all = inr (between_all r rects outer h all)
