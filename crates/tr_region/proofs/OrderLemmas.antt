-- The rectangles of a canonical list in their order, and the search for the one that holds a point.
use Rattle.std.proofs.Common.{◌≡◌, ℕ, zero, suc, ◌≤◌, ◌<◌, ℤ, ◌≤ℤ◌, ◌<ℤ◌, true, false, ◌⊎◌, inl, inr, List, [], ◌∷◌, ◌++◌, map, length, get_or, refl, subst, arith}
use Rattle.std.specs.List.{AllByRecursion, AllWithin}
use Rattle.std.proofs.lemmas.Int.{ints}
use Rattle.std.proofs.lemmas.List.Elements.{All-get_or, All-from_recursion}
use Rattle.tr_base.specs.declared.Point.{Point}
use Rattle.tr_base.specs.Rects.{Edges, has_point}
use Rattle.tr_base.proofs.BoolLemmas.{or_false}
use Rattle.tr_region.specs.Points.{holds}
use Rattle.tr_region.specs.Bands.{Span, Band, rect_in, rects_in, rects_of, bands_of, AreApart, AreBands, IsCanonical}
use Rattle.tr_region.specs.Order.{lies_before}
use Rattle.tr_region.proofs.ListLemmas.{AllByRecursion-append, AllByRecursion-weaker}
use Rattle.tr_region.proofs.BandLemmas.{AreBands-parts, BeginsFrom, BeginsFrom-after, rects_of-bands_of}

-- a rectangle holds points
pub record IsFull (r : Edges) : Type 0 where
  pub across : r.west <ℤ r.east
  pub down : r.north <ℤ r.south

-- a rectangle lies north of another, or in the same rows and west of it
abbrev pub Precedes : Edges → Edges → Type 0
Precedes r s = (r.south ≤ℤ s.north) ⊎ ((r.north ≡ s.north) × (r.south ≡ s.south) × (r.east <ℤ s.west))

-- each rectangle holds points and precedes all later ones
abbrev pub AreInOrder : List Edges → Type 0
AreInOrder [] = Unit {0}
AreInOrder (r ∷ rects) = IsFull r × AllByRecursion (Precedes r) rects × AreInOrder rects

-- ---- canonical lists are in order

AreInOrder-append : (xs ys : List Edges) → AreInOrder xs → AreInOrder ys → AllByRecursion (λ x. AllByRecursion (Precedes x) ys) xs → AreInOrder (xs ++ ys)
AreInOrder-append [] ys h k c = k
AreInOrder-append (x ∷ xs) ys h k c = (h.0, AllByRecursion-append (Precedes x) xs ys h.1 c.0, AreInOrder-append xs ys h.2 k c.1)

-- spans that are apart lie beyond what lies west of the first
beyond : (x : ℤ) (s : Span) (spans : List Span) → AreApart (s ∷ spans) → x <ℤ s.west → AllByRecursion (λ (t : Span). x <ℤ t.west) (s ∷ spans)
beyond x s [] h k = (k, tt)
beyond x s (t ∷ spans) h k =
    let some : s.west <ℤ s.east = h.0 in
    let gap : s.east <ℤ t.west = h.1 in
    (k, beyond x t spans h.2 (omega (arith, ints)))

preceded : (b : Band) (s : Span) (spans : List Span) → AllByRecursion (λ (t : Span). s.east <ℤ t.west) spans →
    AllByRecursion (Precedes (rect_in b s)) (map (rect_in b) spans)
preceded b s [] h = tt
preceded b s (t ∷ spans) h = (inr (refl, refl, h.0), preceded b s spans h.1)

AreInOrder-band : (b : Band) (spans : List Span) → b.north <ℤ b.south → AreApart spans → AreInOrder (map (rect_in b) spans)
AreInOrder-band b [] rows h = tt
AreInOrder-band b (s ∷ []) rows h = (record { across = h; down = rows }, tt, tt)
AreInOrder-band b (s ∷ t ∷ spans) rows h =
    (record { across = h.0; down = rows }, preceded b s (t ∷ spans) (beyond s.east t spans h.2 h.1), AreInOrder-band b (t ∷ spans) rows h.2)

BeginsFrom-earlier : (y z : ℤ) (bands : List Band) → y ≤ℤ z → BeginsFrom z bands → BeginsFrom y bands
BeginsFrom-earlier y z [] h f = tt
BeginsFrom-earlier y z (b ∷ bands) h f = omega (arith, ints)

in_rows : (y : ℤ) (b : Band) (spans : List Span) → y ≤ℤ b.north → AllByRecursion (λ (r : Edges). y ≤ℤ r.north) (map (rect_in b) spans)
in_rows y b [] h = tt
in_rows y b (s ∷ spans) h = (h, in_rows y b spans h)

-- the rectangles of bands that begin from a row on lie south of it
southwards : (y : ℤ) (bands : List Band) → AreBands bands → BeginsFrom y bands → AllByRecursion (λ (r : Edges). y ≤ℤ r.north) (rects_of bands)
southwards y [] h f = tt
southwards y (b ∷ bands) h f =
    let parts = AreBands-parts b bands h in
    let rows : b.north <ℤ b.south = parts.0.rows in
    let first : y ≤ℤ b.north = f in
    AllByRecursion-append (λ (r : Edges). y ≤ℤ r.north) (rects_in b) (rects_of bands) (in_rows y b b.spans f)
    (southwards y bands parts.2 (BeginsFrom-earlier y b.south bands (omega (arith, ints)) (BeginsFrom-after b bands parts.1)))

across_bands : (b : Band) (spans : List Span) (ys : List Edges) → AllByRecursion (λ (r : Edges). b.south ≤ℤ r.north) ys →
    AllByRecursion (λ x. AllByRecursion (Precedes x) ys) (map (rect_in b) spans)
across_bands b [] ys h = tt
across_bands b (s ∷ spans) ys h =
    (AllByRecursion-weaker (λ (r : Edges). b.south ≤ℤ r.north) (Precedes (rect_in b s)) (λ r k. inl k) ys h, across_bands b spans ys h)

AreInOrder-bands : (bands : List Band) → AreBands bands → AreInOrder (rects_of bands)
AreInOrder-bands [] h = tt
AreInOrder-bands (b ∷ bands) h =
    let parts = AreBands-parts b bands h in
    AreInOrder-append (rects_in b) (rects_of bands) (AreInOrder-band b b.spans parts.0.rows parts.0.apart) (AreInOrder-bands bands parts.2)
    (across_bands b b.spans (rects_of bands) (southwards b.south bands parts.2 (BeginsFrom-after b bands parts.1)))

pub AreInOrder-canonical : (rects : List Edges) → IsCanonical rects → AreInOrder rects
AreInOrder-canonical rects h = subst AreInOrder (rects_of-bands_of rects) (AreInOrder-bands (bands_of rects) h.bands)

-- ---- which rectangles lie before a point

pub IsFull-at : (rects : List Edges) (i : ℕ) (d : Edges) → AreInOrder rects → i < length rects → IsFull (get_or rects i d)
IsFull-at [] i d h k = absurd (omega arith)
IsFull-at (r ∷ rects) zero d h k = h.0
IsFull-at (r ∷ rects) (suc i) d h k = IsFull-at rects i d h.2 (omega arith)

-- what precedes a rectangle before a point lies before the point
precedes_before : (r s : Edges) (p : Point) → IsFull r → IsFull s → Precedes r s → lies_before s p ≡ true → lies_before r p ≡ true
precedes_before r s p f g (inl south) e =
    let down : s.north <ℤ s.south = g.down in grind (arith, ints)
precedes_before r s p f g (inr same) e =
    let across : s.west <ℤ s.east = g.across in
    let north : r.north ≡ s.north = same.0 in
    let bottom : r.south ≡ s.south = same.1 in
    let west : r.east <ℤ s.west = same.2 in
    grind (arith, ints)

pub before_earlier : (rects : List Edges) (p : Point) → AreInOrder rects → (i j : ℕ) (d : Edges) → i ≤ j → j < length rects →
    lies_before (get_or rects j d) p ≡ true → lies_before (get_or rects i d) p ≡ true
before_earlier [] p h i j d le lt e = absurd (omega arith)
before_earlier (r ∷ rects) p h zero zero d le lt e = e
before_earlier (r ∷ rects) p h zero (suc j) d le lt e =
    precedes_before r (get_or rects j d) p h.0 (IsFull-at rects j d h.2 (omega arith))
    (All-get_or (Precedes r) rects j d (omega arith) (All-from_recursion (Precedes r) rects h.1)) e
before_earlier (r ∷ rects) p h (suc i) zero d le lt e = absurd (omega arith)
before_earlier (r ∷ rects) p h (suc i) (suc j) d le lt e = before_earlier rects p h.2 i j d (omega arith) (omega arith) e

-- ---- which one holds the point

no_point_before : (r : Edges) (p : Point) → lies_before r p ≡ true → has_point r p ≡ false
no_point_before r p h = grind (arith, ints)

no_point_after : (r s : Edges) (p : Point) → IsFull r → Precedes r s → lies_before r p ≡ false → has_point s p ≡ false
no_point_after r s p f (inl south) e =
    let down : r.north <ℤ r.south = f.down in grind (arith, ints)
no_point_after r s p f (inr same) e =
    let north : r.north ≡ s.north = same.0 in
    let west : r.east <ℤ s.west = same.2 in
    grind (arith, ints)

none_after : (r : Edges) (rects : List Edges) (p : Point) → IsFull r → AllByRecursion (Precedes r) rects → lies_before r p ≡ false → holds rects p ≡ false
none_after r [] p f h e = refl
none_after r (s ∷ rects) p f h e = rw (no_point_after r s p f h.0 e) (none_after r rects p f h.1 e)

-- the first rectangle that doesn't lie before a point decides whether the list holds it
pub holds_at : (rects : List Edges) (at : ℕ) (d : Edges) (p : Point) → AreInOrder rects →
    AllWithin (λ (r : Edges). lies_before r p ≡ true) rects 0 at × AllWithin (λ (r : Edges). lies_before r p ≡ false) rects at (length rects) →
    at < length rects → holds rects p ≡ has_point (get_or rects at d) p
holds_at [] at d p h w k = absurd (omega arith)
holds_at (r ∷ rects) zero d p h w k =
    rw (none_after r rects p h.0 h.1 (w.1 zero r (omega arith) (omega arith))) (or_false (has_point r p))
holds_at (r ∷ rects) (suc at) d p h w k =
    rw (no_point_before r p (w.0 zero r (omega arith) (omega arith)))
    (holds_at rects at d p h.2 (λ i e lo hi. w.0 (suc i) e (omega arith) (omega arith), λ i e lo hi. w.1 (suc i) e (omega arith) (omega arith)) (omega arith))

-- and where there is none, no point is held
pub holds_past : (rects : List Edges) (at : ℕ) (p : Point) → AllWithin (λ (r : Edges). lies_before r p ≡ true) rects 0 at → length rects ≤ at →
    holds rects p ≡ false
holds_past [] at p w k = refl
holds_past (r ∷ rects) zero p w k = absurd (omega arith)
holds_past (r ∷ rects) (suc at) p w k =
    rw (no_point_before r p (w zero r (omega arith) (omega arith)))
    (holds_past rects at p (λ i e lo hi. w (suc i) e (omega arith) (omega arith)) (omega arith))
