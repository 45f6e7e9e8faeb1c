-- A canonical list is in order, and its rectangles of one row follow one another in it.
use Rattle.std.proofs.Common.{◌≡◌, ℕ, zero, suc, ◌-◌, ◌<◌, ◌≤◌, ℤ, pos, ◌≤ℤ◌, ◌<ℤ◌, true, false, ◌⊎◌, inl, inr, List, [], ◌∷◌, ◌++◌, map, take, drop, get_or, length, refl, sym, ap, ◌∙◌, subst, arith}
use Rattle.std.specs.Prelude.{int_le, int_lt}
use Rattle.std.specs.List.{AllByRecursion, AllWithin}
use Rattle.std.specs.List.Sorted.{IsPartitionedBy, IsPartitionPoint}
use Rattle.std.proofs.lemmas.Bool.{cases_lt, cases_order, or_right, true≢false}
use Rattle.std.proofs.lemmas.Int.{ints}
use Rattle.std.proofs.lemmas.List.{get_or_default}
use Rattle.tr_base.specs.declared.Point.{Point}
use Rattle.tr_base.specs.Rects.{Edges, between, has_point}
use Rattle.tr_region.specs.Points.{holds}
use Rattle.tr_region.specs.Bands.{Span, Band, span_of, spans_of, rect_in, rects_in, rects_of, bands_of, AreApart, AreBands, IsCanonical, in_spans}
use Rattle.tr_region.specs.Rows.{HoldsRow}
use Rattle.tr_region.specs.RowParts.{HoldsPoints, ComesBefore, AreInOrder, IsRowPart}
use Rattle.tr_region.proofs.ListLemmas.{AllByRecursion-append, AllByRecursion-map, AllByRecursion-weaker}
use Rattle.tr_region.proofs.BandLemmas.{AreBands-parts, AreApart-parts, rects_of-bands_of}

-- a span ends west of all that follow it
all_east : (s : Span) (spans : List Span) → AreApart (s ∷ spans) → AllByRecursion (λ t. s.east <ℤ t.west) spans
all_east s [] h = tt
all_east s (t ∷ spans) h =
    let gap : s.east <ℤ t.west = h.1 in
    let some : t.west <ℤ t.east = (AreApart-parts t spans h.2).0 in
    (gap, AllByRecursion-weaker (λ u. t.east <ℤ u.west) (λ u. s.east <ℤ u.west) (λ u k. omega (arith, ints)) spans (all_east t spans h.2))

-- a band ends north of all that follow it
all_bands_south : (b : Band) (bands : List Band) → AreBands (b ∷ bands) → AllByRecursion (λ c. b.south ≤ℤ c.north) bands
all_bands_south b [] h = tt
all_bands_south b (c ∷ bands) h =
    let first : b.south ≤ℤ c.north = h.1.south in
    let rows : c.north <ℤ c.south = (AreBands-parts c bands h.2).0.rows in
    (first, AllByRecursion-weaker (λ d. c.south ≤ℤ d.north) (λ d. b.south ≤ℤ d.north) (λ d k. omega (arith, ints)) bands (all_bands_south c bands h.2))

-- and of all their rectangles
all_south : (y : ℤ) (bands : List Band) → AllByRecursion (λ b. y ≤ℤ b.north) bands → AllByRecursion (λ r. y ≤ℤ r.north) (rects_of bands)
all_south y [] k = tt
all_south y (b ∷ bands) k =
    AllByRecursion-append (λ r. y ≤ℤ r.north) (rects_in b) (rects_of bands)
    (AllByRecursion-map (λ r. y ≤ℤ r.north) (rect_in b) b.spans (each b.spans))
    (all_south y bands k.1)
  where
    each : (spans : List Span) → AllByRecursion (λ (s : Span). y ≤ℤ b.north) spans
    each [] = tt
    each (s ∷ spans) = (k.0, each spans)

in_order-band : (b : Band) (spans : List Span) (rest : List Edges) → b.north <ℤ b.south → AreApart spans →
    AllByRecursion (λ r. b.south ≤ℤ r.north) rest → AreInOrder rest →
    AreInOrder (map (rect_in b) spans ++ rest)
in_order-band b [] rest rows h south k = k
in_order-band b (s ∷ spans) rest rows h south k =
    let parts = AreApart-parts s spans h in
    let r = rect_in b s in (
      (parts.0, rows),
      AllByRecursion-append (ComesBefore r) (map (rect_in b) spans) rest
          (AllByRecursion-map (ComesBefore r) (rect_in b) spans
          (AllByRecursion-weaker (λ t. s.east <ℤ t.west) (λ t. ComesBefore r (rect_in b t)) (λ t e. inr (refl, refl, e)) spans (all_east s spans h)))
          (AllByRecursion-weaker (λ e. b.south ≤ℤ e.north) (ComesBefore r) (λ e g. inl g) rest south),
      in_order-band b spans rest rows parts.1 south k,
    )

in_order-bands : (bands : List Band) → AreBands bands → AreInOrder (rects_of bands)
in_order-bands [] h = tt
in_order-bands (b ∷ bands) h =
    let parts = AreBands-parts b bands h in
    in_order-band b b.spans (rects_of bands) parts.0.rows parts.0.apart (all_south b.south bands (all_bands_south b bands h)) (in_order-bands bands parts.2)

pub AreInOrder-canonical : (rects : List Edges) → IsCanonical rects → AreInOrder rects
AreInOrder-canonical rects h = subst AreInOrder (rects_of-bands_of rects) (in_order-bands (bands_of rects) h.bands)

-- one rectangle of a list in order holds points
pub full_at : (rects : List Edges) (k : ℕ) (d : Edges) → AreInOrder rects → k < length rects → HoldsPoints (get_or rects k d)
full_at [] k d h lt = absurd (omega arith)
full_at (r ∷ rects) zero d h lt = h.0
full_at (r ∷ rects) (suc k) d h lt = full_at rects k d h.2 (omega arith)

-- and comes before each that follows it
order_at : (rects : List Edges) (i j : ℕ) (d : Edges) → AreInOrder rects → i < j → j < length rects → ComesBefore (get_or rects i d) (get_or rects j d)
order_at [] i j d h lt fits = absurd (omega arith)
order_at (r ∷ rects) i zero d h lt fits = absurd (omega arith)
order_at (r ∷ rects) zero (suc j) d h lt fits = at rects j h.1 (omega arith)
  where
    at : (es : List Edges) (k : ℕ) → AllByRecursion (ComesBefore r) es → k < length es → ComesBefore r (get_or es k d)
    at [] k all below = absurd (omega arith)
    at (e ∷ es) zero all below = all.0
    at (e ∷ es) (suc k) all below = at es k all.1 (omega arith)
order_at (r ∷ rects) (suc i) (suc j) d h lt fits = order_at rects i j d h.2 (omega arith) (omega arith)

-- an edge that never falls from one rectangle to one that follows it never falls along the list
module _ (edge : Edges → ℤ) (step : (a b : Edges) → HoldsPoints a → HoldsPoints b → ComesBefore a b → edge a ≤ℤ edge b) where
  pub rises : (rects : List Edges) (i j : ℕ) (d : Edges) → AreInOrder rects → i ≤ j → j < length rects → edge (get_or rects i d) ≤ℤ edge (get_or rects j d)
  rises rects i j d h le fits = by_order (cases_order i j)
    where
      by_order : (i ≡ j) ⊎ ((i < j) ⊎ (j < i)) → edge (get_or rects i d) ≤ℤ edge (get_or rects j d)
      by_order (inl same) = rw same (omega (arith, ints))
      by_order (inr (inl lt)) =
          step (get_or rects i d) (get_or rects j d) (full_at rects i d h (omega arith)) (full_at rects j d h fits)
          (order_at rects i j d h lt fits)
      by_order (inr (inr gt)) = absurd (omega arith)

souths : (a b : Edges) → HoldsPoints a → HoldsPoints b → ComesBefore a b → a.south ≤ℤ b.south
souths a b ha hb (inl h) = omega (arith, ints, hb.1)
souths a b ha hb (inr h) = omega (arith, ints, h.1)

norths : (a b : Edges) → HoldsPoints a → HoldsPoints b → ComesBefore a b → a.north ≤ℤ b.north
norths a b ha hb (inl h) = omega (arith, ints, ha.1)
norths a b ha hb (inr h) = omega (arith, ints, h.0)

-- so a search by the south edge, or by the north edge, parts the list
module _ (v : ℤ) (rects : List Edges) (h : AreInOrder rects) where
  pub parted_by_south : IsPartitionedBy (λ (r : Edges). int_le r.south v) rects
  parted_by_south = λ i j d le lt t.
      let up = rises (λ r. r.south) souths rects i j d h le lt in
      grind (arith, ints)

  pub parted_by_north : IsPartitionedBy (λ (r : Edges). int_le r.north v) rects
  parted_by_north = λ i j d le lt t.
      let up = rises (λ r. r.north) norths rects i j d h le lt in
      grind (arith, ints)

  pub parted_before_north : IsPartitionedBy (λ (r : Edges). int_lt r.north v) rects
  parted_before_north = λ i j d le lt t.
      let up = rises (λ r. r.north) norths rects i j d h le lt in
      grind (arith, ints)

  -- what searches by both edges find is the row's part
  pub row_part-found : (start end : ℕ) → start ≤ length rects → end ≤ length rects →
      IsPartitionPoint (λ (r : Edges). int_le r.south v ≡ true) (λ (r : Edges). int_le r.south v ≡ false) rects start →
      IsPartitionPoint (λ (r : Edges). int_le r.north v ≡ true) (λ (r : Edges). int_le r.north v ≡ false) rects end → IsRowPart v rects start end
  row_part-found start end fits fits' south north = record {
    order = by_order (cases_lt end start);
    fits = fits';
    before = λ k d low high. let t = south.0 k d low high in grind (arith, ints);
    within = λ k d low high.
        let t = north.0 k d (omega arith) high in
        let u = south.1 k d low (omega arith) in (grind (arith, ints), grind (arith, ints));
    after = λ k d low high. let t = north.1 k d low high in grind (arith, ints);
  }
    where
      crossed : (d : Edges) → end < start → ⊥
      crossed d lt =
          let rows = (full_at rects end d h (omega arith)).1 in
          let t = south.0 end d (omega arith) lt in
          let u = north.1 end d (omega arith) (omega arith) in
          grind (arith, ints)

      by_order : (end < start) ⊎ (start ≤ end) → start ≤ end
      by_order (inl lt) = absurd (crossed (record { west = pos 0; east = pos 0; north = pos 0; south = pos 0 }) lt)
      by_order (inr le) = le

-- the rectangle has both rows
record HasBoth (v y : ℤ) (r : Edges) : Type 0 where
  north : r.north ≤ℤ v
  south : v <ℤ r.south
  low : r.north ≤ℤ y
  high : y <ℤ r.south

-- where one rectangle of a row's part has another row too, all of them have it, and no others
module _ (v y : ℤ) (rects : List Edges) (start end k : ℕ) (h : AreInOrder rects) (part : IsRowPart v rects start end) (fits : k < length rects) where
  module _ (d : Edges) (has : HasBoth v y (get_or rects k d)) where
    in_part : (start ≤ k) × (k < end)
    in_part = (from (cases_lt k start), to (cases_lt k end))
      where
        from : (k < start) ⊎ (start ≤ k) → start ≤ k
        from (inl lt) = absurd (omega (arith, ints, has.south, part.before k d (omega arith) lt))
        from (inr le) = le

        to : (k < end) ⊎ (end ≤ k) → k < end
        to (inl lt) = lt
        to (inr le) = absurd (omega (arith, ints, has.north, part.after k d le fits))

    before : (j : ℕ) → j < start → (get_or rects j d).south ≤ℤ y
    before j lt = by_order (order_at rects j k d h (omega (arith, in_part.0)) fits)
      where
        north : (get_or rects j d).south ≤ℤ v
        north = part.before j d (omega arith) lt

        by_order : ComesBefore (get_or rects j d) (get_or rects k d) → (get_or rects j d).south ≤ℤ y
        by_order (inl e) = omega (arith, ints, has.low)
        by_order (inr e) = absurd (omega (arith, ints, e.1, north, has.south))

    within : (j : ℕ) → start ≤ j → j < end → ((get_or rects j d).north ≤ℤ y) × (y <ℤ (get_or rects j d).south)
    within j ge lt = by_order (cases_order j k)
      where
        row : ((get_or rects j d).north ≤ℤ v) × (v <ℤ (get_or rects j d).south)
        row = part.within j d ge lt

        west : ComesBefore (get_or rects j d) (get_or rects k d) → ((get_or rects j d).north ≤ℤ y) × (y <ℤ (get_or rects j d).south)
        west (inl e) = absurd (omega (arith, ints, row.1, has.north))
        west (inr e) = (omega (arith, ints, e.0, has.low), omega (arith, ints, e.1, has.high))

        east : ComesBefore (get_or rects k d) (get_or rects j d) → ((get_or rects j d).north ≤ℤ y) × (y <ℤ (get_or rects j d).south)
        east (inl e) = absurd (omega (arith, ints, row.0, has.south))
        east (inr e) = (omega (arith, ints, e.0, has.low), omega (arith, ints, e.1, has.high))

        by_order : (j ≡ k) ⊎ ((j < k) ⊎ (k < j)) → ((get_or rects j d).north ≤ℤ y) × (y <ℤ (get_or rects j d).south)
        by_order (inl same) = rw same (has.low, has.high)
        by_order (inr (inl less)) = west (order_at rects j k d h less fits)
        by_order (inr (inr more)) = east (order_at rects k j d h more (omega (arith, part.fits)))

    after : (j : ℕ) → end ≤ j → j < length rects → y <ℤ (get_or rects j d).north
    after j ge below = by_order (order_at rects k j d h (omega (arith, in_part.1)) below)
      where
        south : v <ℤ (get_or rects j d).north
        south = part.after j d ge below

        by_order : ComesBefore (get_or rects k d) (get_or rects j d) → y <ℤ (get_or rects j d).north
        by_order (inl e) = omega (arith, ints, has.high)
        by_order (inr e) = absurd (omega (arith, ints, e.0, south, has.north))

  pub part_alike : (d : Edges) →
      (get_or rects k d).north ≤ℤ v → v <ℤ (get_or rects k d).south →
      (get_or rects k d).north ≤ℤ y → y <ℤ (get_or rects k d).south →
      IsRowPart y rects start end
  part_alike d north south low high = record {
    order = part.order;
    fits = part.fits;
    before = λ j e from to. before e (has e) j to;
    within = λ j e from to. within e (has e) j from to;
    after = λ j e from to. after e (has e) j from to;
  }
    where
      has : (e : Edges) → HasBoth v y (get_or rects k e)
      has e = subst (HasBoth v y) (get_or_default rects k d e fits) (record { north = north; south = south; low = low; high = high })

-- a part without its first rectangle
part_after : (v : ℤ) (r : Edges) (rects : List Edges) (start end : ℕ) → IsRowPart v (r ∷ rects) (suc start) (suc end) → IsRowPart v rects start end
part_after v r rects start end h = record {
  order = omega (arith, h.order);
  fits = omega (arith, h.fits);
  before = λ k d low high. h.before (suc k) d (omega arith) (omega arith);
  within = λ k d low high. h.within (suc k) d (omega arith) (omega arith);
  after = λ k d low high. h.after (suc k) d (omega arith) (omega arith);
}

part_within : (v : ℤ) (r : Edges) (rects : List Edges) (end : ℕ) → IsRowPart v (r ∷ rects) zero (suc end) → IsRowPart v rects zero end
part_within v r rects end h = record {
  order = omega arith;
  fits = omega (arith, h.fits);
  before = λ k d low high. absurd (omega arith);
  within = λ k d low high. h.within (suc k) d (omega arith) (omega arith);
  after = λ k d low high. h.after (suc k) d (omega arith) (omega arith);
}

-- no rectangle south of the row holds a point of it
none_south : (rects : List Edges) (v : ℤ) → AllWithin (λ r. v <ℤ r.north) rects 0 (length rects) → (p : Point) → p.v ≡ v → holds rects p ≡ false
none_south [] v h p at = refl
none_south (r ∷ rects) v h p at =
    let south : v <ℤ r.north = h 0 r (omega arith) (omega arith) in
    let out : has_point r p ≡ false = grind (arith, ints) in
    rw out (none_south rects v (λ k d low high. h (suc k) d (omega arith) (omega arith)) p at)

-- a row's points are those in the columns of its part
pub part_points : (rects : List Edges) (v : ℤ) (start end : ℕ) → IsRowPart v rects start end → HoldsRow rects (take (end - start) (drop start rects)) v
part_points [] v zero zero h p at = refl
part_points [] v zero (suc end) h p at = absurd (omega (arith, h.fits))
part_points [] v (suc start) end h p at = absurd (omega (arith, h.fits, h.order))
part_points (r ∷ rects) v zero zero h p at = none_south (r ∷ rects) v h.after p at
part_points (r ∷ rects) v zero (suc end) h p at =
    let whole : suc end - zero ≡ suc end = omega arith in
    let rest : end - zero ≡ end = omega arith in
    let has : (r.north ≤ℤ v) × (v <ℤ r.south) = h.within 0 r (omega arith) (omega arith) in
    let here : has_point r p ≡ between r.west r.east p.h = grind (arith, ints) in
    rw (whole, here, part_points rects v zero end (part_within v r rects end h) p at, rest) refl
part_points (r ∷ rects) v (suc start) zero h p at = absurd (omega (arith, h.order))
part_points (r ∷ rects) v (suc start) (suc end) h p at =
    let count : suc end - suc start ≡ end - start = omega arith in
    let north : r.south ≤ℤ v = h.before 0 r (omega arith) (omega arith) in
    let out : has_point r p ≡ false = grind (arith, ints) in
    rw (count, out) (part_points rects v start end (part_after v r rects start end h) p at)

-- the rectangles of the row that follow one lie east of it
east_of : (r : Edges) (v : ℤ) (rects : List Edges) (end : ℕ) → v <ℤ r.south →
    AllWithin (λ e. (e.north ≤ℤ v) × (v <ℤ e.south)) rects 0 end → end ≤ length rects →
    AllByRecursion (ComesBefore r) rects →
    AllByRecursion (λ t. r.east <ℤ t.west) (spans_of (take end rects))
east_of r v rects zero south has fits h = tt
east_of r v [] (suc end) south has fits h = tt
east_of r v (e ∷ rects) (suc end) south has fits h =
    (first h.0, east_of r v rects end south (λ k d low high. has (suc k) d (omega arith) (omega arith)) (omega arith) h.1)
  where
    first : ComesBefore r e → r.east <ℤ e.west
    first (inl lt) = let north : e.north ≤ℤ v = (has 0 e (omega arith) (omega arith)).0 in absurd (omega (arith, ints))
    first (inr k) = k.2

AreApart-before : (s : Span) (spans : List Span) → s.west <ℤ s.east → AllByRecursion (λ t. s.east <ℤ t.west) spans → AreApart spans → AreApart (s ∷ spans)
AreApart-before s [] some h k = some
AreApart-before s (t ∷ spans) some h k = (some, h.0, k)

-- the rectangles of a row lie apart
pub part_apart : (rects : List Edges) (v : ℤ) (start end : ℕ) →
    AreInOrder rects → IsRowPart v rects start end → AreApart (spans_of (take (end - start) (drop start rects)))
part_apart [] v zero zero o h = tt
part_apart [] v zero (suc end) o h = absurd (omega (arith, h.fits))
part_apart [] v (suc start) end o h = absurd (omega (arith, h.fits, h.order))
part_apart (r ∷ rects) v zero zero o h = tt
part_apart (r ∷ rects) v zero (suc end) o h =
    let whole : suc end - zero ≡ suc end = omega arith in
    let rest : end - zero ≡ end = omega arith in
    let has : (r.north ≤ℤ v) × (v <ℤ r.south) = h.within 0 r (omega arith) (omega arith) in
    let tail = rw rest at (part_apart rects v zero end o.2 (part_within v r rects end h)) in
    rw whole (AreApart-before (span_of r) (spans_of (take end rects)) o.0.0
    (east_of r v rects end has.1 (λ k d low high. h.within (suc k) d (omega arith) (omega arith)) (omega (arith, h.fits)) o.1) tail)
part_apart (r ∷ rects) v (suc start) zero o h = absurd (omega (arith, h.order))
part_apart (r ∷ rects) v (suc start) (suc end) o h =
    let count : suc end - suc start ≡ end - start = omega arith in
    rw count (part_apart rects v start end o.2 (part_after v r rects start end h))

-- a row between two rectangles that follow one another, of which the second is the one at a place, is empty
module _ (rects : List Edges) (at : ℕ) (y : ℤ) (h : AreInOrder rects) (fits : at ≤ length rects) where
  none_here : IsRowPart y rects at at → (p : Point) → p.v ≡ y → holds rects p ≡ false
  none_here part p row =
      let nothing : at - at ≡ 0 = omega arith in
      rw nothing at (part_points rects y at at part p row)

  -- where the list is parted by south edges, and the row is north of the first that is left
  pub none_before : (v : ℤ) → IsPartitionPoint (λ (r : Edges). int_le r.south v ≡ true) (λ (r : Edges). int_le r.south v ≡ false) rects at → v ≤ℤ y →
      ((d : Edges) → at < length rects → y <ℤ (get_or rects at d).north) → (p : Point) → p.v ≡ y → holds rects p ≡ false
  none_before v parted from first = none_here (record {
    order = omega arith;
    fits = fits;
    before = λ k d low high. let t = parted.0 k d low high in grind (arith, ints);
    within = λ k d low high. absurd (omega arith);
    after = λ k d low high. omega (arith, ints, first d (omega arith), rises (λ r. r.north) norths rects at k d h low high);
  })

  -- where it is parted by north edges, and the row is south of the last that has begun
  pub none_after : (v : ℤ) → IsPartitionPoint (λ (r : Edges). int_lt r.north v ≡ true) (λ (r : Edges). int_lt r.north v ≡ false) rects at → y <ℤ v →
      ((d : Edges) → 0 < at → (get_or rects (at - 1) d).south ≤ℤ y) → (p : Point) → p.v ≡ y → holds rects p ≡ false
  none_after v parted to last = none_here (record {
    order = omega arith;
    fits = fits;
    before = λ k d low high. omega (arith, ints, last d (omega arith), rises (λ r. r.south) souths rects k (at - 1) d h (omega arith) (omega arith));
    within = λ k d low high. absurd (omega arith);
    after = λ k d low high. let t = parted.1 k d low high in grind (arith, ints);
  })

-- a row that one of the rectangles has isn't empty
pub row_some : (rects row : List Edges) (k : ℕ) (d : Edges) → AreInOrder rects → k < length rects → HoldsRow rects row (get_or rects k d).north → row ≡ [] → ⊥
row_some rects row k d h fits points none =
    true≢false (sym (held rects k fits (corner (get_or rects k d) (full_at rects k d h fits)))
    ∙ points p refl ∙ ap (λ (es : List Edges). in_spans (spans_of es) p.h) none)
  where
    p : Point
    p = record { h = (get_or rects k d).west; v = (get_or rects k d).north }

    corner : (r : Edges) → HoldsPoints r → (let q : Point = record { h = r.west; v = r.north } in has_point r q ≡ true)
    corner r full = let across = full.0 in let down = full.1 in grind (arith, ints)

    held : (es : List Edges) (j : ℕ) → j < length es → has_point (get_or es j d) p ≡ true → holds es p ≡ true
    held [] j below has = absurd (omega arith)
    held (e ∷ es) zero below has = rw has refl
    held (e ∷ es) (suc j) below has = or_right (has_point e p) (holds es p) (held es j (omega arith) has)
