-- The rows of a band that are cut to others, and the points of these.
use Rattle.std.proofs.Common.{◌≡◌, ℕ, ◌-◌, ◌<◌, ◌≤◌, ℤ, pos, ◌≤ℤ◌, ◌<ℤ◌, Bool, true, false, ◌&&◌, ◌↔◌, ◌⊎◌, inl, inr, List, refl, arith}
use Rattle.std.specs.Prelude.{int_le}
use Rattle.std.proofs.lemmas.Bool.{cases_lt}
use Rattle.std.proofs.lemmas.Int.{ints}
use Rattle.tr_base.specs.declared.Point.{Point}
use Rattle.tr_base.specs.Rects.{Edges, between}
use Rattle.tr_region.specs.declared.rows.Band.{Band}
use Rattle.tr_region.specs.Points.{holds}
use Rattle.tr_region.specs.Bands.{in_spans, spans_of}
use Rattle.tr_region.specs.Rows.{IsNearest, in_band}
use Rattle.tr_region.specs.RowParts.{IsBandOf}

pub int_cases : (x y : ℤ) → (x ≤ℤ y) ⊎ (y <ℤ x)
int_cases x y = by_test (int_le x y) refl
  where
    by_test : (t : Bool) → int_le x y ≡ t → (x ≤ℤ y) ⊎ (y <ℤ x)
    by_test true e = inl (grind (arith, ints))
    by_test false e = inr (grind (arith, ints))

-- a point lies in the rows of a rectangle, cut to others, where it lies in both
pub cut_rows : (y a b : ℤ) (n s : ℕ) → (a ≤ℤ y ↔ pos n ≤ℤ y) → (b ≤ℤ y ↔ pos s ≤ℤ y) → between (pos n) (pos s) y ≡ between a b y
cut_rows y a b n s ha hb = by_order (int_cases a y) (int_cases b y) (int_cases (pos n) y) (int_cases (pos s) y)
  where
    by_order : (a ≤ℤ y) ⊎ (y <ℤ a) → (b ≤ℤ y) ⊎ (y <ℤ b) → (pos n ≤ℤ y) ⊎ (y <ℤ pos n) → (pos s ≤ℤ y) ⊎ (y <ℤ pos s) → between (pos n) (pos s) y ≡ between a b y
    by_order (inl x) (inl z) u w = let u' = ha.0 x in let w' = hb.0 z in grind (arith, ints)
    by_order (inl x) (inr z) u (inl w) = absurd (omega (arith, ints, hb.1 w))
    by_order (inl x) (inr z) u (inr w) = let u' = ha.0 x in grind (arith, ints)
    by_order (inr x) z (inl u) w = absurd (omega (arith, ints, ha.1 u))
    by_order (inr x) z (inr u) w = grind (arith, ints)

-- the rows of a rectangle, cut to those from low on and before high
module _ (a b : ℤ) (low high n s : ℕ) (full : a <ℤ b) (north : IsNearest a low high n) (south : IsNearest b low high s) where
  pub cut_order : n ≤ s
  cut_order = by_order (cases_lt s n)
    where
      by_order : (s < n) ⊎ (n ≤ s) → n ≤ s
      by_order (inr le) = le
      by_order (inl lt) =
          let low_s : pos low ≤ℤ pos s = omega (arith, ints, south.from) in
          let s_high : pos s <ℤ pos high = omega (arith, ints, north.to) in
          let past : b ≤ℤ pos s = (south.same (pos s) low_s s_high).1 (omega (arith, ints)) in
          let begun : pos n ≤ℤ pos s = (north.same (pos s) low_s s_high).0 (omega (arith, ints)) in
          absurd (omega (arith, ints))

  pub cut_south : pos low <ℤ b → low < high → low < s
  cut_south has some = by_order (cases_lt low s)
    where
      by_order : (low < s) ⊎ (s ≤ low) → low < s
      by_order (inl lt) = lt
      by_order (inr le) =
          let past : b ≤ℤ pos low = (south.same (pos low) (omega (arith, ints)) (omega (arith, ints))).1 (omega (arith, ints)) in
          absurd (omega (arith, ints))

  pub cut_north : a <ℤ pos high → low < high → n < high
  cut_north has some = by_order (cases_lt n high)
    where
      by_order : (n < high) ⊎ (high ≤ n) → n < high
      by_order (inl lt) = lt
      by_order (inr le) =
          let begun : pos n ≤ℤ pos (high - 1) = (north.same (pos (high - 1)) (omega (arith, ints)) (omega (arith, ints))).0 (omega (arith, ints)) in
          absurd (omega (arith, ints))

-- the points of the band of a rectangle, where the region holds none of the rows outside it
pub band_points : (region : List Edges) (r : Edges) (low high : ℕ) (b : Band) → IsBandOf r region low high b → (p : Point) → pos low ≤ℤ p.v → p.v <ℤ pos high →
    (between r.north r.south p.v ≡ false → holds region p ≡ false) → holds region p ≡ in_band b.north b.south b.rects.now p
band_points region r low high b band p from to outside =
    rw (cut_rows p.v r.north r.south b.north b.south (band.north.same p.v from to) (band.south.same p.v from to)) (by_test (between r.north r.south p.v) refl)
  where
    by_test : (t : Bool) → between r.north r.south p.v ≡ t → holds region p ≡ t && in_spans (spans_of b.rects.now) p.h
    by_test true t = band.rows p.v (grind (arith, ints)) (grind (arith, ints)) p refl
    by_test false t = outside t

-- where such a row lies, if it is north of the band's end, or south of its begin
module _ (region : List Edges) (r : Edges) (low high : ℕ) (b : Band)
    (band : IsBandOf r region low high b)
    (y : ℤ) (from : pos low ≤ℤ y) (to : y <ℤ pos high) (outside : between r.north r.south y ≡ false) where
  pub north_of_band : y <ℤ pos b.south → y <ℤ r.north
  north_of_band before = by_order (int_cases r.north y) (int_cases r.south y)
    where
      by_order : (r.north ≤ℤ y) ⊎ (y <ℤ r.north) → (r.south ≤ℤ y) ⊎ (y <ℤ r.south) → y <ℤ r.north
      by_order (inr lt) south = lt
      by_order (inl le) (inl past) = absurd (omega (arith, ints, (band.south.same y from to).0 past))
      by_order (inl le) (inr lt) = absurd (grind (arith, ints))

  pub south_of_band : pos b.north ≤ℤ y → r.south ≤ℤ y
  south_of_band begun = by_order (int_cases r.north y) (int_cases r.south y)
    where
      by_order : (r.north ≤ℤ y) ⊎ (y <ℤ r.north) → (r.south ≤ℤ y) ⊎ (y <ℤ r.south) → r.south ≤ℤ y
      by_order north (inl past) = past
      by_order (inr lt) (inr south) = absurd (omega (arith, ints, (band.north.same y from to).1 begun))
      by_order (inl le) (inr lt) = absurd (grind (arith, ints))
