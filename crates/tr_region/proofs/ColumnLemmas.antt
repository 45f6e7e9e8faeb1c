-- The columns of rectangles that lie side by side.
use Rattle.std.proofs.Common.{◌≡◌, ℕ, zero, suc, ◌+◌, ◌<◌, ◌≤◌, ◌⊎◌, inl, inr, ℤ, ◌≤ℤ◌, ◌<ℤ◌, Bool, true, false, ◌||◌, List, [], ◌∷◌, ◌++◌, take, drop, get_or, length, refl, ap, ◌∙◌, arith}
use Rattle.std.proofs.lemmas.Int.{ints}
use Rattle.std.specs.Prelude.{int_le, int_lt, All}
use Rattle.std.specs.List.Sorted.{IsPartitionedBy, IsPartitionPoint}
use Rattle.std.proofs.lemmas.List.{get_or-take, get_or-drop, length-drop, length-take-le}
use Rattle.std.proofs.lemmas.Bool.{or_right, cases_order}
use Rattle.tr_base.specs.Rects.{Edges, between}
use Rattle.tr_region.specs.Bands.{AreApart, in_spans, span_of, spans_of}
use Rattle.tr_base.proofs.RectFacts.{between-before, between-beyond}
use Rattle.tr_region.proofs.BandLemmas.{AreApart-parts}

-- they hold columns
pub some_at : (rects : List Edges) (k : ℕ) (d : Edges) → AreApart (spans_of rects) → k < length rects → (get_or rects k d).west <ℤ (get_or rects k d).east
some_at [] k d h lt = absurd (omega arith)
some_at (r ∷ rects) zero d h lt = (AreApart-parts (span_of r) (spans_of rects) h).0
some_at (r ∷ rects) (suc k) d h lt = some_at rects k d (AreApart-parts (span_of r) (spans_of rects) h).1 (omega arith)

-- a column of one of them is a column of all
pub in_one : (rects : List Edges) (k : ℕ) (d : Edges) (x : ℤ) →
    k < length rects → between (get_or rects k d).west (get_or rects k d).east x ≡ true →
    in_spans (spans_of rects) x ≡ true
in_one [] k d x lt h = absurd (omega arith)
in_one (r ∷ rects) zero d x lt h = rw h refl
in_one (r ∷ rects) (suc k) d x lt h = or_right (between r.west r.east x) (in_spans (spans_of rects) x) (in_one rects k d x (omega arith) h)

-- the first ends west of all that follow
west_of : (r : Edges) (rects : List Edges) (k : ℕ) (d : Edges) → AreApart (spans_of (r ∷ rects)) → k < length rects → r.east <ℤ (get_or rects k d).west
west_of r [] k d h lt = absurd (omega arith)
west_of r (e ∷ rects) zero d h lt = h.1
west_of r (e ∷ rects) (suc k) d h lt =
    let some : e.west <ℤ e.east = (AreApart-parts (span_of e) (spans_of rects) h.2).0 in
    omega (arith, ints, h.1, west_of e rects k d h.2 (omega arith))

-- from the west edge of one on, a column is in none of those before it
pub none_west : (rects : List Edges) (k : ℕ) (d : Edges) (x : ℤ) →
    AreApart (spans_of rects) → k < length rects → (get_or rects k d).west ≤ℤ x →
    in_spans (spans_of (take k rects)) x ≡ false
none_west rects zero d x h lt from = refl
none_west [] (suc k) d x h lt from = absurd (omega arith)
none_west (r ∷ rects) (suc k) d x h lt from =
    let past : between r.west r.east x ≡ false = between-beyond r.west r.east x (omega (arith, ints, west_of r rects k d h (omega arith))) in
    rw past (none_west rects k d x (AreApart-parts (span_of r) (spans_of rects) h).1 (omega arith) from)

-- before the east edge of one, a column is in none of those after it
pub none_east : (rects : List Edges) (k : ℕ) (d : Edges) (x : ℤ) →
    AreApart (spans_of rects) → k < length rects → x <ℤ (get_or rects k d).east →
    in_spans (spans_of (drop (suc k) rects)) x ≡ false
none_east [] k d x h lt to = absurd (omega arith)
none_east (r ∷ rects) (suc k) d x h lt to = none_east rects k d x (AreApart-parts (span_of r) (spans_of rects) h).1 (omega arith) to
none_east (r ∷ rects) zero d x h lt to = after r rects h to
  where
    after : (e : Edges) (es : List Edges) → AreApart (spans_of (e ∷ es)) → x <ℤ e.east → in_spans (spans_of es) x ≡ false
    after e [] apart west = refl
    after e (f ∷ es) apart west =
        let some : f.west <ℤ f.east = (AreApart-parts (span_of f) (spans_of es) apart.2).0 in
        let gap : e.east <ℤ f.west = apart.1 in
        let before : between f.west f.east x ≡ false = between-before f.west f.east x (omega (arith, ints)) in
        rw before (after f es apart.2 (omega (arith, ints)))

-- one more
pub in_spans-push : (rects : List Edges) (r : Edges) (x : ℤ) → in_spans (spans_of (rects ++ r ∷ [])) x ≡ between r.west r.east x || in_spans (spans_of rects) x
in_spans-push [] r x = refl
in_spans-push (e ∷ rects) r x = rw (in_spans-push rects r x) (swapped (between e.west e.east x) (between r.west r.east x) (in_spans (spans_of rects) x))
  where
    swapped : (a b c : Bool) → a || (b || c) ≡ b || (a || c)
    swapped true true c = refl
    swapped true false c = refl
    swapped false b c = refl

-- one ends west of each that follows it
apart_at : (rects : List Edges) (i j : ℕ) (d : Edges) → AreApart (spans_of rects) → i < j → j < length rects →
    (get_or rects i d).east <ℤ (get_or rects j d).west
apart_at [] i j d h lt fits = absurd (omega arith)
apart_at (r ∷ rects) i zero d h lt fits = absurd (omega arith)
apart_at (r ∷ rects) zero (suc j) d h lt fits = west_of r rects j d h (omega arith)
apart_at (r ∷ rects) (suc i) (suc j) d h lt fits = apart_at rects i j d (AreApart-parts (span_of r) (spans_of rects) h).1 (omega arith) (omega arith)

-- so both edges never fall along the list, and a search by one of them parts it
module _ (rects : List Edges) (h : AreApart (spans_of rects)) where
  edges_rise : (i j : ℕ) (d : Edges) → i ≤ j → j < length rects →
      ((get_or rects i d).west ≤ℤ (get_or rects j d).west) × ((get_or rects i d).east ≤ℤ (get_or rects j d).east)
  edges_rise i j d le fits = by_order (cases_order i j)
    where
      by_order : (i ≡ j) ⊎ ((i < j) ⊎ (j < i)) → ((get_or rects i d).west ≤ℤ (get_or rects j d).west) × ((get_or rects i d).east ≤ℤ (get_or rects j d).east)
      by_order (inl same) = rw same (omega (arith, ints), omega (arith, ints))
      by_order (inr (inl lt)) =
          let gap = apart_at rects i j d h lt fits in
          let first = some_at rects i d h (omega arith) in
          let second = some_at rects j d h fits in
          (omega (arith, ints), omega (arith, ints))
      by_order (inr (inr gt)) = absurd (omega arith)

  pub parted_by_east : (x : ℤ) → IsPartitionedBy (λ (r : Edges). int_le r.east x) rects
  parted_by_east x = λ i j d le fits t.
      let up = (edges_rise i j d le fits).1 in
      grind (arith, ints)

  pub parted_by_west : (x : ℤ) → IsPartitionedBy (λ (r : Edges). int_lt r.west x) rects
  parted_by_west x = λ i j d le fits t.
      let up = (edges_rise i j d le fits).0 in
      grind (arith, ints)

-- the columns of those that are left after the first n, which end west of the column
pub columns-drop : (rects : List Edges) (n : ℕ) (x : ℤ) → n ≤ length rects →
    ((k : ℕ) (d : Edges) → k < n → (get_or rects k d).east ≤ℤ x) →
    in_spans (spans_of (drop n rects)) x ≡ in_spans (spans_of rects) x
columns-drop rects zero x fits past = refl
columns-drop [] (suc n) x fits past = absurd (omega arith)
columns-drop (r ∷ rects) (suc n) x fits past =
    let out : between r.west r.east x ≡ false = between-beyond r.west r.east x (past 0 r (omega arith)) in
    rw out (columns-drop rects n x (omega arith) (λ k d lt. past (suc k) d (omega arith)))

-- the columns of the first n, where the others begin east of the column
pub columns-take : (rects : List Edges) (n : ℕ) (x : ℤ) →
    ((k : ℕ) (d : Edges) → n ≤ k → k < length rects → x <ℤ (get_or rects k d).west) →
    in_spans (spans_of (take n rects)) x ≡ in_spans (spans_of rects) x
columns-take [] zero x later = refl
columns-take [] (suc n) x later = refl
columns-take (r ∷ rects) (suc n) x later =
    ap (λ b. between r.west r.east x || b)
    (columns-take rects n x (λ k d ge lt. later (suc k) d (omega arith) (omega arith)))
columns-take (r ∷ rects) zero x later =
    let out : between r.west r.east x ≡ false = between-before r.west r.east x (later 0 r (omega arith) (omega arith)) in
    rw out (columns-take rects zero x (λ k d ge lt. later (suc k) d (omega arith) (omega arith)))

pub apart-drop : (rects : List Edges) (n : ℕ) → AreApart (spans_of rects) → AreApart (spans_of (drop n rects))
apart-drop rects zero h = h
apart-drop [] (suc n) h = h
apart-drop (r ∷ rects) (suc n) h = apart-drop rects n (AreApart-parts (span_of r) (spans_of rects) h).1

pub apart-take : (rects : List Edges) (n : ℕ) → AreApart (spans_of rects) → AreApart (spans_of (take n rects))
apart-take rects zero h = tt
apart-take [] (suc n) h = h
apart-take (r ∷ []) (suc zero) h = h
apart-take (r ∷ []) (suc (suc n)) h = h
apart-take (r ∷ e ∷ rects) (suc zero) h = h.0
apart-take (r ∷ e ∷ rects) (suc (suc n)) h = (h.0, h.1, apart-take (e ∷ rects) (suc n) h.2)

-- those from the first on that ends east of a column, and of these those that begin west of another
module _ (rects : List Edges) (west east : ℤ) (start n : ℕ)
    (h : AreApart (spans_of rects)) (fits : start ≤ length rects) (fits' : n ≤ length (drop start rects))
    (ended : IsPartitionPoint (λ (r : Edges). int_le r.east west ≡ true) (λ (r : Edges). int_le r.east west ≡ false) rects start)
    (begun : IsPartitionPoint (λ (r : Edges). int_lt r.west east ≡ true) (λ (r : Edges). int_lt r.west east ≡ false) (drop start rects) n) where
  pub between-columns : (x : ℤ) → west ≤ℤ x → x <ℤ east → in_spans (spans_of (take n (drop start rects))) x ≡ in_spans (spans_of rects) x
  between-columns x from to =
      columns-take (drop start rects) n x (λ k d ge lt. (let t = begun.1 k d ge lt in grind (arith, ints)))
      ∙ columns-drop rects start x fits (λ k d lt. (let t = ended.0 k d (omega arith) lt in grind (arith, ints)))

  pub between-apart : AreApart (spans_of (take n (drop start rects)))
  between-apart = apart-take (drop start rects) n (apart-drop rects start h)

  pub between-meet : All (λ (r : Edges). (west <ℤ r.east) × (r.west <ℤ east)) (take n (drop start rects))
  between-meet k d lt =
      let below : k < n = omega (arith, length-take-le n (drop start rects) fits') in
      let at : get_or (take n (drop start rects)) k d ≡ get_or (drop start rects) k d = get_or-take n (drop start rects) k d below in
      let whole : get_or (drop start rects) k d ≡ get_or rects (start + k) d = get_or-drop start rects k d in
      let from = ended.1 (start + k) d (omega arith) (omega (arith, length-drop start rects)) in
      let to = begun.0 k d (omega arith) below in
      rw at ((rw whole (grind (arith, ints, from))), grind (arith, ints, to))
