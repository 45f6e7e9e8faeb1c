-- Runs and rows of pixels: where they lie among all pixels, and what becomes of the points when they are written.
use Rattle.std.proofs.Common.{◌≡◌, ℕ, ◌+◌, ◌*◌, ◌-◌, ◌<◌, ◌≤◌, ◌⊎◌, inl, inr, List, ◌++◌, take, drop, length, get_or, rules, refl, sym, ap, ◌∙◌, arith, w32, SFits, to_z, of_z}
use Rattle.std.specs.Prelude.{ℤ, pos, negsuc, ◌+ℤ◌, ◌-ℤ◌, ◌≤ℤ◌, ◌<ℤ◌, Bool, true, false, cond, unsigned_abs}
use Rattle.std.specs.Ordering.{int_eq}
use Rattle.std.proofs.Math.Nat.{mul-le-mul_right, add-mul}
use Rattle.std.proofs.lemmas.Int.{ints}
use Rattle.std.proofs.lemmas.List.{places, take_all, length-append, length-drop, length-take-le, get_or-take, get_or-drop}
use Rattle.std.proofs.lemmas.Bool.{and_parts, cases_order, cases_lt, true≢false}
use Rattle.std.proofs.lemmas.Bool.Decides.{Decides-int_eq}
use Rattle.tr_base.specs.declared.ops.Kind.{Kind}
use Rattle.tr_base.specs.declared.points.Point.{Point}
use Rattle.tr_base.specs.declared.sizes.Size.{Size}
use Rattle.tr_base.specs.Rects.{between, before_shift}
use Rattle.tr_base.proofs.RectLemmas.{has_point-rect_of}
use Rattle.tr_base.proofs.PlaceLemmas.{row_fits, in_whole}
use Rattle.tr_screen.specs.declared.runs.Run.{Run}
use Rattle.tr_screen.specs.Pictures.{pixel_of, picture_of, written_at}
use Rattle.tr_screen.specs.Runs.{in_run, in_rows, run_before, pixel_index, start_of, width_of, column_in, point_in, IsRun, IsOn, Repaints}
use Rattle.tr_screen.specs.RunLending.{run_overwritten}
use Rattle.tr_screen.specs.Copies.{IsCopied, IsFilled}
use Rattle.tr_screen.proofs.PictureLemmas.{pixel_of-picture_of, concat-first_chunks, written_at-is}

-- a coordinate from 0 on is a number
pub abs_is : (x : ℤ) → pos 0 ≤ℤ x → x ≡ pos (unsigned_abs x)
abs_is (pos a) h = refl
abs_is (negsuc a) h = absurd (omega (arith, ints))

-- a point of the screen has its coordinates there
pub record IsThere (size : Size) (p : Point) : Type 0 where
  pub west : pos 0 ≤ℤ p.h
  pub east : p.h <ℤ pos size.wide
  pub north : pos 0 ≤ℤ p.v
  pub south : p.v <ℤ pos size.high

pub there : (size : Size) (p : Point) → IsOn size p → IsThere size p
there size p on =
    let both =
    and_parts (between (pos 0) (pos size.wide) p.h) (between (pos 0) (pos size.high) p.v)
    (rw (has_point-rect_of (pos 0) (pos size.wide) (pos 0) (pos size.high) p) at on) in
    record { west = grind (arith, ints, both.0); east = grind (arith, ints, both.0); north = grind (arith, ints, both.1); south = grind (arith, ints, both.1) }

pub on_there : (size : Size) (p : Point) → IsThere size p → IsOn size p
on_there size p h =
    let west = h.west in
    let east = h.east in
    let north = h.north in
    let south = h.south in
    rw (has_point-rect_of (pos 0) (pos size.wide) (pos 0) (pos size.high) p) (grind (arith, ints))

pub tests_of_run : (r : Run) (p : Point) → in_run r p ≡ true → (p.v ≡ r.v) × (r.west ≤ℤ p.h) × (p.h <ℤ r.east)
tests_of_run r p h =
    let both = and_parts (int_eq p.v r.v) (between r.west r.east p.h) h in
    let row : p.v ≡ r.v = (Decides-int_eq p.v r.v).0 both.0 in
    (row, grind (arith, ints, both.1), grind (arith, ints, both.1))

pub test_of_run : (r : Run) (p : Point) → p.v ≡ r.v → r.west ≤ℤ p.h → p.h <ℤ r.east → in_run r p ≡ true
test_of_run r p row west east = rw ((Decides-int_eq p.v r.v).1 row) (grind (arith, ints))

-- a point of a run is on the screen
pub on_run : (size : Size) (r : Run) (p : Point) → IsRun size r → in_run r p ≡ true → IsOn size p
on_run size r p h in_it =
    let at = tests_of_run r p in_it in
    on_there size p (record {
      west = omega (arith, ints, h.west, at.1);
      east = omega (arith, ints, h.east, at.2);
      north = omega (arith, ints, h.north, at.0);
      south = omega (arith, ints, h.south, at.0);
    })

-- the same run of points, moved
in_run-before : (r : Run) (d p : Point) → in_run r p ≡ true → in_run (run_before r d) (before_shift p d) ≡ true
in_run-before r d p h =
    let at = tests_of_run r p h in
    test_of_run (run_before r d) (before_shift p d) (ap (λ z. z -ℤ d.v) at.0) (omega (arith, ints, at.1)) (omega (arith, ints, at.2))

-- a run's coordinates as numbers
record IsNatural (size : Size) (r : Run) : Type 0 where
  row : unsigned_abs r.v < size.high
  across : unsigned_abs r.west + width_of r ≤ size.wide
  east : unsigned_abs r.east ≡ unsigned_abs r.west + width_of r

natural : (size : Size) (r : Run) → IsRun size r → IsNatural size r
natural size r h =
    let v = abs_is r.v h.north in
    let west = abs_is r.west h.west in
    let east = abs_is r.east (omega (arith, ints, h.west, h.some)) in
    let wide = abs_is (r.east -ℤ r.west) (omega (arith, ints, h.some)) in
    record {
      row = omega (arith, ints, h.south);
      across = omega (arith, ints, h.east);
      east = omega (arith, ints);
    }

pub run_fits : (size : Size) (r : Run) → IsRun size r → start_of size r + width_of r ≤ size.high * size.wide
run_fits size r h =
    let n = natural size r h in
    omega (arith, row_fits size.wide size.high (unsigned_abs r.v) n.row)

-- no run is longer than a row
pub run_wide : (size : Size) (r : Run) → IsRun size r → width_of r ≤ size.wide
run_wide size r h = omega (arith, (natural size r h).across)

pub run_is : (r : Run) (v w e : ℤ) → v ≡ r.v → w ≡ r.west → e ≡ r.east → (let s : Run = record { v = v; west = w; east = e } in s ≡ r)
run_is r v w e hv hw he = rw (hv, hw, he) refl

pub cast_difference : (a b : ℤ) → SFits w32 a → SFits w32 b →
    pos 0 ≤ℤ (a -ℤ b) → (a -ℤ b) ≤ℤ pos 1024 →
    to_z w32 (of_z w32 (to_z w32 (of_z w32 a) -ℤ to_z w32 (of_z w32 b))) ≡ a -ℤ b
cast_difference a b ha hb low high = omega (arith, ints)

-- the place of a point is among those of a run just where the run holds it
same_row : (n row column v west wide : ℕ) →
    column < n → west + wide ≤ n → v * n + west ≤ row * n + column → row * n + column < v * n + west + wide →
    (row ≡ v) × (west ≤ column) × (column < west + wide)
same_row n row column v west wide hc hw low high =
    let same : row ≡ v = by_order (cases_order row v) in
    let start : row * n ≡ v * n = ap (λ m. m * n) same in
    (same, omega arith, omega arith)
  where
    by_order : (row ≡ v) ⊎ ((row < v) ⊎ (v < row)) → row ≡ v
    by_order (inl e) = e
    by_order (inr (inl lt)) = absurd (omega (arith, row_fits n v row lt))
    by_order (inr (inr gt)) = absurd (omega (arith, row_fits n row v gt))

-- the place of a run's point is its column further than the run's start
pub place_in : (size : Size) (r : Run) (p : Point) →
    IsRun size r → in_run r p ≡ true →
    (unsigned_abs r.west ≤ unsigned_abs p.h) × (unsigned_abs p.h < unsigned_abs r.west + width_of r)
    × (pixel_index size p + unsigned_abs r.west ≡ start_of size r + unsigned_abs p.h)
place_in size r p h in_it =
    let at = tests_of_run r p in_it in
    let n = natural size r h in
    let west = abs_is r.west h.west in
    let east = abs_is r.east (omega (arith, ints, h.west, h.some)) in
    let column = abs_is p.h (omega (arith, ints, h.west, at.1)) in
    let row : unsigned_abs p.v * size.wide ≡ unsigned_abs r.v * size.wide = ap (λ (z : ℤ). unsigned_abs z * size.wide) at.0 in
    (omega (arith, ints, at.1), omega (arith, ints, at.2, n.east), omega arith)

-- a point that the run doesn't hold has its place before the run's or after it
place_outside : (size : Size) (r : Run) (p : Point) → IsRun size r → IsOn size p → in_run r p ≡ false →
    (pixel_index size p < start_of size r) ⊎ (start_of size r + width_of r ≤ pixel_index size p)
place_outside size r p h on out = by_order (cases_lt (pixel_index size p) (start_of size r)) (cases_lt (pixel_index size p) (start_of size r + width_of r))
  where
    by_order :
        (pixel_index size p < start_of size r) ⊎ (start_of size r ≤ pixel_index size p) →
        (pixel_index size p < start_of size r + width_of r) ⊎ (start_of size r + width_of r ≤ pixel_index size p) →
        (pixel_index size p < start_of size r) ⊎ (start_of size r + width_of r ≤ pixel_index size p)
    by_order (inl lt) k = inl lt
    by_order (inr ge) (inr k) = inr k
    by_order (inr ge) (inl lt) =
        let n = natural size r h in
        let at = there size p on in
        let v = abs_is p.v at.north in
        let column = abs_is p.h at.west in
        let row = abs_is r.v h.north in
        let west = abs_is r.west h.west in
        let east = abs_is r.east (omega (arith, ints, h.west, h.some)) in
        let same =
        same_row size.wide (unsigned_abs p.v) (unsigned_abs p.h) (unsigned_abs r.v) (unsigned_abs r.west) (width_of r)
        (in_whole size p on).1 n.across ge lt in
        absurd (true≢false (sym (test_of_run r p (omega (arith, ints, same.0)) (omega (arith, ints, same.1)) (omega (arith, ints, same.2, n.east))) ∙ out))

-- the points of a test have their places from start on, count of them, and all others elsewhere
pub record HasPlaces (size : Size) (test : Point → Bool) (start count : ℕ) : Type 0 where
  pub inside : (p : Point) → IsOn size p → test p ≡ true → (start ≤ pixel_index size p) × (pixel_index size p < start + count)
  pub outside : (p : Point) → IsOn size p → test p ≡ false → (pixel_index size p < start) ⊎ (start + count ≤ pixel_index size p)

pub run_places : (size : Size) (r : Run) → IsRun size r → HasPlaces size (in_run r) (start_of size r) (width_of r)
run_places size r h = record {
  inside = λ p on t. (let at = place_in size r p h t in (omega (arith, at.0, at.2), omega (arith, at.1, at.2)));
  outside = λ p on t. place_outside size r p h on t;
}

-- some rows have room where there are as many
pub rows_fit : (n row count high : ℕ) → row + count ≤ high → row * n + count * n ≤ high * n
rows_fit n row count high fits = omega (arith, mul-le-mul_right n fits, add-mul row count n)

-- rows lie one after another
pub rows_places : (size : Size) (north south : ℕ) → north ≤ south → HasPlaces size (in_rows north south) (north * size.wide) ((south - north) * size.wide)
rows_places size north south order = record { inside = within; outside = beyond }
  where
    whole : north * size.wide + (south - north) * size.wide ≡ south * size.wide
    whole = sym (add-mul north (south - north) size.wide) ∙ ap (λ n. n * size.wide) (omega arith)

    within : (p : Point) → IsOn size p → in_rows north south p ≡ true →
        (north * size.wide ≤ pixel_index size p) × (pixel_index size p < north * size.wide + (south - north) * size.wide)
    within p on t =
        let at = there size p on in
        let v = abs_is p.v at.north in
        let column = (in_whole size p on).1 in
        let low : north ≤ unsigned_abs p.v = grind (arith, ints) in
        let high : unsigned_abs p.v < south = grind (arith, ints) in
        (omega (arith, mul-le-mul_right size.wide low), omega (arith, row_fits size.wide south (unsigned_abs p.v) high, whole))

    beyond : (p : Point) → IsOn size p → in_rows north south p ≡ false →
        (pixel_index size p < north * size.wide) ⊎ (north * size.wide + (south - north) * size.wide ≤ pixel_index size p)
    beyond p on t = by_order (cases_lt (unsigned_abs p.v) north) (cases_lt (unsigned_abs p.v) south)
      where
        by_order :
            (unsigned_abs p.v < north) ⊎ (north ≤ unsigned_abs p.v) → (unsigned_abs p.v < south) ⊎ (south ≤ unsigned_abs p.v) →
            (pixel_index size p < north * size.wide) ⊎ (north * size.wide + (south - north) * size.wide ≤ pixel_index size p)
        by_order (inl lt) k = let column = (in_whole size p on).1 in inl (omega (arith, row_fits size.wide north (unsigned_abs p.v) lt))
        by_order (inr ge) (inr past) = inr (omega (arith, mul-le-mul_right size.wide past, whole))
        by_order (inr ge) (inl lt) =
            let v = abs_is p.v (there size p on).north in
            absurd (grind (arith, ints))

module _ (size : Size) (kind : Kind) (old new : List ℕ) (test : Point → Bool) (start count : ℕ) (places : HasPlaces size test start count) where
  -- pixels side by side were written, and no others
  pub painted_places : (f : Point → ℕ) →
      ((k : ℕ) → k < start → get_or new k 0 ≡ get_or old k 0) →
      ((k : ℕ) → start + count ≤ k → get_or new k 0 ≡ get_or old k 0) →
      ((p : Point) → IsOn size p → test p ≡ true → get_or new (pixel_index size p) 0 ≡ f p) →
      Repaints test f (picture_of size kind old) (picture_of size kind new)
  painted_places f before behind gets =
      record { size = refl; kind = refl; points = λ p on. pixel_of-picture_of size kind new p on ∙ by_test p on (test p) refl }
    where
      elsewhere : (p : Point) → (pixel_index size p < start) ⊎ (start + count ≤ pixel_index size p) →
          get_or new (pixel_index size p) 0 ≡ get_or old (pixel_index size p) 0
      elsewhere p (inl lt) = before (pixel_index size p) lt
      elsewhere p (inr ge) = behind (pixel_index size p) ge

      by_test : (p : Point) → IsOn size p → (t : Bool) → test p ≡ t → get_or new (pixel_index size p) 0 ≡ cond t (f p) (pixel_of (picture_of size kind old) p)
      by_test p on true t = gets p on t
      by_test p on false t = elsewhere p (places.outside p on t) ∙ sym (pixel_of-picture_of size kind old p on)

  -- pixels side by side were moved
  pub moved_places : (d : Point) (from : ℕ) → IsCopied old new from start count →
      ((p : Point) → IsOn size p → test p ≡ true → IsOn size (before_shift p d) × (pixel_index size (before_shift p d) + start ≡ from + pixel_index size p)) →
      Repaints test (λ p. pixel_of (picture_of size kind old) (before_shift p d)) (picture_of size kind old) (picture_of size kind new)
  moved_places d from h source = painted_places (λ p. pixel_of (picture_of size kind old) (before_shift p d)) h.before h.behind gets
    where
      gets : (p : Point) → IsOn size p → test p ≡ true → get_or new (pixel_index size p) 0 ≡ pixel_of (picture_of size kind old) (before_shift p d)
      gets p on t =
          let at = places.inside p on t in
          let there = source p on t in
          let k : ℕ = pixel_index size p - start in
          let target : pixel_index size p ≡ start + k = omega (arith, at.0) in
          let same : from + k ≡ pixel_index size (before_shift p d) = omega (arith, at.0, there.1) in
          ap (λ n. get_or new n 0) target ∙ h.copied k (omega (arith, at.0, at.1))
          ∙ ap (λ n. get_or old n 0) same ∙ sym (pixel_of-picture_of size kind old (before_shift p d) there.0)

-- a run was moved
pub moved_run : (size : Size) (kind : Kind) (old new : List ℕ) (r : Run) (d : Point) →
    IsRun size r → IsRun size (run_before r d) →
    IsCopied old new (start_of size (run_before r d)) (start_of size r) (width_of r) →
    Repaints (in_run r) (λ p. pixel_of (picture_of size kind old) (before_shift p d)) (picture_of size kind old) (picture_of size kind new)
moved_run size kind old new r d h k copied =
    moved_places size kind old new (in_run r) (start_of size r) (width_of r) (run_places size r h)
    d (start_of size (run_before r d)) copied source
  where
    source : (p : Point) → IsOn size p → in_run r p ≡ true →
        IsOn size (before_shift p d)
        × (pixel_index size (before_shift p d) + start_of size r ≡ start_of size (run_before r d) + pixel_index size p)
    source p on t =
        let s = run_before r d in
        let q = before_shift p d in
        let u = in_run-before r d p t in
        let on' = on_run size s q k u in
        let to = place_in size r p h t in
        let from = place_in size s q k u in
        let at = there size p on in
        let at' = there size q on' in
        let west = abs_is r.west h.west in
        let west' = abs_is s.west k.west in
        let column = abs_is p.h at.west in
        let column' = abs_is q.h at'.west in
        (on', omega (arith, ints, to.2, from.2))

-- rows were moved, straight north or south
pub moved_rows : (size : Size) (kind : Kind) (old new : List ℕ) (north south from : ℕ) (d : Point) →
    north ≤ south → south ≤ size.high → d.h ≡ pos 0 →
    pos from ≡ pos north -ℤ d.v → (pos south -ℤ d.v) ≤ℤ pos size.high →
    IsCopied old new (from * size.wide) (north * size.wide) ((south - north) * size.wide) →
    Repaints (in_rows north south) (λ p. pixel_of (picture_of size kind old) (before_shift p d)) (picture_of size kind old) (picture_of size kind new)
moved_rows size kind old new north south from d order fits straight first last copied =
    moved_places size kind old new (in_rows north south) (north * size.wide) ((south - north) * size.wide)
    (rows_places size north south order) d (from * size.wide) copied source
  where
    source : (p : Point) → IsOn size p → in_rows north south p ≡ true →
        IsOn size (before_shift p d)
        × (pixel_index size (before_shift p d) + north * size.wide ≡ from * size.wide + pixel_index size p)
    source p on t =
        let at = there size p on in
        let low : pos north ≤ℤ p.v = grind (arith, ints) in
        let high : p.v <ℤ pos south = grind (arith, ints) in
        let q = before_shift p d in
        let on' : IsOn size q =
        on_there size q (record {
          west = omega (arith, ints, at.west, straight);
          east = omega (arith, ints, at.east, straight);
          north = omega (arith, ints);
          south = omega (arith, ints);
        }) in
        let v = abs_is p.v at.north in
        let v' = abs_is q.v (there size q on').north in
        let h = abs_is p.h at.west in
        let h' = abs_is q.h (there size q on').west in
        let column : unsigned_abs q.h ≡ unsigned_abs p.h = omega (arith, ints, straight) in
        let rows : unsigned_abs q.v + north ≡ from + unsigned_abs p.v = omega (arith, ints) in
        let starts : unsigned_abs q.v * size.wide + north * size.wide ≡ from * size.wide + unsigned_abs p.v * size.wide =
        sym (add-mul (unsigned_abs q.v) north size.wide)
        ∙ ap (λ n. n * size.wide) rows ∙ add-mul from (unsigned_abs p.v) size.wide in
        (on', omega arith)

-- rows were filled
pub filled_rows : (size : Size) (kind : Kind) (old new : List ℕ) (north south pixel : ℕ) → north ≤ south →
    IsFilled old new (north * size.wide) ((south - north) * size.wide) pixel →
    Repaints (in_rows north south) (λ _. pixel) (picture_of size kind old) (picture_of size kind new)
filled_rows size kind old new north south pixel order h =
    painted_places size kind old new (in_rows north south) (north * size.wide) ((south - north) * size.wide) places (λ _. pixel) h.before h.behind gets
  where
    places : HasPlaces size (in_rows north south) (north * size.wide) ((south - north) * size.wide)
    places = rows_places size north south order

    gets : (p : Point) → IsOn size p → in_rows north south p ≡ true → get_or new (pixel_index size p) 0 ≡ pixel
    gets p on t =
        let at = places.inside p on t in
        let k : ℕ = pixel_index size p - north * size.wide in
        let target : pixel_index size p ≡ north * size.wide + k = omega (arith, at.0) in
        ap (λ n. get_or new n 0) target ∙ h.filled k (omega (arith, at.0, at.1))

-- what is written over a list, index by index
written_long : (xs w : List ℕ) (i : ℕ) → i + length w ≤ length xs → written_at xs i w ≡ take i xs ++ (w ++ drop (i + length w) xs)
written_long xs w i fits =
    let ys : List ℕ = take i xs ++ (w ++ drop (i + length w) xs) in
    take_all (length xs) ys (omega (
      arith,
      length-append (take i xs) (w ++ drop (i + length w) xs),
      length-append w (drop (i + length w) xs),
      length-drop (i + length w) xs,
      length-take-le i xs (omega arith),
    ))

written_before : (xs w : List ℕ) (i : ℕ) → i + length w ≤ length xs → (k : ℕ) → k < i → get_or (written_at xs i w) k 0 ≡ get_or xs k 0
written_before xs w i fits = λ k lt. rw (written_long xs w i fits) (search (rules, places))

written_behind : (xs w : List ℕ) (i : ℕ) → i + length w ≤ length xs → (k : ℕ) → i + length w ≤ k → get_or (written_at xs i w) k 0 ≡ get_or xs k 0
written_behind xs w i fits = λ k ge. rw (written_long xs w i fits) (search (rules, places))

written_within : (xs w : List ℕ) (i k : ℕ) → i + length w ≤ length xs → k < length w → get_or (written_at xs i w) (i + k) 0 ≡ get_or w k 0
written_within xs w i k fits lt = rw (written_long xs w i fits) (search (rules, places))

-- the place of a run's point, by its column in the run
pub column_is : (size : Size) (r : Run) (p : Point) → IsRun size r → in_run r p ≡ true →
    (pixel_index size p ≡ start_of size r + column_in r p) × (column_in r p < width_of r)
column_is size r p h t =
    let at = tests_of_run r p t in
    let to = place_in size r p h t in
    let west = abs_is r.west h.west in
    let column = abs_is p.h (there size p (on_run size r p h t)).west in
    let far = abs_is (p.h -ℤ r.west) (omega (arith, ints, at.1)) in
    (omega (arith, ints, to.0, to.2), omega (arith, ints, to.0, to.1))

-- a point of a run is the one in its column
pub point_in-column : (r : Run) (p : Point) → in_run r p ≡ true → point_in r (column_in r p) ≡ p
point_in-column r p t =
    let at = tests_of_run r p t in
    let far = abs_is (p.h -ℤ r.west) (omega (arith, ints, at.1)) in
    let across : r.west +ℤ pos (column_in r p) ≡ p.h = omega (arith, ints) in
    point_is p.h p.v across (sym at.0)
  where
    point_is : (h v : ℤ) → r.west +ℤ pos (column_in r p) ≡ h → r.v ≡ v → (let q : Point = record { h = h; v = v } in point_in r (column_in r p) ≡ q)
    point_is h v a b = rw (a, b) refl

module _ (size : Size) (kind : Kind) (pixels : List ℕ) (r : Run) (h : IsRun size r) (long : length pixels ≡ size.high * size.wide) where
  run_overwritten-picture_of : (w : List ℕ) → run_overwritten (picture_of size kind pixels) r w ≡ picture_of size kind (written_at pixels (start_of size r) w)
  unfolding run_overwritten
  run_overwritten-picture_of w = ap (λ l. picture_of size kind (written_at l (start_of size r) w)) (concat-first_chunks size.wide size.high pixels long)

  -- what is lent of a screen's pixels is written over its picture
  pub run_overwritten-view : (n : ℕ) (w : List ℕ) → n ≡ length pixels →
      (let i : ℕ = start_of size r in let ys : List ℕ = take i pixels ++ (w ++ drop (length w) (drop i pixels)) in
      picture_of size kind (take n (ys ++ drop (length ys) pixels)) ≡ run_overwritten (picture_of size kind pixels) r w)
  run_overwritten-view n w count =
      let fits = run_fits size r h in
      ap (λ l. picture_of size kind l) (written_at-is pixels w n (start_of size r) count (omega arith)) ∙ sym (run_overwritten-picture_of w)

  -- what that paints
  pub run_paints : (w : List ℕ) → length w ≡ width_of r →
      Repaints (in_run r) (λ p. get_or w (column_in r p) 0)
      (picture_of size kind pixels) (run_overwritten (picture_of size kind pixels) r w)
  run_paints w same =
      let fits : start_of size r + length w ≤ length pixels = omega (arith, run_fits size r h) in
      rw (run_overwritten-picture_of w)
      (painted_places size kind pixels (written_at pixels (start_of size r) w) (in_run r) (start_of size r) (width_of r) (run_places size r h)
      (λ p. get_or w (column_in r p) 0)
      (written_before pixels w (start_of size r) fits)
      (λ k ge. written_behind pixels w (start_of size r) fits k (omega arith))
      (λ p on t. (let at = column_is size r p h t in rw (at.0) (written_within pixels w (start_of size r) (column_in r p) fits (omega (arith, at.1))))))

  -- the pixels that are lent
  pub run_lent : (w : List ℕ) (a n : ℕ) →
      a ≡ start_of size r → n ≡ width_of r → w ≡ take (a + n - a) (drop a pixels) →
      (p : Point) → in_run r p ≡ true →
      get_or w (column_in r p) 0 ≡ pixel_of (picture_of size kind pixels) p
  run_lent w a n start wide held p t =
      let at = column_is size r p h t in
      let count : start_of size r + width_of r - start_of size r ≡ width_of r = omega arith in
      rw (
        held,
        start,
        wide,
        count,
        get_or-take (width_of r) (drop (start_of size r) pixels) (column_in r p) 0 at.1,
        get_or-drop (start_of size r) pixels (column_in r p) 0,
        ← at.0,
      )
      (sym (pixel_of-picture_of size kind pixels p (on_run size r p h t)))
