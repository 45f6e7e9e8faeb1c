-- The pixels at the points of rectangles, as one list: where each of them stands, and how a walk over rows collects them.
use Rattle.std.proofs.Common.{◌≡◌, ℕ, zero, suc, add-one, ◌+◌, ◌*◌, ◌-◌, ◌<◌, ℤ, pos, ◌+ℤ◌, ◌-ℤ◌, ◌≤ℤ◌, ◌<ℤ◌, true, ◌&&◌, List, ◌++◌, append_assoc, flat_map, length, get_or, take, drop, inl, inr, refl, sym, ap, ◌∙◌, arith}
use Rattle.std.specs.List.{range_with_len}
use Rattle.std.proofs.lemmas.Int.{ints}
use Rattle.std.proofs.lemmas.List.{append-nil, get_or_append_left, get_or-append-add, length-append, length-drop, length-take-le}
use Rattle.std.proofs.lemmas.List.FromFn.{fill_by_all, length-map-range_with_len, get_or-map-range_with_len}
use Rattle.tr_base.specs.declared.points.Point.{Point}
use Rattle.tr_base.specs.declared.sizes.Size.{Size}
use Rattle.tr_base.specs.declared.ops.Kind.{Kind}
use Rattle.tr_base.specs.Rects.{Edges, InReach, IsRect, between, sides_of}
use Rattle.tr_base.proofs.RectLemmas.{rect_cases}
use Rattle.tr_base.proofs.RectFacts.{between-within, abs_is}
use Rattle.tr_screen.specs.declared.runs.Run.{Run}
use Rattle.tr_screen.specs.Pictures.{picture_of, pixel_of}
use Rattle.tr_screen.specs.Runs.{IsRun, column_in, in_run, point_in, start_of, width_of}
use Rattle.tr_screen.specs.Readings.{LiesOn, rect_by, row_in, run_by}
use Rattle.tr_screen.proofs.RunLemmas.{IsThere, column_is, point_in-column, run_fits, run_lent, test_of_run, there}

-- ---- rows of one length

module _ (row : ℕ → List ℕ) (wide : ℕ) (each : (n : ℕ) → length (row n) ≡ wide) where
  -- how many pixels they have
  pub length-rows : (a high : ℕ) → length (flat_map row (range_with_len a high)) ≡ high * wide
  length-rows a zero = omega arith
  length-rows a (suc high) =
      let rest = length-rows (a + 1) high in
      let first = each a in
      length-append (row a) (flat_map row (range_with_len (a + 1) high)) ∙ omega (arith, rest, first)

  -- where a pixel stands
  pub get_or-rows : (a high n k : ℕ) → n < high → k < wide → get_or (flat_map row (range_with_len a high)) (n * wide + k) 0 ≡ get_or (row (a + n)) k 0
  get_or-rows a zero n k lt at = absurd (omega (arith, lt))
  get_or-rows a (suc high) zero k lt at =
      let start : zero * wide + k ≡ k = omega arith in
      let same : a + zero ≡ a = omega arith in
      rw (start, same) (get_or_append_left (row a) (flat_map row (range_with_len (a + 1) high)) 0 k (omega (arith, each a, at)))
  get_or-rows a (suc high) (suc n) k lt at =
      let place : suc n * wide + k ≡ length (row a) + (n * wide + k) = omega (arith, each a) in
      let same : (a + 1) + n ≡ a + suc n = omega arith in
      ap (λ i. get_or (flat_map row (range_with_len a (suc high))) i 0) place
      ∙ get_or-append-add (row a) (flat_map row (range_with_len (a + 1) high)) (n * wide + k) 0
      ∙ get_or-rows (a + 1) high n k (omega (arith, lt)) at
      ∙ ap (λ m. get_or (row m) k 0) same

-- one row more
range_more : (row : ℕ → List ℕ) (a n : ℕ) → flat_map row (range_with_len a (suc n)) ≡ flat_map row (range_with_len a n) ++ row (a + n)
range_more row a zero = append-nil (row a) ∙ ap row (omega arith)
range_more row a (suc n) =
    ap (λ l. row a ++ l) (range_more row (a + 1) n)
    ∙ sym (append_assoc (row a) (flat_map row (range_with_len (a + 1) n)) (row ((a + 1) + n)))
    ∙ ap (λ m. flat_map row (range_with_len a (suc n)) ++ row m) (omega arith)

-- ---- the pixels of a rectangle

module _ (pixel : Point → ℕ) (r : Edges) where
  length-row : (n : ℕ) → length (run_by pixel (row_in r n)) ≡ (sides_of r).0
  length-row n = length-map-range_with_len (λ k. pixel (point_in (row_in r n) k)) 0 (sides_of r).0

  -- as many as it has points
  pub length-rect_by : length (rect_by pixel r) ≡ (sides_of r).1 * (sides_of r).0
  length-rect_by = length-rows (λ n. run_by pixel (row_in r n)) (sides_of r).0 length-row 0 (sides_of r).1

  -- the pixel of a row and a column
  pub get_or-rect_by : (n k : ℕ) → n < (sides_of r).1 → k < (sides_of r).0 →
      get_or (rect_by pixel r) (n * (sides_of r).0 + k) 0 ≡ pixel (point_in (row_in r n) k)
  get_or-rect_by n k row column =
      get_or-rows (λ m. run_by pixel (row_in r m)) (sides_of r).0 length-row 0 (sides_of r).1 n k row column
      ∙ ap (λ m. get_or (run_by pixel (row_in r m)) k 0) (omega arith)
      ∙ get_or-map-range_with_len (λ j. pixel (point_in (row_in r n) j)) 0 (sides_of r).0 k k 0 column (omega arith)

  -- one row more behind other pixels
  pub rows_read : (n : ℕ) (old pixels part new : List ℕ) → pixels ≡ old ++ flat_map (λ m. run_by pixel (row_in r m)) (range_with_len 0 n) →
      part ≡ run_by pixel (row_in r n) → new ≡ pixels ++ part → new ≡ old ++ flat_map (λ m. run_by pixel (row_in r m)) (range_with_len 0 (n + 1))
  rows_read n old pixels part new read next is =
      is ∙ ap (λ l. l ++ part) read
      ∙ append_assoc old (flat_map (λ m. run_by pixel (row_in r m)) (range_with_len 0 n)) part
      ∙ ap (λ l. old ++ (flat_map (λ m. run_by pixel (row_in r m)) (range_with_len 0 n) ++ l)) (next ∙ ap (λ m. run_by pixel (row_in r m)) (omega arith))
      ∙ ap (λ l. old ++ l) (sym (range_more (λ m. run_by pixel (row_in r m)) 0 n)
      ∙ ap (λ m. flat_map (λ j. run_by pixel (row_in r j)) (range_with_len 0 m)) (sym (add-one n)))

-- ---- the rows of a rectangle on a screen

-- a point between the edges is on the screen
corner_on : (size : Size) (r : Edges) → LiesOn size r → (h v : ℤ) → r.west ≤ℤ h → h <ℤ r.east → r.north ≤ℤ v → v <ℤ r.south →
    IsThere size (record { h = h; v = v })
corner_on size r on h v a b c d =
    there size (record { h = h; v = v })
    (on (record { h = h; v = v }) (ap (λ x. x && between r.north r.south v) (between-within r.west r.east h a b) ∙ between-within r.north r.south v c d))

-- a row of a rectangle that lies on a screen is a run of the screen
row_is_run : (size : Size) (r : Edges) (n : ℕ) → r.west <ℤ r.east → n < (sides_of r).1 → r.north <ℤ r.south → LiesOn size r → IsRun size (row_in r n)
row_is_run size r n across row down on =
    let high = abs_is (r.south -ℤ r.north) (omega (arith, ints, down)) in
    let below : (r.north +ℤ pos n) <ℤ r.south = omega (arith, ints, high, row) in
    let first = corner_on size r on r.west (r.north +ℤ pos n) (omega (arith, ints)) across (omega (arith, ints)) below in
    let last = corner_on size r on (r.east -ℤ pos 1) (r.north +ℤ pos n) (omega (arith, ints, across)) (omega (arith, ints)) (omega (arith, ints)) below in
    record {
      north = first.north;
      south = first.south;
      west = first.west;
      some = across;
      east = omega (arith, ints, last.east);
    }

pub rect_row : (size : Size) (r : Edges) (n : ℕ) → IsRect r → n < (sides_of r).1 → LiesOn size r → IsRun size (row_in r n)
rect_row size r n is row on = elim (rect_cases r is) [
  | inl none ↦ absurd (let flat : (sides_of r).1 ≡ 0 = ap (λ (e : Edges). (sides_of e).1) none in omega (arith, flat, row))
  | inr full ↦ row_is_run size r n full.0 row full.1 on
]

-- a row's number within its rectangle, and its row on the plane, are small
pub record IsRow (r : Edges) (n : ℕ) : Type 0 where
  pub small : n < 2097152
  pub north : InReach r.north
  pub row : InReach (r.north +ℤ pos n)

pub row_of_rect : (r : Edges) (n : ℕ) → IsRect r → n < (sides_of r).1 → IsRow r n
row_of_rect r n is row = elim (rect_cases r is) [
  | inl none ↦ absurd (let flat : (sides_of r).1 ≡ 0 = ap (λ (e : Edges). (sides_of e).1) none in omega (arith, flat, row))
  | inr full ↦ (
      let high = abs_is (r.south -ℤ r.north) (omega (arith, ints, full.1)) in
      let north : InReach r.north = is.reach.north in
      let south : InReach r.south = is.reach.south in
      record {
        small = omega (arith, ints, high, row, north.low, south.high);
        north = north;
        row = record { low = omega (arith, ints, north.low); high = omega (arith, ints, high, row, south.high) };
      }
      )
]

-- ---- the pixels of a run

-- a point of a run stands in its column
column_in-point_in : (r : Run) (k : ℕ) → column_in r (point_in r k) ≡ k
column_in-point_in r k = grind (arith, ints)

-- a part of a screen's pixels is that of a run
pub run_read : (size : Size) (kind : Kind) (pixels : List ℕ) (r : Run) → IsRun size r → length pixels ≡ size.high * size.wide → (w : List ℕ) (a n : ℕ) →
    a ≡ start_of size r → n ≡ width_of r → w ≡ take (a + n - a) (drop a pixels) → w ≡ run_by (pixel_of (picture_of size kind pixels)) r
run_read size kind pixels r h long w a n start wide is = fill_by_all (λ k. pixel_of (picture_of size kind pixels) (point_in r k)) w (width_of r) 0 many each
  where
    many : length w ≡ width_of r
    many =
        let count : a + n - a ≡ width_of r = omega (arith, wide) in
        let rest : length (drop a pixels) ≡ length pixels - a = length-drop a pixels in
        let fits = run_fits size r h in
        ap (λ (l : List ℕ). length l) (is ∙ ap (λ m. take m (drop a pixels)) count)
        ∙ length-take-le (width_of r) (drop a pixels) (omega (arith, rest, fits, long, start))

    each : (k : ℕ) → k < width_of r → get_or w k 0 ≡ pixel_of (picture_of size kind pixels) (point_in r k)
    each k lt =
        let wide_is : pos (width_of r) ≡ r.east -ℤ r.west = abs_is (r.east -ℤ r.west) (omega (arith, ints, h.some)) in
        let held = test_of_run r (point_in r k) refl (omega (arith, ints)) (omega (arith, ints, lt, wide_is)) in
        ap (λ i. get_or w i 0) (sym (column_in-point_in r k))
        ∙ run_lent size kind pixels r h long w a n start wide is (point_in r k) held

-- the pixel of a point of a run
pub get_or-run_by : (pixel : Point → ℕ) (size : Size) (r : Run) → IsRun size r → (p : Point) → in_run r p ≡ true →
    get_or (run_by pixel r) (column_in r p) 0 ≡ pixel p
get_or-run_by pixel size r h p t =
    get_or-map-range_with_len (λ k. pixel (point_in r k)) 0 (width_of r) (column_in r p) (column_in r p) 0 (column_is size r p h t).1 (omega arith)
    ∙ ap pixel (point_in-column r p t)
