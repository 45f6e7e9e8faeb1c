-- Counts of numbers and of points that pass a test, and at how many places two rows differ.
use Rattle.std.proofs.Common.{◌≡◌, ℕ, zero, suc, ◌+◌, ◌-◌, ◌*◌, ◌<◌, ◌≤◌, pos, Bool, true, false, ◌&&◌, ◌||◌, cond, List, [], ◌∷◌, take, drop, get_or, length, refl, sym, ap, ◌∙◌, subst, add-suc, add-zero, ◌++◌, ◌⊎◌, inl, inr, ℤ, ◌≤ℤ◌, ◌<ℤ◌, of_z, to_z, w32, add-one, arith}
use Rattle.std.specs.Prelude.{count_by, slice_range}
use Rattle.std.specs.List.{zip}
use Rattle.std.proofs.Math.Nat.{mul-le-mul_right}
use Rattle.std.proofs.lemmas.Bool.{cases_lt}
use Rattle.std.proofs.lemmas.Int.{ints}
use Rattle.std.proofs.lemmas.List.{get_or-drop, get_or-take, length-drop, length-take-le, take_all, take_more}
use Rattle.std.proofs.lemmas.List.Recursion.{is_count_by}
use Rattle.std.proofs.lemmas.Slice.Zip.{get_or-zip, length-zip}
use Rattle.tr_base.specs.declared.Point.{Point}
use Rattle.tr_base.specs.declared.Size.{Size}
use Rattle.tr_base.specs.Rects.{Edges, between, IsScreenSize}
use Rattle.tr_base.proofs.RectFacts.{between-before, between-beyond, between-within}
use Rattle.tr_kernel.specs.Differences.{differ}
use Rattle.tr_region.specs.Bands.{AreApart, in_spans, spans_of}
use Rattle.tr_region.specs.Points.{count_below, holds, sum_below}
use Rattle.tr_region.specs.Rows.{HoldsRow, IsNearest}
use Rattle.tr_region.proofs.BandRows.{cut_rows}
use Rattle.tr_region.proofs.ColumnLemmas.{in_spans-push, none_west}
use Rattle.tr_region.proofs.CountLemmas.{count_below-le, sum_below-le, sum_below-zero}
use Rattle.tr_screen.specs.Pictures.{Picture, row_of}
use Rattle.tr_surface.specs.Counts.{count_on}
use Rattle.tr_surface.proofs.CountLemmas.{one}
use Rattle.tr_stage.specs.Stages.{is_different}

-- ---- counts of numbers

-- tests that agree below n count as many
pub count-alike : (n : ℕ) (f g : ℕ → Bool) → ((x : ℕ) → x < n → f x ≡ g x) → count_below n f ≡ count_below n g
unfolding count_below
count-alike zero f g same = refl
count-alike (suc n) f g same =
    let before : count_below n f ≡ count_below n g = count-alike n f g (λ x lt. same x (omega arith)) in
    let here : one (f n) ≡ one (g n) = ap one (same n (omega arith)) in
    omega (arith, before, here)

-- nothing passes a test that fails below n
pub count-none : (n : ℕ) (f : ℕ → Bool) → ((x : ℕ) → x < n → f x ≡ false) → count_below n f ≡ 0
unfolding count_below
count-none zero f none = refl
count-none (suc n) f none =
    let before : count_below n f ≡ 0 = count-none n f (λ x lt. none x (omega arith)) in
    let here : one (f n) ≡ 0 = ap one (none n (omega arith)) in
    omega (arith, before, here)

-- what passes one of two tests that exclude each other
pub count-apart : (n : ℕ) (both f g : ℕ → Bool) → ((x : ℕ) → x < n → one (both x) ≡ one (f x) + one (g x)) →
    count_below n both ≡ count_below n f + count_below n g
unfolding count_below
count-apart zero both f g each = refl
count-apart (suc n) both f g each =
    let before : count_below n both ≡ count_below n f + count_below n g = count-apart n both f g (λ x lt. each x (omega arith)) in
    let here : one (both n) ≡ one (f n) + one (g n) = each n (omega arith) in
    omega (arith, before, here)

-- the numbers below a sum are those below its first part, and those below the second behind them
pub count-add : (m n : ℕ) (f : ℕ → Bool) → count_below (m + n) f ≡ count_below m f + count_below n (λ x. f (m + x))
unfolding count_below
count-add m zero f = rw (add-zero m) (sym (add-zero (count_below m f)))
count-add m (suc n) f =
    let before : count_below (m + n) f ≡ count_below m f + count_below n (λ x. f (m + x)) = count-add m n f in
    rw (add-suc) (omega (arith, before))

-- the first number and those behind it
count-first : (n : ℕ) (f : ℕ → Bool) → count_below (suc n) f ≡ one (f 0) + count_below n (λ x. f (suc x))
unfolding count_below
count-first zero f = omega arith
count-first (suc n) f = let before : count_below (suc n) f ≡ one (f 0) + count_below n (λ x. f (suc x)) = count-first n f in omega (arith, before)

-- ---- counts of points

-- no point passes a test that fails everywhere
pub count_on-none : (size : Size) (f : Point → Bool) → ((p : Point) → f p ≡ false) → count_on size f ≡ 0
count_on-none size f none =
    sum_below-zero size.high _ (λ v. count-none size.wide (λ h. f (record { h = pos h; v = pos v })) (λ h low. none (record { h = pos h; v = pos v })))

-- there are no more points than the screen has
pub count_on-le : (size : Size) (f : Point → Bool) → count_on size f ≤ size.high * size.wide
count_on-le size f = sum_below-le size.high size.wide _ (λ v. count_below-le size.wide _)

-- a screen has few points
pub count_on-few : (size : Size) (f : Point → Bool) → IsScreenSize size → count_on size f ≤ 1048576
count_on-few size f small =
    let most : count_on size f ≤ size.high * size.wide = count_on-le size f in
    let rows : size.high * size.wide ≤ 1024 * size.wide = mul-le-mul_right size.wide small.high in
    omega (arith, most, rows, small.wide)

-- ---- rows that differ

-- the pixels at a place differ
abbrev pub differs_at : List ℕ → List ℕ → ℕ → Bool
differs_at a b k = differ (get_or a k 0, get_or b k 0)

-- the elements of a list that pass a test, counted by their places
count_places : {X : Type 0} (test : X → Bool) (xs : List X) (d : X) → count_by test xs ≡ count_below (length xs) (λ k. test (get_or xs k d))
unfolding count_below
count_places {X} test xs d = sym (is_count_by count test refl each xs)
  where
    count : List X → ℕ
    count ys = count_below (length ys) (λ k. test (get_or ys k d))

    each : (y : X) (ys : List X) → count (y ∷ ys) ≡ cond (test y) (1 + count ys) (count ys)
    each y ys = count-first (length ys) (λ k. test (get_or (y ∷ ys) k d)) ∙ by_test (test y) (count ys)
      where
        by_test : (b : Bool) (n : ℕ) → one b + n ≡ cond b (1 + n) n
        by_test true n = refl
        by_test false n = omega arith

-- the places at which two rows differ, counted
count_zip : (a b : List ℕ) → length a ≡ length b → count_by differ (zip a b) ≡ count_below (length a) (differs_at a b)
count_zip a b same =
    count_places differ (zip a b) (0, 0)
    ∙ ap (λ n. count_below n (λ k. differ (get_or (zip a b) k (0, 0)))) long
    ∙ count-alike (length a) _ _ (λ k low. ap differ (get_or-zip a b k (0, 0) low (omega (arith, low, same))))
  where
    long : length (zip a b) ≡ length a
    long = omega (arith, length-zip a b, same)

-- of a part of two rows they are those in the columns of that part
pub count_part : (a b : List ℕ) (from to : ℕ) → from ≤ to → to ≤ length a → length a ≡ length b →
    count_by differ (zip (slice_range a from to) (slice_range b from to))
    ≡ count_below (length a) (λ x. between (pos from) (pos to) (pos x) && differs_at a b x)
count_part a b from to order within same =
    count_zip (slice_range a from to) (slice_range b from to) (long a within ∙ sym (long b (omega (arith, within, same))))
    ∙ ap (λ n. count_below n (differs_at (slice_range a from to) (slice_range b from to))) (long a within)
    ∙ count-alike (to - from) _ _ here
    ∙ sym (by_parts (count-add from ((to - from) + (length a - to)) test) (count-add (to - from) (length a - to) (λ x. test (from + x))))
    ∙ ap (λ n. count_below n test) whole
  where
    test : ℕ → Bool
    test x = between (pos from) (pos to) (pos x) && differs_at a b x

    whole : from + ((to - from) + (length a - to)) ≡ length a
    whole = omega (arith, order, within)

    long : (xs : List ℕ) → to ≤ length xs → length (slice_range xs from to) ≡ to - from
    long xs fits = length-take-le (to - from) (drop from xs) (omega (arith, length-drop from xs, fits, order))

    get_part : (xs : List ℕ) (x : ℕ) → x < to - from → get_or (slice_range xs from to) x 0 ≡ get_or xs (from + x) 0
    get_part xs x low = get_or-take (to - from) (drop from xs) x 0 low ∙ get_or-drop from xs x 0

    here : (x : ℕ) → x < to - from → differs_at (slice_range a from to) (slice_range b from to) x ≡ test (from + x)
    here x low =
        ap (λ y. differ (y, get_or (slice_range b from to) x 0)) (get_part a x low) ∙ ap (λ y. differ (get_or a (from + x) 0, y)) (get_part b x low)
        ∙ sym (ap (λ c. c && differs_at a b (from + x))
        (between-within (pos from) (pos to) (pos (from + x)) (omega (arith, ints)) (omega (arith, ints, low))))

    first : count_below from test ≡ 0
    first = count-none from test (λ x low. ap (λ c. c && differs_at a b x) (between-before (pos from) (pos to) (pos x) (omega (arith, ints, low))))

    last : count_below (length a - to) (λ x. test (from + ((to - from) + x))) ≡ 0
    last = count-none (length a - to) _ (λ x low. ap (λ c. c && differs_at a b (from + ((to - from) + x)))
        (between-beyond (pos from) (pos to) (pos (from + ((to - from) + x))) (omega (arith, ints, order))))

    by_parts :
        count_below (from + ((to - from) + (length a - to))) test
        ≡ count_below from test + count_below ((to - from) + (length a - to)) (λ x. test (from + x)) →
        count_below ((to - from) + (length a - to)) (λ x. test (from + x))
        ≡ count_below (to - from) (λ x. test (from + x)) + count_below (length a - to) (λ x. test (from + ((to - from) + x))) →
        count_below (from + ((to - from) + (length a - to))) test ≡ count_below (to - from) (λ x. test (from + x))
    by_parts outer inner = omega (arith, outer, inner, first, last)

-- ---- rows in the columns of rectangles

-- the columns of a rectangle within a row, by their nearest places
pub columns_cut : (west east : ℤ) (wide from to : ℕ) → IsNearest west 0 wide from → IsNearest east 0 wide to → (x : ℕ) → x < wide →
    between (pos from) (pos to) (pos x) ≡ between west east (pos x)
columns_cut west east wide from to first last x low =
    cut_rows (pos x) west east from to
    (first.same (pos x) (omega (arith, ints)) (omega (arith, ints, low)))
    (last.same (pos x) (omega (arith, ints)) (omega (arith, ints, low)))

-- these are in order
pub columns_order : (west east : ℤ) (wide from to : ℕ) → IsNearest west 0 wide from → IsNearest east 0 wide to → west ≤ℤ east → from ≤ to
columns_order west east wide from to first last order = by_order (cases_lt to from)
  where
    by_order : (to < from) ⊎ (from ≤ to) → from ≤ to
    by_order (inr le) = le
    by_order (inl lt) =
        let low : pos 0 ≤ℤ pos to = omega (arith, ints) in
        let high : pos to <ℤ pos wide = omega (arith, ints, lt, first.to) in
        let east_is : east ≤ℤ pos to = (last.same (pos to) low high).1 (omega (arith, ints)) in
        let west_is : pos from ≤ℤ pos to = (first.same (pos to) low high).0 (omega (arith, ints, order, east_is)) in
        absurd (omega (arith, ints, lt, west_is))

-- what lies between two edges lies from the first on
from_between : (low high x : ℤ) → between low high x ≡ true → low ≤ℤ x
from_between low high x h = grind (arith, ints)

-- at how many places in the columns of some rectangles two rows differ
abbrev pub count_in : List Edges → List ℕ → List ℕ → ℕ
count_in rects a b = count_below (length a) (λ x. in_spans (spans_of rects) (pos x) && differs_at a b x)

-- no more than the rows have
pub count_in-le : (rects : List Edges) (a b : List ℕ) → count_in rects a b ≤ length a
count_in-le rects a b = count_below-le (length a) (λ x. in_spans (spans_of rects) (pos x) && differs_at a b x)

-- those in the columns of one rectangle more
pub columns_more : (rects : List Edges) (k : ℕ) (r : Edges) (a b : List ℕ) (from to : ℕ) → AreApart (spans_of rects) →
    (k < length rects) × (r ≡ get_or rects k r) → (from ≤ to) × (to ≤ length a) → length a ≡ length b →
    ((x : ℕ) → x < length a → between (pos from) (pos to) (pos x) ≡ between r.west r.east (pos x)) →
    count_in (take (k + 1) rects) a b ≡ count_in (take k rects) a b + count_by differ (zip (slice_range a from to) (slice_range b from to))
columns_more rects k r a b from to apart at within same columns =
    count-apart (length a) _ (λ x. in_spans (spans_of (take k rects)) (pos x) && differs_at a b x)
    (λ x. between (pos from) (pos to) (pos x) && differs_at a b x) each
    ∙ ap (λ n. count_in (take k rects) a b + n) (sym (count_part a b from to within.0 within.1 same))
  where
    here : take (k + 1) rects ≡ take k rects ++ r ∷ []
    here = take_more rects k r at.0 ∙ ap (λ e. take k rects ++ e ∷ []) (sym at.1)

    spans : (x : ℕ) → in_spans (spans_of (take (k + 1) rects)) (pos x) ≡ between r.west r.east (pos x) || in_spans (spans_of (take k rects)) (pos x)
    spans x = ap (λ es. in_spans (spans_of es) (pos x)) here ∙ in_spans-push (take k rects) r (pos x)

    none : (x : ℕ) → between r.west r.east (pos x) ≡ true → in_spans (spans_of (take k rects)) (pos x) ≡ false
    none x h = none_west rects k r (pos x) apart at.0 (subst (λ (e : Edges). e.west ≤ℤ pos x) at.1 (from_between r.west r.east (pos x) h))

    split : (x : ℕ) (d : Bool) (t : Bool) → between r.west r.east (pos x) ≡ t →
        one ((t || in_spans (spans_of (take k rects)) (pos x)) && d) ≡ one (in_spans (spans_of (take k rects)) (pos x) && d) + one (t && d)
    split x d true h = rw (none x h) (omega arith)
    split x d false h = omega arith

    each : (x : ℕ) → x < length a →
        one (in_spans (spans_of (take (k + 1) rects)) (pos x) && differs_at a b x)
        ≡ one (in_spans (spans_of (take k rects)) (pos x) && differs_at a b x) + one (between (pos from) (pos to) (pos x) && differs_at a b x)
    each x low =
        ap (λ c. one (c && differs_at a b x)) (spans x)
        ∙ split x (differs_at a b x) (between r.west r.east (pos x)) refl
        ∙ ap (λ c. one (in_spans (spans_of (take k rects)) (pos x) && differs_at a b x) + one (c && differs_at a b x)) (sym (columns x low))

-- where two parts of rows differ, there are few such places
pub part_few : (a b : List ℕ) (from to : ℕ) → (from ≤ to) × (to ≤ length a) → length a ≡ length b →
    count_by differ (zip (slice_range a from to) (slice_range b from to)) ≤ length a
part_few a b from to within same =
    let is = count_part a b from to within.0 within.1 same in
    let most = count_below-le (length a) (λ x. between (pos from) (pos to) (pos x) && differs_at a b x) in
    omega (arith, is, most)

-- none in the columns of no rectangle
pub columns_none : (rects : List Edges) (a b : List ℕ) → 0 ≡ count_in (take 0 rects) a b
columns_none rects a b = sym (count-none (length a) (λ x. in_spans (spans_of (take 0 rects)) (pos x) && differs_at a b x) (λ x low. refl))

-- those of all rectangles
pub columns_all : (rects : List Edges) (k : ℕ) (a b : List ℕ) → length rects ≤ k → count_in (take k rects) a b ≡ count_in rects a b
columns_all rects k a b all = ap (λ es. count_in es a b) (take_all k rects all)

-- a row's number passes unchanged through 32 bits
pub cast_row : (v : ℕ) (x : ℤ) → x ≡ pos v → v < 65536 → to_z w32 (of_z w32 x) ≡ pos v
cast_row v x e low = rw e (omega (arith, ints))

-- ---- row by row

-- no row
pub sum_none : (f : ℕ → ℕ) → 0 ≡ sum_below 0 f
unfolding sum_below
sum_none f = refl

-- one row more
pub sum_more : (n : ℕ) (f : ℕ → ℕ) → sum_below (n + 1) f ≡ sum_below n f + f n
unfolding sum_below
sum_more n f = rw (add-one) refl

-- the points of a row that a region holds, and at which two screens differ
abbrev pub apart_in : List Edges → Picture → Picture → ℕ → ℕ
apart_in region a b y =
    count_below a.size.wide (λ h. holds region (record { h = pos h; v = pos y }) && is_different a b (record { h = pos h; v = pos y }))

-- those of some rows are few
pub few_apart : (region : List Edges) (a b : Picture) (n : ℕ) → a.size.wide ≤ 1024 → sum_below n (apart_in region a b) ≤ n * 1024
few_apart region a b n small =
    sum_below-le n 1024 (apart_in region a b) (λ y.
    (let most : apart_in region a b y ≤ a.size.wide = count_below-le a.size.wide _ in omega (arith, most, small)))

-- in a row of two screens those that a region holds
pub row_apart : (region rects : List Edges) (a b : Picture) (first second : List ℕ) (v : ℕ) → HoldsRow region rects (pos v) →
    first ≡ row_of a v → second ≡ row_of b v → length first ≡ a.size.wide → count_in rects first second ≡ apart_in region a b v
row_apart region rects a b first second v row first_is second_is wide =
    ap (λ n. count_below n (λ x. in_spans (spans_of rects) (pos x) && differs_at first second x)) wide
    ∙ ap (λ xs. count_below a.size.wide (λ x. in_spans (spans_of rects) (pos x) && differs_at xs second x)) first_is
    ∙ ap (λ xs. count_below a.size.wide (λ x. in_spans (spans_of rects) (pos x) && differs_at (row_of a v) xs x)) second_is
    ∙ count-alike a.size.wide _ _ (λ x low. ap (λ c. c && differs_at (row_of a v) (row_of b v) x) (sym (row (record { h = pos x; v = pos v }) refl)))
