-- A walk over the rows of a region: bands one after another, the rows of a band, and the runs of a row.
use Rattle.std.proofs.Common.{◌≡◌, ℕ, ◌+◌, ◌<◌, ◌≤◌, ℤ, pos, ◌≤ℤ◌, ◌<ℤ◌, ◌-ℤ◌, Bool, true, false, ◌&&◌, ◌||◌, List, take, drop, get_or, length, refl, sym, ◌∙◌, ap, arith}
use Rattle.std.specs.Ordering.{int_eq}
use Rattle.std.proofs.lemmas.Int.{ints}
use Rattle.std.proofs.lemmas.Bool.{and_parts, and_from, and_left}
use Rattle.std.proofs.lemmas.Bool.Decides.{Decides-int_eq, not_from_Decides}
use Rattle.std.proofs.lemmas.List.{take_more, drop_more}
use Rattle.tr_base.specs.declared.points.Point.{Point}
use Rattle.tr_base.specs.declared.sizes.Size.{Size}
use Rattle.tr_base.specs.Rects.{Edges, between}
use Rattle.tr_region.specs.Points.{holds}
use Rattle.tr_region.specs.Rows.{in_band}
use Rattle.tr_region.proofs.ColumnLemmas.{in_one, in_spans-push}
use Rattle.tr_screen.specs.Runs.{in_run, in_rows, IsOn, IsRun}
use Rattle.tr_screen.proofs.RunLemmas.{there, test_of_run}
use Rattle.tr_repair.specs.Walks.{in_columns, in_part, in_row, run_of}

pub or_and : (a b t : Bool) → (a || b) && t ≡ (a && t) || (b && t)
or_and true true t = or_same t
  where
    or_same : (b : Bool) → b ≡ b || b
    or_same true = refl
    or_same false = refl
or_and true false true = refl
or_and true false false = refl
or_and false b t = refl

and_or : (a b c : Bool) → a && (b || c) ≡ (a && b) || (a && c)
and_or true b c = refl
and_or false b c = refl

rows_joined : (n m s : ℕ) (y : ℤ) → n ≤ m → m ≤ s → between (pos n) (pos s) y ≡ between (pos m) (pos s) y || between (pos n) (pos m) y
rows_joined n m s y from to = grind (arith, ints)

-- more rows
pub part_more : (test : Point → Bool) (n m s : ℕ) (p : Point) → n ≤ m → m ≤ s → in_part n s test p ≡ in_part m s test p || in_part n m test p
part_more test n m s p from to = ap (λ b. b && test p) (rows_joined n m s p.v from to) ∙ or_and (in_rows m s p) (in_rows n m p) (test p)

-- the same, where the rows in front are the new ones
pub part_more_north : (test : Point → Bool) (n m s : ℕ) (p : Point) → n ≤ m → m ≤ s → in_part n s test p ≡ in_part n m test p || in_part m s test p
part_more_north test n m s p from to = part_more test n m s p from to ∙ or_swapped (in_part m s test p) (in_part n m test p)
  where
    or_swapped : (a b : Bool) → a || b ≡ b || a
    or_swapped true true = refl
    or_swapped true false = refl
    or_swapped false true = refl
    or_swapped false false = refl

-- one row
pub part_of_row : (rects : List Edges) (v : ℕ) (p : Point) → in_row v rects p ≡ in_part v (v + 1) (in_columns rects) p
part_of_row rects v p = ap (λ b. b && in_columns rects p) (one_row (int_eq p.v (pos v)) refl)
  where
    one_row : (t : Bool) → int_eq p.v (pos v) ≡ t → t ≡ in_rows v (v + 1) p
    one_row true e = let at : p.v ≡ pos v = (Decides-int_eq p.v (pos v)).0 e in grind (arith, ints)
    one_row false e = let out = not_from_Decides (int_eq p.v (pos v)) (Decides-int_eq p.v (pos v)) e in grind (arith, ints)

-- a row of a band
pub band_of_row : (rects : List Edges) (north south v : ℕ) (p : Point) → north ≤ v → v < south → in_row v rects p ≡ true → in_band north south rects p ≡ true
band_of_row rects north south v p from to t =
    let both = and_parts (int_eq p.v (pos v)) (in_columns rects p) t in
    let at : p.v ≡ pos v = (Decides-int_eq p.v (pos v)).0 both.0 in
    and_from (in_rows north south p) (in_columns rects p) (grind (arith, ints)) both.1

-- all rows
pub part_all : (test : Point → Bool) (size : Size) (p : Point) → IsOn size p → test p ≡ in_part 0 size.high test p
part_all test size p on =
    let at = there size p on in
    let north = at.north in
    let south = at.south in
    let all : in_rows 0 size.high p ≡ true = grind (arith, ints) in
    rw all refl

-- no row
pub part_none : (test : Point → Bool) (n : ℕ) (p : Point) → in_part n n test p ≡ false
part_none test n p = and_left (in_rows n n p) (test p) (grind (arith, ints))

-- the points of a band of a region, by rows that reach further north, or further south, where the region holds none
pub band_from : (region rects : List Edges) (n north south : ℕ) →
    n ≤ north → ((p : Point) → pos n ≤ℤ p.v → p.v <ℤ pos south → holds region p ≡ in_band north south rects p) →
    (p : Point) → in_band north south rects p ≡ in_part n south (holds region) p
band_from region rects n north south from points p = by_test (in_rows n south p) refl
  where
    by_test : (t : Bool) → in_rows n south p ≡ t → in_band north south rects p ≡ t && holds region p
    by_test true t = sym (points p (grind (arith, ints)) (grind (arith, ints)))
    by_test false t = and_left (in_rows north south p) (in_columns rects p) (grind (arith, ints))

pub band_to : (region rects : List Edges) (north south s : ℕ) →
    south ≤ s → ((p : Point) → pos north ≤ℤ p.v → p.v <ℤ pos s → holds region p ≡ in_band north south rects p) →
    (p : Point) → in_band north south rects p ≡ in_part north s (holds region) p
band_to region rects north south s to points p = by_test (in_rows north s p) refl
  where
    by_test : (t : Bool) → in_rows north s p ≡ t → in_band north south rects p ≡ t && holds region p
    by_test true t = sym (points p (grind (arith, ints)) (grind (arith, ints)))
    by_test false t = and_left (in_rows north south p) (in_columns rects p) (grind (arith, ints))

module _ (v : ℕ) (rects : List Edges) (k : ℕ) (d : Edges) (lt : k < length rects) where
  -- one rectangle more, to the east or to the west
  pub row_more : (p : Point) → in_row v (take (k + 1) rects) p ≡ in_run (run_of v (get_or rects k d)) p || in_row v (take k rects) p
  row_more p =
      let r = get_or rects k d in
      rw (take_more rects k d lt, in_spans-push (take k rects) r p.h) (and_or (int_eq p.v (pos v)) (between r.west r.east p.h) (in_columns (take k rects) p))

  pub row_more_west : (p : Point) → in_row v (drop k rects) p ≡ in_run (run_of v (get_or rects k d)) p || in_row v (drop (k + 1) rects) p
  row_more_west p =
      let r = get_or rects k d in
      rw (drop_more rects k d lt) (and_or (int_eq p.v (pos v)) (between r.west r.east p.h) (in_columns (drop (k + 1) rects) p))

  -- a point of a run is one of its row
  pub row_of_run : (p : Point) → in_run (run_of v (get_or rects k d)) p ≡ true → in_row v rects p ≡ true
  row_of_run p t =
      let both = and_parts (int_eq p.v (pos v)) (between (get_or rects k d).west (get_or rects k d).east p.h) t in
      and_from (int_eq p.v (pos v)) (in_columns rects p) both.0 (in_one rects k d p.h lt both.1)

-- a run whose points are on the screen is on it
pub run_on : (size : Size) (v : ℕ) (r : Edges) → r.west <ℤ r.east → ((p : Point) → in_run (run_of v r) p ≡ true → IsOn size p) → IsRun size (run_of v r)
run_on size v r some on =
    let first : Point = record { h = r.west; v = pos v } in
    let last : Point = record { h = r.east -ℤ pos 1; v = pos v } in
    let a = there size first (on first (test_of_run (run_of v r) first refl (omega (arith, ints)) some)) in
    let b = there size last (on last (test_of_run (run_of v r) last refl (omega (arith, ints)) (omega (arith, ints)))) in
    record { north = a.north; south = a.south; west = a.west; some = some; east = omega (arith, ints, b.east) }
