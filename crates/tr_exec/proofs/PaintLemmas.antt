-- A walk that paints: a run more, and some rows more.
use Rattle.std.proofs.Common.{◌≡◌, ℕ, ◌+◌, ◌<◌, ◌≤◌, ◌⊎◌, inl, inr, ℤ, pos, ◌≤ℤ◌, ◌<ℤ◌, Bool, true, false, ◌&&◌, ◌||◌, List, [], ◌∷◌, take, get_or, length, refl, sym, ◌∙◌, ap, subst, arith}
use Rattle.std.specs.Prelude.{unsigned_abs}
use Rattle.std.specs.Ordering.{int_eq}
use Rattle.std.specs.Int.{int_min, int_max}
use Rattle.std.proofs.lemmas.Int.{ints, clamps}
use Rattle.std.proofs.lemmas.Bool.{and_parts, and_from, and_left, and_right}
use Rattle.std.proofs.lemmas.Bool.Decides.{Decides-int_eq}
use Rattle.std.proofs.Math.Bool.{and_assoc}
use Rattle.tr_base.specs.declared.Point.{Point}
use Rattle.tr_base.specs.declared.Size.{Size}
use Rattle.tr_base.specs.Rects.{Edges, between, has_point}
use Rattle.tr_base.proofs.RectLemmas.{between-meet}
use Rattle.tr_base.proofs.RectFacts.{between-within}
use Rattle.tr_region.specs.Bands.{AreApart, in_spans, spans_of}
use Rattle.tr_region.specs.Points.{holds}
use Rattle.tr_region.specs.Rows.{IsNearest, in_band}
use Rattle.tr_region.proofs.BandRows.{int_cases}
use Rattle.tr_region.proofs.ColumnLemmas.{some_at, none_west}
use Rattle.tr_screen.specs.Pictures.{Picture, pixel_of}
use Rattle.tr_screen.specs.Runs.{in_run, in_rows, IsOn, IsRun, Repaints}
use Rattle.tr_screen.proofs.Repainting.{painted_more, repaints_by, repaints_none, repaints_same}
use Rattle.tr_screen.proofs.RunLemmas.{abs_is, there, tests_of_run}
use Rattle.tr_repair.specs.Walks.{in_columns, in_part, in_row, run_of}
use Rattle.tr_repair.proofs.WalkLemmas.{or_and, part_more, part_of_row, band_of_row, band_from, row_more, row_of_run, run_on}
use Rattle.tr_exec.specs.Walks.{AreOn, HasColumns, HasRow, Meets, in_area, in_columns_of}

-- a rectangle's run, cut to the columns of an area that has the row, holds the points of the run that lie in the area
pub run_cut : (area r : Edges) (v : ℕ) → HasRow area v → (p : Point) → in_run (run_of v (in_columns_of area r)) p ≡ in_area (in_run (run_of v r)) area p
run_cut area r v row p = ap (λ b. int_eq p.v (pos v) && b) (between-meet r.west area.west r.east area.east p.h) ∙ by_row (int_eq p.v (pos v)) refl
  where
    and_true : (b : Bool) → b ≡ b && true
    and_true true = refl
    and_true false = refl

    by_row : (t : Bool) → int_eq p.v (pos v) ≡ t →
        t && (between r.west r.east p.h && between area.west area.east p.h)
        ≡ (t && between r.west r.east p.h) && (between area.west area.east p.h && between area.north area.south p.v)
    by_row false e = refl
    by_row true e =
        let at : p.v ≡ pos v = (Decides-int_eq p.v (pos v)).0 e in
        let north = row.0 in
        let south = row.1 in
        let rows : between area.north area.south p.v ≡ true = grind (arith, ints) in
        rw rows (ap (λ b. between r.west r.east p.h && b) (and_true (between area.west area.east p.h)))

-- more rows
pub rows_paint : (test more : Point → Bool) (n m s : ℕ) (f : Point → ℕ → ℕ) (old mid new : Picture) →
    n ≤ m → m ≤ s →
    Repaints more (λ p. f p (pixel_of mid p)) mid new →
    ((p : Point) → more p ≡ in_part m s test p) →
    Repaints (in_part n m test) (λ p. f p (pixel_of old p)) old mid → Repaints (in_part n s test) (λ p. f p (pixel_of old p)) old new
rows_paint test more n m s f old mid new from to next same done =
    painted_more (in_part n m test) more (in_part n s test) f old mid new done next fresh (λ p on. rw (same p) (part_more test n m s p from to))
  where
    fresh : (p : Point) → IsOn old.size p → more p ≡ true → in_part n m test p ≡ false
    fresh p on t =
        let row = (and_parts (in_rows m s p) (test p) (sym (same p) ∙ t)).0 in
        and_left (in_rows n m p) (test p) (grind (arith, ints))

-- one more run of a row
module _ (v : ℕ) (rects : List Edges) (k : ℕ) (r : Edges)
    (is : r ≡ get_or rects k r) (lt : k < length rects) (apart : AreApart (spans_of rects))
    (area : Edges) (row : HasRow area v) where
  pub cut_within : (p : Point) → in_run (run_of v (in_columns_of area r)) p ≡ true → in_area (in_row v rects) area p ≡ true
  cut_within p t =
      let both = and_parts (in_run (run_of v r) p) (has_point area p) (sym (run_cut area r v row p) ∙ t) in
      and_from (in_row v rects p) (has_point area p) (row_of_run v rects k r lt p (subst (λ (e : Edges). in_run (run_of v e) p ≡ true) is both.0)) both.1

  pub cut_on : (size : Size) → Meets area r → AreOn size (in_area (in_row v rects) area) → IsRun size (run_of v (in_columns_of area r))
  cut_on size meets on = run_on size v (in_columns_of area r) some (λ p t. on p (cut_within p t))
    where
      less : (a b c d : ℤ) → a <ℤ b → c <ℤ d → c <ℤ b → a <ℤ d → int_max a c <ℤ int_min b d
      less a b c d h i j k = grind (arith, ints, clamps)

      across : r.west <ℤ r.east
      across = subst (λ (e : Edges). e.west <ℤ e.east) (sym is) (some_at rects k r apart lt)

      some : int_max r.west area.west <ℤ int_min r.east area.east
      some = less r.west r.east area.west area.east across row.2 meets.0 meets.1

  pub runs_paint : (f : Point → ℕ → ℕ) (old mid new : Picture) → Repaints (in_run (run_of v (in_columns_of area r))) (λ p. f p (pixel_of mid p)) mid new →
      Repaints (in_area (in_row v (take k rects)) area) (λ p. f p (pixel_of old p)) old mid →
      Repaints (in_area (in_row v (take (k + 1) rects)) area) (λ p. f p (pixel_of old p)) old new
  runs_paint f old mid new next done =
      painted_more (in_area (in_row v (take k rects)) area) (in_run (run_of v (in_columns_of area r)))
      (in_area (in_row v (take (k + 1) rects)) area) f old mid new done next fresh grown
    where
      fresh : (p : Point) → IsOn old.size p → in_run (run_of v (in_columns_of area r)) p ≡ true → in_area (in_row v (take k rects)) area p ≡ false
      fresh p on t =
          let run = (and_parts (in_run (run_of v r) p) (has_point area p) (sym (run_cut area r v row p) ∙ t)).0 in
          let at = tests_of_run (run_of v (get_or rects k r)) p (subst (λ (e : Edges). in_run (run_of v e) p ≡ true) is run) in
          and_left (in_row v (take k rects) p) (has_point area p)
          (and_right (int_eq p.v (pos v)) (in_columns (take k rects) p) (none_west rects k r p.h apart lt at.1))

      grown : (p : Point) → IsOn old.size p →
          in_area (in_row v (take (k + 1) rects)) area p
          ≡ in_run (run_of v (in_columns_of area r)) p || in_area (in_row v (take k rects)) area p
      grown p on =
          let more = row_more v rects k r lt p ∙ ap (λ (e : Edges). in_run (run_of v e) p || in_row v (take k rects) p) (sym is) in
          rw (run_cut area r v row p, more) (or_and (in_run (run_of v r) p) (in_row v (take k rects) p) (has_point area p))

-- no rectangle, no point
pub row_empty : (v : ℕ) (rects : List Edges) (area : Edges) (f : Point → ℕ) (old : Picture) → rects ≡ [] → Repaints (in_area (in_row v rects) area) f old old
row_empty v rects area f old none =
    repaints_none (in_area (in_row v rects) area) f old
    (λ p on. and_left (in_row v rects p) (has_point area p)
    (and_right (int_eq p.v (pos v)) (in_columns rects p) (ap (λ (es : List Edges). in_columns es p) none)))

-- rectangles that have the same columns in an area
module _ (rects row : List Edges) (area : Edges)
    (same : (x : ℤ) → area.west ≤ℤ x → x <ℤ area.east → in_spans (spans_of row) x ≡ in_spans (spans_of rects) x)
    (v : ℕ) where
  row_same : (p : Point) → in_area (in_row v row) area p ≡ in_area (in_row v rects) area p
  row_same p = by_area (has_point area p) refl
    where
      none : (a b : Bool) → a && false ≡ b && false
      none true true = refl
      none true false = refl
      none false true = refl
      none false false = refl

      by_area : (t : Bool) → has_point area p ≡ t → in_row v row p && t ≡ in_row v rects p && t
      by_area false e = none (in_row v row p) (in_row v rects p)
      by_area true e =
          let across = (and_parts (between area.west area.east p.h) (between area.north area.south p.v) e).0 in
          let west : area.west ≤ℤ p.h = grind (arith, ints) in
          let east : p.h <ℤ area.east = grind (arith, ints) in
          ap (λ b. (int_eq p.v (pos v) && b) && true) (same p.h west east)

  pub row_of_band : (p : Point) → in_area (in_row v row) area p ≡ in_part v (v + 1) (in_area (in_columns rects) area) p
  row_of_band p = row_same p ∙ ap (λ b. b && has_point area p) (part_of_row rects v p) ∙ and_assoc (in_rows v (v + 1) p) (in_columns rects p) (has_point area p)

  pub row_on : (size : Size) (n s : ℕ) → n ≤ v → v < s → AreOn size (in_area (in_band n s rects) area) → AreOn size (in_area (in_row v row) area)
  row_on size n s from to on p t =
      let both = and_parts (in_row v rects p) (has_point area p) (sym (row_same p) ∙ t) in
      on p (and_from (in_band n s rects p) (has_point area p) (band_of_row rects n s v p from to both.0) both.1)

-- a band of a region
module _ (region rects : List Edges) (area : Edges) (n north south : ℕ)
    (from : n ≤ north)
    (points : (p : Point) → pos n ≤ℤ p.v → p.v <ℤ pos south → holds region p ≡ in_band north south rects p) where
  pub band_in_area : (p : Point) → in_area (in_band north south rects) area p ≡ in_part n south (in_area (holds region) area) p
  band_in_area p =
      ap (λ b. b && has_point area p) (band_from region rects n north south from points p)
      ∙ and_assoc (in_rows n south p) (holds region p) (has_point area p)

  pub band_on : (size : Size) → AreOn size (in_area (holds region) area) → AreOn size (in_area (in_band north south rects) area)
  band_on size on p t = on p (and_parts (in_rows n south p) (in_area (holds region) area p) (sym (band_in_area p) ∙ t)).1

pub on_sized : (old mid : Size) (test : Point → Bool) → mid ≡ old → AreOn old test → AreOn mid test
on_sized old mid test same on = subst (λ (s : Size). AreOn s test) (sym same) on

-- the points of a walk over all rows of an area that the screen has
pub walk_whole : (test : Point → Bool) (area : Edges) (size : Size) (n s : ℕ) →
    IsNearest area.north 0 size.high n → IsNearest area.south 0 size.high s →
    (v : ℕ) → s ≤ v → (p : Point) → IsOn size p →
    in_area test area p ≡ in_part n v (in_area test area) p
walk_whole test area size n s north south v past p on = by_test (in_area test area p) refl
  where
    before : p.v <ℤ area.south → (pos s ≤ℤ p.v) ⊎ (p.v <ℤ pos s) → p.v <ℤ pos v
    before last (inr lt) = omega (arith, ints)
    before last (inl ge) = let at = there size p on in absurd (omega (arith, ints, (south.same p.v at.north at.south).1 ge))

    rows : has_point area p ≡ true → in_rows n v p ≡ true
    rows has =
        let down = (and_parts (between area.west area.east p.h) (between area.north area.south p.v) has).1 in
        let at = there size p on in
        let first : area.north ≤ℤ p.v = grind (arith, ints) in
        let last : p.v <ℤ area.south = grind (arith, ints) in
        let from : pos n ≤ℤ p.v = (north.same p.v at.north at.south).0 first in
        let to : p.v <ℤ pos v = before last (int_cases (pos s) p.v) in
        grind (arith, ints, from, to)

    by_test : (t : Bool) → in_area test area p ≡ t → t ≡ in_rows n v p && t
    by_test false e = sym (and_right (in_rows n v p) false refl)
    by_test true e = sym (and_from (in_rows n v p) true (rows ((and_parts (test p) (has_point area p) e).1)) refl)

-- the area has points in each of these rows of the screen
pub rows_had : (area : Edges) (high n s : ℕ) → area.west <ℤ area.east →
    IsNearest area.north 0 high n → IsNearest area.south 0 high s →
    (v : ℕ) → n ≤ v → v < s → HasRow area v
rows_had area high n s across north south v from to = (first, last (int_cases area.south (pos v)), across)
  where
    first : area.north ≤ℤ pos v
    first = (north.same (pos v) (omega (arith, ints)) (omega (arith, ints, south.to))).1 (omega (arith, ints))

    last : (area.south ≤ℤ pos v) ⊎ (pos v <ℤ area.south) → pos v <ℤ area.south
    last (inr lt) = lt
    last (inl ge) = absurd (omega (arith, ints, (south.same (pos v) (omega (arith, ints)) (omega (arith, ints, south.to))).0 ge))

-- the tests of a point that lies in some rows, and those by which a coordinate lies between two edges
rows_tests : (n s : ℕ) (p : Point) → in_rows n s p ≡ true → (pos n ≤ℤ p.v) × (p.v <ℤ pos s)
rows_tests n s p t = (grind (arith, ints), grind (arith, ints))

-- where the area and the one rectangle of a band have all columns of a screen, the band's points in the area are its rows
pub whole_rows : (size : Size) (rects : List Edges) (area r : Edges) (n s : ℕ) → HasColumns size.wide area → HasColumns size.wide r →
    ((x : ℤ) → area.west ≤ℤ x → x <ℤ area.east → in_spans (spans_of (r ∷ [])) x ≡ in_spans (spans_of rects) x) →
    ((v : ℕ) → n ≤ v → v < s → HasRow area v) →
    (p : Point) → IsOn size p → in_area (in_band n s rects) area p ≡ in_rows n s p
whole_rows size rects area r n s wide all columns rows p on = by_rows (in_rows n s p) refl
  where
    held : in_spans (spans_of rects) p.h ≡ true
    held =
        let at = there size p on in
        let west : area.west ≤ℤ p.h = omega (arith, ints, wide.0, at.west) in
        let east : p.h <ℤ area.east = omega (arith, ints, wide.1, at.east) in
        let first : r.west ≤ℤ p.h = omega (arith, ints, all.0, at.west) in
        let last : p.h <ℤ r.east = omega (arith, ints, all.1, at.east) in
        sym (columns p.h west east) ∙ rw (between-within r.west r.east p.h first last) refl

    has : in_rows n s p ≡ true → has_point area p ≡ true
    has t =
        let at = there size p on in
        let v = abs_is p.v at.north in
        let tests = rows_tests n s p t in
        let low : n ≤ unsigned_abs p.v = omega (arith, ints, v, tests.0) in
        let high : unsigned_abs p.v < s = omega (arith, ints, v, tests.1) in
        let row = rows (unsigned_abs p.v) low high in
        let west : area.west ≤ℤ p.h = omega (arith, ints, wide.0, at.west) in
        let east : p.h <ℤ area.east = omega (arith, ints, wide.1, at.east) in
        let north : area.north ≤ℤ p.v = omega (arith, ints, v, row.0) in
        let south : p.v <ℤ area.south = omega (arith, ints, v, row.1) in
        and_from (between area.west area.east p.h) (between area.north area.south p.v)
        (between-within area.west area.east p.h west east) (between-within area.north area.south p.v north south)

    by_rows : (t : Bool) → in_rows n s p ≡ t → in_area (in_band n s rects) area p ≡ t
    by_rows false e = and_left (in_band n s rects p) (has_point area p) (and_left (in_rows n s p) (in_columns rects p) e)
    by_rows true e = and_from (in_band n s rects p) (has_point area p) (and_from (in_rows n s p) (in_columns rects p) e held) (has e)

-- rows that were filled with what a brush gives each point are painted
pub rows_filled : (held : Point → Bool) (rows : Point → Bool) (x : ℕ) (f : Point → ℕ → ℕ) (old new : Picture) → Repaints rows (λ _. x) old new →
    ((p : Point) → IsOn old.size p → held p ≡ rows p) → ((p : Point) (pixel : ℕ) → f p pixel ≡ x) → Repaints held (λ p. f p (pixel_of old p)) old new
rows_filled held rows x f old new filled same one =
    repaints_by held (λ _. x) (λ p. f p (pixel_of old p)) old new (repaints_same rows held (λ _. x) old new filled same) (λ p t. sym (one p (pixel_of old p)))

-- a row of one rectangle is the list of that rectangle
pub one_rect : (row : List Edges) (i : ℕ) (r : Edges) → length row ≡ 1 → i ≡ 0 → r ≡ get_or row i r → row ≡ r ∷ []
one_rect [] i r one first is = absurd (omega (arith, one))
one_rect (x ∷ []) i r one first is = ap (λ (e : Edges). e ∷ []) (sym (is ∙ ap (λ k. get_or (x ∷ []) k r) first))
one_rect (x ∷ y ∷ rest) i r one first is = absurd (omega (arith, one))
