-- What is moved next reads nothing that was written.
use Rattle.std.proofs.Common.{◌≡◌, ℕ, ◌+◌, ◌-◌, ◌<◌, ◌≤◌, inl, inr, ℤ, pos, ◌≤ℤ◌, ◌<ℤ◌, ◌-ℤ◌, Bool, true, false, ◌&&◌, List, [], take, drop, get_or, length, refl, sym, ◌∙◌, ap, add-one, subst, arith}
use Rattle.std.specs.Ordering.{int_eq}
use Rattle.std.proofs.lemmas.Int.{ints}
use Rattle.std.proofs.lemmas.Bool.{and_parts, and_from, and_left, and_right}
use Rattle.tr_base.specs.declared.points.Point.{Point}
use Rattle.tr_base.specs.declared.sizes.Size.{Size}
use Rattle.tr_base.specs.Rects.{Edges, before_shift}
use Rattle.tr_region.specs.Bands.{AreApart, spans_of}
use Rattle.tr_region.specs.Rows.{in_band}
use Rattle.tr_region.proofs.ColumnLemmas.{some_at, none_west, none_east}
use Rattle.tr_screen.specs.Pictures.{Picture, pixel_of}
use Rattle.tr_screen.specs.Runs.{in_run, in_rows, run_before, IsOn, IsRun, Repaints}
use Rattle.tr_screen.proofs.Repainting.{moved_more, repaints_none}
use Rattle.tr_screen.proofs.RunLemmas.{there, test_of_run, tests_of_run}
use Rattle.tr_repair.specs.Walks.{in_columns, in_part, in_row, run_of}
use Rattle.tr_repair.specs.Moves.{MovesOn, IsForth, IsBack, HasAllColumns}
use Rattle.tr_repair.proofs.WalkLemmas.{part_more, part_more_north, row_more, row_more_west, row_of_run, run_on}

-- what is asked of more points is asked of fewer
pub moves_fewer : (size : Size) (delta : Point) (test fewer : Point → Bool) →
    MovesOn size delta test → ((p : Point) → fewer p ≡ true → test p ≡ true) →
    MovesOn size delta fewer
moves_fewer size delta test fewer moves within = λ p t. moves p (within p t)

pub moves_sized : (old mid : Size) (delta : Point) (test : Point → Bool) → mid ≡ old → MovesOn old delta test → MovesOn mid delta test
moves_sized old mid delta test same moves = subst (λ (s : Size). MovesOn s delta test) (sym same) moves

forth_rises : (delta : Point) → IsForth delta → delta.v ≤ℤ pos 0
forth_rises delta (inl h) = omega (arith, ints)
forth_rises delta (inr h) = omega (arith, ints, h.0)

back_falls : (delta : Point) → IsBack delta → pos 0 ≤ℤ delta.v
back_falls delta (inl h) = omega (arith, ints)
back_falls delta (inr h) = omega (arith, ints, h.0)

-- a run whose points can be moved, and the run that they come from, are on the screen
pub run_moves : (size : Size) (delta : Point) (v : ℕ) (r : Edges) →
    r.west <ℤ r.east → MovesOn size delta (in_run (run_of v r)) →
    IsRun size (run_of v r) × IsRun size (run_before (run_of v r) delta)
run_moves size delta v r some moves =
    let first : Point = record { h = r.west; v = pos v } in
    let last : Point = record { h = r.east -ℤ pos 1; v = pos v } in
    let f = moves first (test_of_run (run_of v r) first refl (omega (arith, ints)) some) in
    let l = moves last (test_of_run (run_of v r) last refl (omega (arith, ints)) (omega (arith, ints))) in
    let c = there size (before_shift first delta) f.1 in
    let d = there size (before_shift last delta) l.1 in (
      run_on size v r some (λ p t. (moves p t).0),
      record { north = c.north; south = c.south; west = c.west; some = omega (arith, ints); east = omega (arith, ints, d.east) },
    )

int_eq-beyond : (x y : ℤ) → y <ℤ x → int_eq x y ≡ false
int_eq-beyond x y h = grind (arith, ints)

int_eq-below : (x y : ℤ) → x <ℤ y → int_eq x y ≡ false
int_eq-below x y h = grind (arith, ints)

-- more rows
module _ (test more : Point → Bool) (n m s : ℕ) (delta : Point) (old mid new : Picture)
    (moves : MovesOn old.size delta more)
    (next : Repaints more (λ p. pixel_of mid (before_shift p delta)) mid new)
    (order : n ≤ m) (order' : m ≤ s) where
  pub rows_forth :
      IsForth delta → ((p : Point) → more p ≡ in_part m s test p) →
      Repaints (in_part n m test) (λ p. pixel_of old (before_shift p delta)) old mid →
      Repaints (in_part n s test) (λ p. pixel_of old (before_shift p delta)) old new
  rows_forth way same done =
      moved_more (in_part n m test) more (in_part n s test) delta old mid new done next unread
      (λ p on. rw (same p) (part_more test n m s p order order'))
    where
      unread : (p : Point) → IsOn old.size p → more p ≡ true → IsOn old.size (before_shift p delta) × (in_part n m test (before_shift p delta) ≡ false)
      unread p on t =
          let both = and_parts (in_rows m s p) (test p) (sym (same p) ∙ t) in
          let row = both.0 in
          let rises = forth_rises delta way in
          let from : pos m ≤ℤ p.v = grind (arith, ints) in
          let past : pos m ≤ℤ (p.v -ℤ delta.v) = omega (arith, ints) in
          ((moves p t).1, and_left (in_rows n m (before_shift p delta)) (test (before_shift p delta)) (grind (arith, ints)))

  pub rows_back :
      IsBack delta → ((p : Point) → more p ≡ in_part n m test p) →
      Repaints (in_part m s test) (λ p. pixel_of old (before_shift p delta)) old mid →
      Repaints (in_part n s test) (λ p. pixel_of old (before_shift p delta)) old new
  rows_back way same done =
      moved_more (in_part m s test) more (in_part n s test) delta old mid new done next unread
      (λ p on. rw (same p) (part_more_north test n m s p order order'))
    where
      unread : (p : Point) → IsOn old.size p → more p ≡ true → IsOn old.size (before_shift p delta) × (in_part m s test (before_shift p delta) ≡ false)
      unread p on t =
          let both = and_parts (in_rows n m p) (test p) (sym (same p) ∙ t) in
          let row = both.0 in
          let falls = back_falls delta way in
          let to : p.v <ℤ pos m = grind (arith, ints) in
          let before : (p.v -ℤ delta.v) <ℤ pos m = omega (arith, ints) in
          ((moves p t).1, and_left (in_rows m s (before_shift p delta)) (test (before_shift p delta)) (grind (arith, ints)))

-- one more run of a row
module _ (v : ℕ) (rects : List Edges) (k : ℕ) (r : Edges) (is : r ≡ get_or rects k r) (lt : k < length rects) (apart : AreApart (spans_of rects)) where
  pub run_some : r.west <ℤ r.east
  run_some = subst (λ (e : Edges). e.west <ℤ e.east) (sym is) (some_at rects k r apart lt)

  pub run_in_row : (p : Point) → in_run (run_of v r) p ≡ true → in_row v rects p ≡ true
  run_in_row p t = row_of_run v rects k r lt p (subst (λ (e : Edges). in_run (run_of v e) p ≡ true) is t)

  module _ (delta : Point) (old mid new : Picture)
      (moves : MovesOn old.size delta (in_row v rects))
      (next : Repaints (in_run (run_of v r)) (λ p. pixel_of mid (before_shift p delta)) mid new) where
    run : Edges
    run = get_or rects k r

    here : Repaints (in_run (run_of v (get_or rects k r))) (λ p. pixel_of mid (before_shift p delta)) mid new
    here = subst (λ (e : Edges). Repaints (in_run (run_of v e)) (λ p. pixel_of mid (before_shift p delta)) mid new) is next

    pub runs_forth : IsForth delta →
        Repaints (in_row v (take k rects)) (λ p. pixel_of old (before_shift p delta)) old mid →
        Repaints (in_row v (take (k + 1) rects)) (λ p. pixel_of old (before_shift p delta)) old new
    runs_forth way done =
        moved_more (in_row v (take k rects)) (in_run (run_of v (get_or rects k r))) (in_row v (take (k + 1) rects))
        delta old mid new done here
        (λ p on t. ((moves p (row_of_run v rects k r lt p t)).1, unread p way (tests_of_run (run_of v (get_or rects k r)) p t)))
        (λ p on. row_more v rects k r lt p)
      where
        unread : (p : Point) → IsForth delta →
            (p.v ≡ pos v) × ((get_or rects k r).west ≤ℤ p.h) × (p.h <ℤ (get_or rects k r).east) →
            in_row v (take k rects) (before_shift p delta) ≡ false
        unread p (inl north) at =
            let row : p.v ≡ pos v = at.0 in
            and_left (int_eq (p.v -ℤ delta.v) (pos v)) (in_columns (take k rects) (before_shift p delta))
            (int_eq-beyond (p.v -ℤ delta.v) (pos v) (omega (arith, ints)))
        unread p (inr level) at =
            and_right (int_eq (p.v -ℤ delta.v) (pos v)) (in_columns (take k rects) (before_shift p delta))
            (none_west rects k r (p.h -ℤ delta.h) apart lt (omega (arith, ints, level.1, at.1)))

    pub runs_back : IsBack delta →
        Repaints (in_row v (drop (k + 1) rects)) (λ p. pixel_of old (before_shift p delta)) old mid →
        Repaints (in_row v (drop k rects)) (λ p. pixel_of old (before_shift p delta)) old new
    runs_back way done =
        moved_more (in_row v (drop (k + 1) rects)) (in_run (run_of v (get_or rects k r))) (in_row v (drop k rects))
        delta old mid new done here
        (λ p on t. ((moves p (row_of_run v rects k r lt p t)).1, unread p way (tests_of_run (run_of v (get_or rects k r)) p t)))
        (λ p on. row_more_west v rects k r lt p)
      where
        unread : (p : Point) → IsBack delta →
            (p.v ≡ pos v) × ((get_or rects k r).west ≤ℤ p.h) × (p.h <ℤ (get_or rects k r).east) →
            in_row v (drop (k + 1) rects) (before_shift p delta) ≡ false
        unread p (inl south) at =
            let row : p.v ≡ pos v = at.0 in
            and_left (int_eq (p.v -ℤ delta.v) (pos v)) (in_columns (drop (k + 1) rects) (before_shift p delta))
            (int_eq-below (p.v -ℤ delta.v) (pos v) (omega (arith, ints)))
        unread p (inr level) at =
            and_right (int_eq (p.v -ℤ delta.v) (pos v)) (in_columns (drop (k + 1) rects) (before_shift p delta))
            (rw add-one (none_east rects k r (p.h -ℤ delta.h) apart lt (omega (arith, ints, level.1, at.2))))

-- no rectangle, no point
pub row_none : (v : ℕ) (rects : List Edges) (f : Point → ℕ) (old : Picture) → rects ≡ [] → Repaints (in_row v rects) f old old
row_none v rects f old none =
    repaints_none (in_row v rects) f old
    (λ p on. and_right (int_eq p.v (pos v)) (in_columns rects p) (ap (λ (es : List Edges). in_columns es p) none))

-- whole rows: delta leads straight north or south, and the rows that they come from are on the screen
module _ (size : Size) (delta : Point) (rects : List Edges) (north south : ℕ)
    (wide : 1 ≤ size.wide) (some : north < south) (all : HasAllColumns size rects)
    (moves : MovesOn size delta (in_band north south rects)) where
  band_has : (h : ℤ) (v : ℕ) → pos 0 ≤ℤ h → h <ℤ pos size.wide → north ≤ v → v < south →
      (let p : Point = record { h = h; v = pos v } in in_band north south rects p ≡ true)
  band_has h v west east low high =
      let p : Point = record { h = h; v = pos v } in
      and_from (in_rows north south p) (in_columns rects p) (grind (arith, ints)) (all h west east)

  pub rows_straight : delta.h ≡ pos 0
  rows_straight =
      let first : Point = record { h = pos 0; v = pos north } in
      let last : Point = record { h = pos size.wide -ℤ pos 1; v = pos north } in
      let a = there size (before_shift first delta) (moves first (band_has (pos 0) north (omega (arith, ints)) (omega (arith, ints)) (omega arith) some)).1 in
      let b = there size (before_shift last delta)
      (moves last (band_has (pos size.wide -ℤ pos 1) north (omega (arith, ints)) (omega (arith, ints)) (omega arith) some)).1 in
      omega (arith, ints, a.west, b.east)

  pub rows_from_north : pos 0 ≤ℤ (pos north -ℤ delta.v)
  rows_from_north =
      let first : Point = record { h = pos 0; v = pos north } in
      (there size (before_shift first delta) (moves first (band_has (pos 0) north (omega (arith, ints)) (omega (arith, ints)) (omega arith) some)).1).north

  pub rows_from_south : (pos south -ℤ delta.v) ≤ℤ pos size.high
  rows_from_south = by_last (south - 1) (omega arith)
    where
      by_last : (v : ℕ) → south ≡ v + 1 → (pos south -ℤ delta.v) ≤ℤ pos size.high
      by_last v is =
          let last : Point = record { h = pos 0; v = pos v } in
          let a = there size (before_shift last delta)
          (moves last (band_has (pos 0) v (omega (arith, ints)) (omega (arith, ints)) (omega arith) (omega arith))).1 in
          omega (arith, ints, a.south)

pub rows_whole : (size : Size) (rects : List Edges) (north south : ℕ) →
    HasAllColumns size rects →
    (p : Point) → IsOn size p → in_band north south rects p ≡ in_rows north south p
rows_whole size rects north south all p on =
    let at = there size p on in
    let has : in_columns rects p ≡ true = all p.h at.west at.east in
    rw has (and_true (in_rows north south p))
  where
    and_true : (b : Bool) → b && true ≡ b
    and_true true = refl
    and_true false = refl
