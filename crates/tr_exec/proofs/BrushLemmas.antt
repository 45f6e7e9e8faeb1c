-- Runs of an area, counted from the corner of what is painted there.
use Rattle.std.proofs.Common.{◌≡◌, ℕ, ℤ, pos, ◌+ℤ◌, ◌-ℤ◌, ◌≤ℤ◌, ◌<ℤ◌, true, refl, sym, ◌∙◌, arith}
use Rattle.std.specs.Prelude.{unsigned_abs}
use Rattle.std.proofs.lemmas.Int.{ints}
use Rattle.tr_base.specs.declared.Point.{Point}
use Rattle.tr_base.specs.Rects.{Edges, InReach, between, has_point, rect_of, before_shift}
use Rattle.tr_base.proofs.RectLemmas.{has_point-rect_of}
use Rattle.std.proofs.lemmas.Bool.{and_parts}
use Rattle.tr_exec.proofs.PlacedLemmas.{points}
use Rattle.tr_exec.specs.Strokes.{east_of}
use Rattle.tr_screen.specs.declared.Run.{Run}
use Rattle.tr_screen.specs.Runs.{in_run, point_in, width_of}

-- a point of the run, by its place there
pub held : (r : Run) (k : ℕ) → (r.west +ℤ pos k) <ℤ r.east → in_run r (point_in r k) ≡ true
held r k lt = grind (arith, ints)

-- a run of an area whose edges are within reach is within reach
pub run_in_reach : (r : Run) (a : Edges) → r.west <ℤ r.east → ((p : Point) → in_run r p ≡ true → has_point a p ≡ true) →
    InReach a.west → InReach a.east → InReach a.north → InReach a.south → InReach r.west × InReach r.v
run_in_reach r a some within west east north south =
    let on = within (point_in r 0) (held r 0 (omega (arith, ints, some))) in
    let h = sides (r.west +ℤ pos 0) r.v on in (
      record { low = omega (arith, ints, h.0, west.low); high = omega (arith, ints, h.1, east.high) },
      record { low = omega (arith, ints, h.2, north.low); high = omega (arith, ints, h.3, south.high) },
    )
  where
    sides : (h v : ℤ) → has_point a (record { h = h; v = v }) ≡ true → (a.west ≤ℤ h) × (h <ℤ a.east) × (a.north ≤ℤ v) × (v <ℤ a.south)
    sides h v on = (grind (arith, ints), grind (arith, ints), grind (arith, ints), grind (arith, ints))

-- the points of a run lie within a picture of wide columns and high rows, whose corner is at `at`
pub record IsInPicture (wide high : ℕ) (s : Point) (n : ℕ) : Type 0 where
  pub west : pos 0 ≤ℤ s.h
  pub east : (s.h +ℤ pos n) ≤ℤ pos wide
  pub north : pos 0 ≤ℤ s.v
  pub south : s.v <ℤ pos high

-- a run of an area of which the picture has all points
pub run_in_picture : (r : Run) (a : Edges) (at : Point) (wide high : ℕ) → r.west <ℤ r.east → ((p : Point) → in_run r p ≡ true → has_point a p ≡ true) →
    ((p : Point) → has_point a p ≡ true → has_point (rect_of (pos 0) (pos wide) (pos 0) (pos high)) (before_shift p at) ≡ true) →
    IsInPicture wide high (before_shift (point_in r 0) at) (width_of r)
run_in_picture r a at wide high some within all =
    let first = inside (point_in r 0) (held r 0 (omega (arith, ints, some))) in
    let last = inside (record { h = r.east -ℤ pos 1; v = r.v }) (last_held some) in
    let edge : ((r.east -ℤ pos 1) -ℤ at.h) <ℤ pos wide = lt wide _ last.0 in
    let length : pos (unsigned_abs (r.east -ℤ r.west)) ≡ r.east -ℤ r.west = long r.west r.east some in
    record {
      west = ge wide _ first.0;
      east = omega (arith, ints, edge, length);
      north = ge high _ first.1;
      south = lt high _ first.1;
    }
  where
    inside : (p : Point) → in_run r p ≡ true → (between (pos 0) (pos wide) (p.h -ℤ at.h) ≡ true) × (between (pos 0) (pos high) (p.v -ℤ at.v) ≡ true)
    inside p on = and_parts _ _ (sym (has_point-rect_of (pos 0) (pos wide) (pos 0) (pos high) (before_shift p at)) ∙ all p (within p on))

    last_held : r.west <ℤ r.east → in_run r (record { h = r.east -ℤ pos 1; v = r.v }) ≡ true
    last_held lt = grind (arith, ints)

    ge : (n : ℕ) (x : ℤ) → between (pos 0) (pos n) x ≡ true → pos 0 ≤ℤ x
    ge n x on = grind (arith, ints)

    lt : (n : ℕ) (x : ℤ) → between (pos 0) (pos n) x ≡ true → x <ℤ pos n
    lt n x on = grind (arith, ints)

    long : (x y : ℤ) → x <ℤ y → pos (unsigned_abs (y -ℤ x)) ≡ y -ℤ x
    long x y h = abs (y -ℤ x) (omega (arith, ints, h))
      where
        abs : (z : ℤ) → pos 0 ≤ℤ z → pos (unsigned_abs z) ≡ z
        abs z h = grind (arith, ints)

-- further east in the run is further east in the picture
pub east-is : (r : Run) (at : Point) (k : ℕ) → east_of (before_shift (point_in r 0) at) k ≡ before_shift (point_in r k) at
east-is r at k = points _ _ _ _ (omega (arith, ints)) refl
