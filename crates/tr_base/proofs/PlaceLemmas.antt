-- Pixels that lie row after row: where the pixel of a point lies among them.
use Rattle.std.proofs.Common.{◌≡◌, ℕ, ◌+◌, ◌*◌, ◌<◌, ◌≤◌, ℤ, pos, true, IsTrue, arith, refl, ◌∙◌}
use Rattle.std.specs.Prelude.{negsuc, unsigned_abs}
use Rattle.std.proofs.lemmas.Nat.{rows}
use Rattle.std.proofs.lemmas.Int.{ints}
use Rattle.std.proofs.lemmas.Bool.{and_parts}
use Rattle.tr_base.specs.declared.points.Point.{Point}
use Rattle.tr_base.specs.declared.sizes.Size.{Size}
use Rattle.tr_base.specs.Rects.{has_point, whole_of, between}
use Rattle.tr_base.proofs.RectLemmas.{has_point-rect_of}

-- the place of row v, of n pixels, when there are k rows
pub row_fits : (n k v : ℕ) → v < k → v * n + n ≤ k * n
row_fits n k v h = grind (arith, rows)

-- a coordinate from 0 on, and before n
from_zero : (n : ℕ) (x : ℤ) → between (pos 0) (pos n) x ≡ true → unsigned_abs x < n
from_zero n (pos a) h = grind (arith, ints)
from_zero n (negsuc a) h = cc

-- a point of a window of this size has its row and its column there
pub in_whole : (size : Size) (p : Point) → IsTrue (has_point (whole_of size) p) → (unsigned_abs p.v < size.high) × (unsigned_abs p.h < size.wide)
in_whole size p on =
    let both = and_parts _ _ (rw (has_point-rect_of (pos 0) (pos size.wide) (pos 0) (pos size.high) p) at on) in
    (from_zero size.high p.v both.1, from_zero size.wide p.h both.0)

-- the place of a point's pixel is one of the places
pub place_fits : (size : Size) (p : Point) → IsTrue (has_point (whole_of size) p) → unsigned_abs p.v * size.wide + unsigned_abs p.h < size.high * size.wide
place_fits size p on =
    let at = in_whole size p on in
    let below : unsigned_abs p.v < size.high = at.0 in
    let within : unsigned_abs p.h < size.wide = at.1 in
    omega (arith, row_fits size.wide size.high (unsigned_abs p.v) below)

-- a row and a column of a window make a point of it
pub whole_has : (size : Size) (h v : ℕ) → h < size.wide → v < size.high → has_point (whole_of size) (record { h = pos h; v = pos v }) ≡ true
whole_has size h v left above =
    has_point-rect_of (pos 0) (pos size.wide) (pos 0) (pos size.high) (record { h = pos h; v = pos v })
    ∙ rw (within h size.wide left, within v size.high above) refl
  where
    within : (x n : ℕ) → x < n → between (pos 0) (pos n) (pos x) ≡ true
    within x n lt = grind (arith, ints)
