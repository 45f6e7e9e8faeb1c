-- A text whose cells are all visible.
use Rattle.std.proofs.Common.{◌≡◌, ℕ, ◌*◌, ◌-◌, ◌<◌, pos, ◌+ℤ◌, ◌≤ℤ◌, Bool, true, false, ◌&&◌, List, refl, ap, sym, ◌∙◌, arith}
use Rattle.std.proofs.lemmas.Int.{ints}
use Rattle.std.proofs.lemmas.Bool.{and_from, and_right}
use Rattle.tr_base.specs.declared.Point.{Point}
use Rattle.tr_base.specs.declared.Size.{Size}
use Rattle.tr_base.specs.Rects.{Edges, between, has_point}
use Rattle.tr_base.proofs.RectLemmas.{has_point-rect_of}
use Rattle.tr_base.proofs.RectFacts.{between-within}
use Rattle.tr_region.specs.Points.{holds}
use Rattle.tr_screen.specs.Letters.{first_row, in_letters}
use Rattle.tr_screen.specs.Runs.{IsRun}
use Rattle.tr_screen.proofs.RunLemmas.{IsThere, there}
use Rattle.tr_paint.specs.Paints.{cells_of}
use Rattle.tr_exec.specs.Walks.{AreOn, in_area}

module _ (visible : List Edges) (area : Edges) (at : Point) (count : ℕ) (some : 0 < count) (cells : area ≡ cells_of at count)
    (all : (p : Point) → has_point area p ≡ true → holds visible p ≡ true) where
  area_is : (p : Point) → has_point area p ≡ in_letters at count p
  area_is p = ap (λ (r : Edges). has_point r p) cells ∙ has_point-rect_of at.h (at.h +ℤ pos (8 * count)) at.v (at.v +ℤ pos 8) p

  -- the visible points of the area are those of the letters
  pub visible_cells : (p : Point) → in_area (holds visible) area p ≡ in_letters at count p
  visible_cells p = by_area (has_point area p) refl ∙ area_is p
    where
      by_area : (t : Bool) → has_point area p ≡ t → holds visible p && has_point area p ≡ has_point area p
      by_area true e = and_from (holds visible p) (has_point area p) (all p e) e ∙ sym e
      by_area false e = and_right (holds visible p) (has_point area p) e ∙ sym e

  module _ (size : Size) (on : AreOn size (in_area (holds visible) area)) where
    at_corner : (h v : ℕ) → h < 8 * count → v < 8 → IsThere size (record { h = at.h +ℤ pos h; v = at.v +ℤ pos v })
    at_corner h v lh lv =
        let p : Point = record { h = at.h +ℤ pos h; v = at.v +ℤ pos v } in
        let across = between-within at.h (at.h +ℤ pos (8 * count)) (at.h +ℤ pos h) (omega (arith, ints)) (omega (arith, ints, lh)) in
        let down = between-within at.v (at.v +ℤ pos 8) (at.v +ℤ pos v) (omega (arith, ints)) (omega (arith, ints, lv)) in
        there size p (on p (visible_cells p
        ∙ and_from (between at.h (at.h +ℤ pos (8 * count)) (at.h +ℤ pos h)) (between at.v (at.v +ℤ pos 8) (at.v +ℤ pos v)) across down))

    -- the letters lie on the screen
    pub first_on : IsRun size (first_row at count)
    first_on =
        let near = at_corner 0 0 (omega (arith, some)) (omega arith) in
        let far = at_corner (8 * count - 1) 7 (omega (arith, some)) (omega arith) in
        record {
          north = omega (arith, ints, near.north);
          south = omega (arith, ints, near.south);
          west = omega (arith, ints, near.west);
          some = omega (arith, ints, some);
          east = omega (arith, ints, far.east, some);
        }

    pub last_on : (at.v +ℤ pos 8) ≤ℤ pos size.high
    last_on = let far = at_corner (8 * count - 1) 7 (omega (arith, some)) (omega arith) in omega (arith, ints, far.south)
