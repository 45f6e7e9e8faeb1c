-- Letters on a screen: the places of their pixels, and the points that change.
use Rattle.std.proofs.Common.{◌≡◌, ℕ, ◌+◌, ◌*◌, ◌<◌, ◌≤◌, ◌⊎◌, inl, inr, List, get_or, refl, sym, ap, ◌∙◌, arith}
use Rattle.std.specs.Prelude.{ℤ, pos, ◌+ℤ◌, ◌-ℤ◌, ◌≤ℤ◌, ◌<ℤ◌, Bool, true, false, cond, unsigned_abs}
use Rattle.std.proofs.Math.Nat.{add-mul}
use Rattle.std.proofs.lemmas.Int.{ints}
use Rattle.std.proofs.lemmas.Bool.{and_parts, and_from, cases_order, cases_lt, true≢false}
use Rattle.tr_base.specs.declared.ops.Kind.{Kind}
use Rattle.tr_base.specs.declared.points.Point.{Point}
use Rattle.tr_base.specs.declared.sizes.Size.{Size}
use Rattle.tr_base.specs.Rects.{between}
use Rattle.tr_base.proofs.PlaceLemmas.{row_fits, in_whole}
use Rattle.tr_base.proofs.RectFacts.{between-within}
use Rattle.tr_kernel.specs.Blocks.{AreWritten}
use Rattle.tr_screen.specs.Pictures.{pixel_of, picture_of}
use Rattle.tr_screen.specs.Runs.{pixel_index, start_of, IsOn, IsRun, Repaints}
use Rattle.tr_screen.specs.Letters.{first_row, in_letters}
use Rattle.tr_screen.proofs.PictureLemmas.{pixel_of-picture_of}
use Rattle.tr_screen.proofs.RunLemmas.{abs_is, there}

-- what the test of two edges says
tests_of : (a b x : ℤ) → between a b x ≡ true → (a ≤ℤ x) × (x <ℤ b)
tests_of a b x t = (grind (arith, ints), grind (arith, ints))

module _ (size : Size) (at : Point) (count : ℕ) (first : IsRun size (first_row at count)) (last : (at.v +ℤ pos 8) ≤ℤ pos size.high) where
  north : at.v ≡ pos (unsigned_abs at.v)
  north = abs_is at.v first.north

  west : at.h ≡ pos (unsigned_abs at.h)
  west = abs_is at.h first.west

  -- no letter lies beyond the east edge
  across : unsigned_abs at.h + 8 * count ≤ size.wide
  across = omega (arith, ints, west, first.east)

  -- the place of a point is none of those of row v of the letters
  abbrev IsBeside : Point → ℕ → Type 0
  IsBeside p v =
      (pixel_index size p < start_of size (first_row at count) + v * size.wide)
      ⊎ (start_of size (first_row at count) + v * size.wide + 8 * count ≤ pixel_index size p)

  -- all rows of the letters have room
  pub letters_fit : start_of size (first_row at count) + 7 * size.wide + 8 * count ≤ size.high * size.wide
  letters_fit =
      let south : unsigned_abs at.v + 7 < size.high = omega (arith, ints, north, last) in
      omega (arith, across, row_fits size.wide size.high (unsigned_abs at.v + 7) south, add-mul (unsigned_abs at.v) 7 size.wide)

  pub letters_narrow : 8 * count ≤ size.wide
  letters_narrow = omega (arith, across)

  -- the points of the letters get their pixels, and all others keep theirs
  pub letters_paint : (kind : Kind) (f : ℕ → ℕ → ℕ) (old new : List ℕ) →
      AreWritten f (record { start = start_of size (first_row at count); stride = size.wide }) (8 * count) 8 old new →
      Repaints (in_letters at count) (λ p. f (unsigned_abs (p.v -ℤ at.v)) (unsigned_abs (p.h -ℤ at.h))) (picture_of size kind old) (picture_of size kind new)
  letters_paint kind f old new h =
      record { size = refl; kind = refl; points = λ p on. pixel_of-picture_of size kind new p on ∙ by_test p on (in_letters at count p) refl }
    where
      inside : (p : Point) → IsOn size p → in_letters at count p ≡ true →
          get_or new (pixel_index size p) 0 ≡ f (unsigned_abs (p.v -ℤ at.v)) (unsigned_abs (p.h -ℤ at.h))
      inside p on t =
          let both = and_parts (between at.h (at.h +ℤ pos (8 * count)) p.h) (between at.v (at.v +ℤ pos 8) p.v) t in
          let h_in = tests_of at.h (at.h +ℤ pos (8 * count)) p.h both.0 in
          let v_in = tests_of at.v (at.v +ℤ pos 8) p.v both.1 in
          let on_it = there size p on in
          let v : ℕ = unsigned_abs (p.v -ℤ at.v) in
          let k : ℕ = unsigned_abs (p.h -ℤ at.h) in
          let v_is : p.v -ℤ at.v ≡ pos v = abs_is (p.v -ℤ at.v) (omega (arith, ints, v_in.0)) in
          let k_is : p.h -ℤ at.h ≡ pos k = abs_is (p.h -ℤ at.h) (omega (arith, ints, h_in.0)) in
          let row : unsigned_abs p.v ≡ unsigned_abs at.v + v = omega (arith, ints, abs_is p.v on_it.north, north, v_is) in
          let column : unsigned_abs p.h ≡ unsigned_abs at.h + k = omega (arith, ints, abs_is p.h on_it.west, west, k_is) in
          let rows : unsigned_abs p.v * size.wide ≡ unsigned_abs at.v * size.wide + v * size.wide =
          ap (λ n. n * size.wide) row ∙ add-mul (unsigned_abs at.v) v size.wide in
          let here : pixel_index size p ≡ start_of size (first_row at count) + v * size.wide + k = omega (arith, rows, column) in
          ap (λ i. get_or new i 0) here ∙ h.written v k (omega (arith, ints, v_is, v_in.1)) (omega (arith, ints, k_is, h_in.1))

      beside : (p : Point) → IsOn size p → in_letters at count p ≡ false → (v : ℕ) → v < 8 →
          IsBeside p v
      beside p on t v lv = by_row (cases_order (unsigned_abs p.v) (unsigned_abs at.v + v))
        where
          w : ℕ
          w = size.wide

          row : ℕ
          row = unsigned_abs at.v + v

          rows : row * w ≡ unsigned_abs at.v * w + v * w
          rows = add-mul (unsigned_abs at.v) v w

          column : unsigned_abs p.h < w
          column = (in_whole size p on).1

          by_column : unsigned_abs p.v ≡ row → (unsigned_abs p.h < unsigned_abs at.h) ⊎ (unsigned_abs at.h ≤ unsigned_abs p.h) →
              (unsigned_abs p.h < unsigned_abs at.h + 8 * count) ⊎ (unsigned_abs at.h + 8 * count ≤ unsigned_abs p.h) →
              IsBeside p v
          by_column e (inl lt) other = let same : unsigned_abs p.v * w ≡ row * w = ap (λ n. n * w) e in inl (omega (arith, same, rows, lt))
          by_column e (inr ge) (inr past) = let same : unsigned_abs p.v * w ≡ row * w = ap (λ n. n * w) e in inr (omega (arith, same, rows, past))
          by_column e (inr ge) (inl lt) =
              let on_it = there size p on in
              let v_is = abs_is p.v on_it.north in
              let h_is = abs_is p.h on_it.west in
              let across_it =
              between-within at.h (at.h +ℤ pos (8 * count)) p.h (omega (arith, ints, h_is, west, ge)) (omega (arith, ints, h_is, west, lt)) in
              let down_it = between-within at.v (at.v +ℤ pos 8) p.v (omega (arith, ints, v_is, north, e)) (omega (arith, ints, v_is, north, e, lv)) in
              absurd (true≢false (sym (and_from (between at.h (at.h +ℤ pos (8 * count)) p.h) (between at.v (at.v +ℤ pos 8) p.v) across_it down_it) ∙ t))

          by_row : (unsigned_abs p.v ≡ row) ⊎ ((unsigned_abs p.v < row) ⊎ (row < unsigned_abs p.v)) →
              IsBeside p v
          by_row (inl e) = by_column e (cases_lt (unsigned_abs p.h) (unsigned_abs at.h)) (cases_lt (unsigned_abs p.h) (unsigned_abs at.h + 8 * count))
          by_row (inr (inl lt)) = inl (omega (arith, row_fits w row (unsigned_abs p.v) lt, rows, column))
          by_row (inr (inr gt)) = inr (omega (arith, row_fits w (unsigned_abs p.v) row gt, rows, across))

      by_test : (p : Point) → IsOn size p → (t : Bool) → in_letters at count p ≡ t →
          get_or new (pixel_index size p) 0 ≡ cond t (f (unsigned_abs (p.v -ℤ at.v)) (unsigned_abs (p.h -ℤ at.h))) (pixel_of (picture_of size kind old) p)
      by_test p on true t = inside p on t
      by_test p on false t = h.others (pixel_index size p) (beside p on t) ∙ sym (pixel_of-picture_of size kind old p on)
