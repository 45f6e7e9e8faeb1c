-- Pixels that lie row after row, and what becomes of the rows when one of them is written.
use Rattle.std.proofs.Common.{◌≡◌, ℕ, zero, suc, ◌+◌, ◌*◌, ◌-◌, ◌<◌, ◌≤◌, List, [], ◌∷◌, ◌++◌, length, take, drop, get_or, set, replicate, refl, sym, ap, ◌∙◌, arith}
use Rattle.std.proofs.Math.Nat.{zero-mul, suc-mul}
use Rattle.std.proofs.lemmas.List.{length-append, length-take-le, length-drop, take-append-drop, take_all, take_at, drop_at, drop-drop, drop-take, take-take, take-append-le, drop-append-le, take-replicate, drop-replicate, get_or-take, get_or-drop}
use Rattle.std.specs.List.{concat}
use Rattle.std.specs.Prelude.{IsTrue, slice_index, unsigned_abs}
use Rattle.std.specs.Simd.{first_chunks}
use Rattle.tr_base.specs.declared.ops.Kind.{Kind}
use Rattle.tr_base.specs.declared.points.Point.{Point}
use Rattle.tr_base.specs.declared.sizes.Size.{Size}
use Rattle.tr_base.specs.Rects.{has_point, whole_of, IsScreenSize}
use Rattle.tr_base.proofs.PlaceLemmas.{row_fits, in_whole}
use Rattle.tr_screen.specs.Pictures.{IsPicture, filled_of, row_of, pixel_of, with_row, picture_of, written_at, overwritten}

pub length-first_chunks : {X : Type 0} (n k : ℕ) (xs : List X) → length (first_chunks n k xs) ≡ k
length-first_chunks n zero xs = refl
length-first_chunks n (suc k) xs = ap (λ j. suc j) (length-first_chunks n k (drop n xs))

-- row v begins after v rows
pub get_or-first_chunks : {X : Type 0} (n k : ℕ) (xs : List X) (v : ℕ) (d : List X) → v < k → get_or (first_chunks n k xs) v d ≡ take n (drop (v * n) xs)
get_or-first_chunks n zero xs v d h = absurd (omega arith)
get_or-first_chunks n (suc k) xs zero d h = rw (zero-mul n) refl
get_or-first_chunks n (suc k) xs (suc v) d h =
    let moved : drop (suc v * n) xs ≡ drop (v * n) (drop n xs) = ap (λ j. drop j xs) (omega (arith, suc-mul v n)) ∙ sym (drop-drop (v * n) n xs) in
    rw moved (get_or-first_chunks n k (drop n xs) v d (omega arith))

-- the rows hold all pixels
pub concat-first_chunks : (n k : ℕ) (xs : List ℕ) → length xs ≡ k * n → concat (first_chunks n k xs) ≡ xs
concat-first_chunks n zero [] h = refl
concat-first_chunks n zero (x ∷ xs) h = absurd (omega (arith, zero-mul n))
concat-first_chunks n (suc k) xs h =
    let rest : length (drop n xs) ≡ k * n = omega (arith, length-drop n xs, suc-mul k n) in
    rw (concat-first_chunks n k (drop n xs) rest) (take-append-drop n xs)

pub first_chunks-replicate : {X : Type 0} (n k : ℕ) (x : X) → first_chunks n k (replicate (k * n) x) ≡ replicate k (replicate n x)
first_chunks-replicate n zero x = refl
first_chunks-replicate n (suc k) x =
    let first : take n (replicate (suc k * n) x) ≡ replicate n x = take-replicate n (suc k * n) x (omega (arith, suc-mul k n)) in
    let rest : drop n (replicate (suc k * n) x) ≡ replicate (k * n) x = drop-replicate n (suc k * n) x ∙ ap (λ j. replicate j x) (omega (arith, suc-mul k n)) in
    rw (first, rest, first_chunks-replicate n k x) refl

-- a row that is written over replaces that row alone
pub first_chunks-written : {X : Type 0} (n k v : ℕ) (xs w : List X) → v < k → length xs ≡ k * n → length w ≡ n →
    first_chunks n k (take (v * n) xs ++ (w ++ drop (v * n + n) xs)) ≡ set (first_chunks n k xs) v w
first_chunks-written n zero v xs w below long same = absurd (omega arith)
first_chunks-written n (suc k) zero xs w below long same =
    let after : drop (0 + n) xs ≡ drop n xs = ap (λ j. drop j xs) (omega arith) in
    rw (zero-mul n, after, take_at w (drop n xs) n same, drop_at w (drop n xs) n same) refl
first_chunks-written {X} n (suc k) (suc v) xs w below long same =
    let place : suc v * n ≡ n + v * n = omega (arith, suc-mul v n) in
    let ys = drop n xs in
    let tail : List X = w ++ drop (n + v * n + n) xs in
    let fits : n + v * n ≤ length xs = omega (arith, suc-mul k n, row_fits n k v (omega arith)) in
    let front_long : length (take (n + v * n) xs) ≡ n + v * n = length-take-le (n + v * n) xs fits in
    let first : take n (take (n + v * n) xs ++ tail) ≡ take n xs =
    take-append-le n (take (n + v * n) xs) tail (omega arith) ∙ take-take n (n + v * n) xs (omega arith) in
    let rest : drop n (take (n + v * n) xs ++ tail) ≡ take (v * n) ys ++ tail =
    drop-append-le n (take (n + v * n) xs) tail (omega arith) ∙ ap (λ l. l ++ tail) (drop-take n (v * n) xs) in
    let after : drop (n + v * n + n) xs ≡ drop (v * n + n) ys = ap (λ j. drop j xs) (omega arith) ∙ sym (drop-drop (v * n + n) n xs) in
    let ys_long : length ys ≡ k * n = omega (arith, length-drop n xs, suc-mul k n) in
    rw (place, first, rest, after) (ap (λ l. take n xs ∷ l) (first_chunks-written n k v ys w (omega arith) ys_long same))

-- what a Vec of n items holds after w was written over it from place i on
pub written_at-is : (xs w : List ℕ) (n i : ℕ) → n ≡ length xs → i ≤ n →
    (let ys : List ℕ = take i xs ++ (w ++ drop (length w) (drop i xs)) in take n (ys ++ drop (length ys) xs) ≡ written_at xs i w)
written_at-is xs w n i long within =
    let ys : List ℕ = take i xs ++ (w ++ drop (length w) (drop i xs)) in
    let covers : n ≤ length ys =
    omega (
      arith,
      length-append (take i xs) (w ++ drop (length w) (drop i xs)),
      length-append w (drop (length w) (drop i xs)),
      length-drop (length w) (drop i xs),
      length-drop i xs,
      length-take-le i xs (omega arith),
    ) in
    let same : ys ≡ take i xs ++ (w ++ drop (i + length w) xs) = ap (λ l. take i xs ++ (w ++ l)) (drop-drop (length w) i xs) in
    take-append-le n ys (drop (length ys) xs) covers ∙ ap (λ l. take n l) same ∙ ap (λ m. take m (take i xs ++ (w ++ drop (i + length w) xs))) long

pub picture_of-replicate : (size : Size) (kind : Kind) (pixel : ℕ) (pixels : List ℕ) →
    pixels ≡ replicate (size.high * size.wide) pixel → picture_of size kind pixels ≡ filled_of size kind pixel
picture_of-replicate size kind pixel pixels same =
    ap (λ l. picture_of size kind l) same ∙ ap (λ rows. record { size = size; kind = kind; rows = rows }) (first_chunks-replicate size.wide size.high pixel)

module _ (size : Size) (kind : Kind) (pixels : List ℕ) where
  -- the rows of a screen's pixels are those of a screen
  pub IsPicture-picture_of : IsScreenSize size → length pixels ≡ size.high * size.wide → IsPicture (picture_of size kind pixels)
  IsPicture-picture_of within long = record {
    size = within;
    high = length-first_chunks size.wide size.high pixels;
    wide = λ v d below.
        let count = length-first_chunks size.wide size.high pixels in
        let row = get_or-first_chunks size.wide size.high pixels v d (omega arith) in
        let fits = row_fits size.wide size.high v (omega arith) in
        ap (λ l. length l) row ∙ length-take-le size.wide (drop (v * size.wide) pixels) (omega (arith, length-drop (v * size.wide) pixels));
  }

  pub row_of-picture_of : (v : ℕ) → v < size.high → row_of (picture_of size kind pixels) v ≡ take size.wide (drop (v * size.wide) pixels)
  row_of-picture_of v below = get_or-first_chunks size.wide size.high pixels v [] below

  pub length-row_of-picture_of : (v : ℕ) → v < size.high → length pixels ≡ size.high * size.wide → length (row_of (picture_of size kind pixels) v) ≡ size.wide
  length-row_of-picture_of v below long =
      let fits = row_fits size.wide size.high v below in
      ap (λ l. length l) (row_of-picture_of v below)
      ∙ length-take-le size.wide (drop (v * size.wide) pixels) (omega (arith, length-drop (v * size.wide) pixels))

  -- the range of pixels that is row v
  pub row_of-range : (v a n : ℕ) (row : List ℕ) →
      v < size.high → a ≡ v → n ≡ size.wide → row ≡ take (a * n + n - a * n) (drop (a * n) pixels) →
      row ≡ row_of (picture_of size kind pixels) v
  row_of-range v a n row below at wide held =
      let count : v * size.wide + size.wide - v * size.wide ≡ size.wide = omega arith in
      rw (row_of-picture_of v below) (rw (at, wide, count) at held)

  -- the place of a point's pixel
  pub pixel_of-picture_of : (p : Point) → IsTrue (has_point (whole_of size) p) →
      pixel_of (picture_of size kind pixels) p ≡ slice_index pixels (unsigned_abs p.v * size.wide + unsigned_abs p.h)
  pixel_of-picture_of p on =
      let start : ℕ = unsigned_abs p.v * size.wide in
      ap (λ l. slice_index l (unsigned_abs p.h)) (row_of-picture_of (unsigned_abs p.v) (in_whole size p on).0)
      ∙ get_or-take size.wide (drop start pixels) (unsigned_abs p.h) 0 (in_whole size p on).1 ∙ get_or-drop start pixels (unsigned_abs p.h) 0

  pub overwritten-picture_of : (v : ℕ) (w : List ℕ) → length pixels ≡ size.high * size.wide →
      overwritten (picture_of size kind pixels) v w ≡ picture_of size kind (written_at pixels (v * size.wide) w)
  unfolding overwritten
  overwritten-picture_of v w long = ap (λ l. picture_of size kind (written_at l (v * size.wide) w)) (concat-first_chunks size.wide size.high pixels long)

  -- a row that is written over by one of its length is replaced
  pub overwritten-with_row : (v : ℕ) (w : List ℕ) → v < size.high → length pixels ≡ size.high * size.wide → length w ≡ size.wide →
      overwritten (picture_of size kind pixels) v w ≡ with_row (picture_of size kind pixels) v w
  overwritten-with_row v w below long same =
      let front : List ℕ = take (v * size.wide) pixels in
      let ys : List ℕ = front ++ (w ++ drop (v * size.wide + length w) pixels) in
      let fits = row_fits size.wide size.high v below in
      let whole : length ys ≡ length pixels =
      omega (
        arith,
        length-append front (w ++ drop (v * size.wide + length w) pixels),
        length-append w (drop (v * size.wide + length w) pixels),
        length-drop (v * size.wide + length w) pixels,
        length-take-le (v * size.wide) pixels (omega arith),
      ) in
      let kept : written_at pixels (v * size.wide) w ≡ ys = take_all (length pixels) ys (omega arith) in
      let at : ys ≡ front ++ (w ++ drop (v * size.wide + size.wide) pixels) = ap (λ m. front ++ (w ++ drop (v * size.wide + m) pixels)) same in
      overwritten-picture_of v w long ∙ ap (λ l. picture_of size kind l) (kept ∙ at)
      ∙ ap (λ rows. record { size = size; kind = kind; rows = rows }) (first_chunks-written size.wide size.high v pixels w below long same)

  -- what is lent of a screen's pixels is written over its picture
  pub overwritten-view : (v n : ℕ) (w : List ℕ) → v < size.high → n ≡ length pixels → n ≡ size.high * size.wide →
      (let i : ℕ = v * size.wide in let ys : List ℕ = take i pixels ++ (w ++ drop (length w) (drop i pixels)) in
      picture_of size kind (take n (ys ++ drop (length ys) pixels)) ≡ overwritten (picture_of size kind pixels) v w)
  overwritten-view v n w below long count =
      let fits = row_fits size.wide size.high v below in
      ap (λ l. picture_of size kind l) (written_at-is pixels w n (v * size.wide) long (omega arith)) ∙ sym (overwritten-picture_of v w (omega arith))
