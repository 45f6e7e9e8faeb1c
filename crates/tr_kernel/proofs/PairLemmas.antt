-- The pairs of two rows, and the numbers whose bits say which of 64 pairs differ.
use Rattle.std.proofs.Common.{◌≡◌, ℕ, zero, suc, ◌+◌, ◌%◌, ◌^◌, ◌<◌, ◌≤◌, not, true, false, eqb, eq-eqb, ne_eqb, eqb-true, Bool, cond, List, [], ◌∷◌, map, length, take, drop, get_or, zip, count_by, count_ones, take-add, w8, refl, sym, ap, ap₂, ◌∙◌, arith}
use Rattle.std.specs.Int.{bit_at}
use Rattle.std.proofs.lemmas.List.{length-map, get_or-map}
use Rattle.std.proofs.lemmas.Simd.{tops_compared, mask_l-mod, mask_l-lt, bit_mask_l, ones-mask_l, length-chunk, get_or-chunk}
use Rattle.std.proofs.lemmas.List.Sums.{sum_by-append}
use Rattle.std.proofs.lemmas.Slice.Zip.{length-zip, get_or-zip}
use Rattle.tr_base.proofs.BoolLemmas.{zero_by_test, some_by_test}
use lib.Lanes.{zip2, chunk, mask_l, top}
use Rattle.tr_kernel.specs.Differences.{differ}

no_ones : 0 ≡ count_ones 0
unfolding lib.Count.ones
no_ones = refl

zip-nil : (xs : List ℕ) → zip {X = ℕ} xs [] ≡ []
zip-nil [] = refl
zip-nil (x ∷ xs) = refl

take-zip : (n : ℕ) (xs ys : List ℕ) → take n (zip xs ys) ≡ zip (take n xs) (take n ys)
take-zip zero xs ys = refl
take-zip (suc n) [] ys = refl
take-zip (suc n) (x ∷ xs) [] = refl
take-zip (suc n) (x ∷ xs) (y ∷ ys) = ap (λ l. (x, y) ∷ l) (take-zip n xs ys)

drop-zip : (n : ℕ) (xs ys : List ℕ) → drop n (zip xs ys) ≡ zip (drop n xs) (drop n ys)
drop-zip zero xs ys = refl
drop-zip (suc n) [] ys = refl
drop-zip (suc n) (x ∷ xs) [] = sym (zip-nil (drop n xs))
drop-zip (suc n) (x ∷ xs) (y ∷ ys) = drop-zip n xs ys

chunk-zip : (i n : ℕ) (xs ys : List ℕ) → chunk i n (zip xs ys) ≡ zip (chunk i n xs) (chunk i n ys)
chunk-zip i n xs ys = ap (take n) (drop-zip i xs ys) ∙ take-zip n (drop i xs) (drop i ys)

zip2-differ : (xs ys : List ℕ) → zip2 (λ a b. not (eqb a b)) xs ys ≡ map differ (zip xs ys)
zip2-differ [] ys = refl
zip2-differ (x ∷ xs) [] = refl
zip2-differ (x ∷ xs) (y ∷ ys) = ap (λ l. not (eqb x y) ∷ l) (zip2-differ xs ys)

pub length_pairs : (a b : List ℕ) → length a ≡ length b → length (zip a b) ≡ length a
length_pairs a b same = length-zip a b ∙ omega arith

-- a pair differs, or doesn't
module _ (a b : List ℕ) (k : ℕ) (lt : k < length a) (same : length a ≡ length b) where
  pub differ_at : differ (get_or (zip a b) k (0, 0)) ≡ not (eqb (get_or a k 0) (get_or b k 0))
  differ_at = ap differ (get_or-zip a b k (0, 0) lt (omega arith))

  pub pair_differs : (get_or a k 0 ≡ get_or b k 0 → ⊥) → differ (get_or (zip a b) k (0, 0)) ≡ true
  pair_differs other = differ_at ∙ ap not (ne_eqb _ _ other)

  pub pair_agrees : get_or a k 0 ≡ get_or b k 0 → differ (get_or (zip a b) k (0, 0)) ≡ false
  pair_agrees equal = differ_at ∙ ap not (eq-eqb _ _ equal)

-- the bit for a test of two pixels
abbrev bit_of_test : Bool → ℕ
bit_of_test t = cond (not t) 1 0

by_test : (t : Bool) → bit_of_test t ≡ 0 → t ≡ true
by_test true e = refl
by_test false e = absurd (omega arith)

-- 64 pairs from `at` on
module _ (a b : List ℕ) (same : length a ≡ length b) (at : ℕ) (room : at + 64 ≤ length a) where
  abbrev pub differing : ℕ
  differing = mask_l (map differ (chunk at 64 (zip a b)))

  long : length (chunk at 64 (zip a b)) ≡ 64
  long = length-chunk at 64 (zip a b) (omega (arith, length_pairs a b same))

  -- the number that the lanes give
  pub bitmask-differing : mask_l (map (top 7) (zip2 (λ x y. cond (not (eqb x y)) 255 0) (chunk at 64 a) (chunk at 64 b))) % 2 ^ 64 ≡ differing
  bitmask-differing =
      ap (λ ms. mask_l ms % 2 ^ 64) (tops_compared w8 (λ x y. not (eqb x y)) (chunk at 64 a) (chunk at 64 b)
      ∙ zip2-differ (chunk at 64 a) (chunk at 64 b) ∙ ap (map differ) (sym (chunk-zip at 64 a b)))
      ∙ mask_l-mod (map differ (chunk at 64 (zip a b))) 64 (omega (arith, length-map (chunk at 64 (zip a b)) differ, long))

  pub differing_fits : differing < 2 ^ 64
  differing_fits =
      let count : length (map differ (chunk at 64 (zip a b))) ≡ 64 = length-map (chunk at 64 (zip a b)) differ ∙ long in
      rw count at (mask_l-lt (map differ (chunk at 64 (zip a b))))

  bit_of_pair : (j : ℕ) → j < 64 → bit_at differing j ≡ bit_of_test (eqb (get_or a (at + j) 0) (get_or b (at + j) 0))
  bit_of_pair j lt =
      bit_mask_l (map differ (chunk at 64 (zip a b))) j
      ∙ ap (λ t. cond t 1 0)
      (get_or-map differ (chunk at 64 (zip a b)) j (0, 0) false (omega (arith, long)) ∙ ap differ (get_or-chunk at 64 (zip a b) j (0, 0) lt)
      ∙ differ_at a b (at + j) (omega arith) same)

  -- where a bit is 0 the pair agrees, and where it is 1 the pair differs
  pub bit_agrees : (j : ℕ) → j < 64 → bit_at differing j ≡ 0 → get_or a (at + j) 0 ≡ get_or b (at + j) 0
  bit_agrees j lt e = eqb-true _ _ (by_test (eqb (get_or a (at + j) 0) (get_or b (at + j) 0)) (sym (bit_of_pair j lt) ∙ e))

  pub bit_differs : (j : ℕ) → j < 64 → bit_at differing j ≡ 1 → get_or a (at + j) 0 ≡ get_or b (at + j) 0 → ⊥
  bit_differs j lt e equal =
      let agreed : bit_at differing j ≡ 0 = bit_of_pair j lt ∙ ap bit_of_test (eq-eqb _ _ equal) in
      let both : zero ≡ suc zero = sym agreed ∙ e in
      absurd (omega arith)

  -- as many more differ as bits are set
  pub count_further : (count ones : ℕ) → count ≡ count_by differ (take at (zip a b)) → ones ≡ count_ones differing
      → count + ones ≡ count_by differ (take (at + 64) (zip a b))
  count_further count ones so_far e =
      ap₂ (λ n m. n + m) so_far (e ∙ ones-mask_l differ (chunk at 64 (zip a b)))
      ∙ sym (sum_by-append (λ x. cond (differ x) 1 0) (take at (zip a b)) (chunk at 64 (zip a b)))
      ∙ ap (count_by differ) (sym (take-add at 64 (zip a b)))

  -- where none of the 64 pairs differs the count stays
  pub no_further : (count : ℕ) → count ≡ count_by differ (take at (zip a b)) → differing ≡ 0
      → count ≡ count_by differ (take (at + 64) (zip a b))
  no_further count so_far none =
      let next = count_further count 0 so_far (no_ones ∙ ap count_ones (sym none)) in omega (arith, next)
