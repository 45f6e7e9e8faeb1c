-- 16 bytes looked at together: which of them aren't printable, and which is the first space.
use Rattle.std.proofs.Common.{◌≡◌, ℕ, zero, suc, ◌+◌, ◌*◌, ◌%◌, ◌^◌, ◌<◌, ◌≤◌, ◌||◌, ◌==◌, not, Bool, true, false, cond, ltb, List, [], ◌∷◌, Option, None, Some, map, length, get_or, replicate, bit_or, refl, sym, subst, ap, ap₂, ◌∙◌, arith, inl, inr}
use Rattle.std.specs.List.{list_all, prefix_len}
use Rattle.std.specs.Simd.Lanes.{zip2, chunk, mask_l, top}
use lib.Count.{count_trailing_zeros}
use Rattle.std.proofs.lemmas.Bool.{cases_lt, not-true, not-false, false≢true}
use Rattle.std.proofs.lemmas.Bool.Decides.{nat_tests}
use Rattle.std.proofs.lemmas.List.{length-map}
use Rattle.std.proofs.lemmas.List.Folds.{list_all_at}
use Rattle.std.proofs.lemmas.List.Sums.{list_all-from_AllPass}
use Rattle.std.proofs.lemmas.Simd.{length-chunk, mask_l-mod, trailing_mask_l, run_in_chunk_fails, run_in_chunk_stops, none_from_empty_mask}
use Rattle.memchr.specs.Find.{IsFirst, Nowhere, NoneBefore, Passes, is_byte}
use Rattle.tr_base.specs.Lines.{is_printable}
use Rattle.tr_base.proofs.LaneLemmas.{either_lane}
use Rattle.tr_base.proofs.BoolLemmas.{zero_by_test, some_by_test}
use Rattle.tr_words.specs.Answers.{is_unprintable}
use Rattle.tr_words.proofs.LineLemmas.{same_byte}

-- a test of two numbers, lane by lane
abbrev below : List ℕ → List ℕ → List ℕ
below = zip2 (λ a b. cond (ltb a b) 255 0)

unprintable_byte : (b : ℕ) → (ltb b 32 || ltb 126 b) ≡ is_unprintable b
unprintable_byte b = grind (arith, nat_tests)

unprintable_lanes : (xs : List ℕ) (n : ℕ) → length xs ≡ n →
    map (top 7) (zip2 bit_or (below xs (replicate n 32)) (below (replicate n 126) xs)) ≡ map is_unprintable xs
unprintable_lanes [] n long = refl
unprintable_lanes (x ∷ xs) zero long = absurd (omega arith)
unprintable_lanes (x ∷ xs) (suc n) long =
    ap₂ (λ t ts. t ∷ ts) (either_lane (ltb x 32) (ltb 126 x) ∙ unprintable_byte x) (unprintable_lanes xs n (omega arith))

-- the number whose bits say which of 16 bytes aren't printable
pub unprintable_bits : (at : ℕ) (xs : List ℕ) → at + 16 ≤ length xs →
    mask_l (map (top 7) (zip2 bit_or (below (chunk at 16 xs) (replicate 16 32)) (below (replicate 16 126) (chunk at 16 xs)))) % 2 ^ 64
    ≡ mask_l (map is_unprintable (chunk at 16 xs))
unprintable_bits at xs room =
    let here = chunk at 16 xs in
    let long : length here ≡ 16 = length-chunk at 16 xs room in
    ap (λ ms. mask_l ms % 2 ^ 64) (unprintable_lanes here 16 long)
    ∙ mask_l-mod (map is_unprintable here) 64 (omega (arith, length-map here is_unprintable, long))

set_lane : (b : Bool) (n m l : ℕ) → 0 < cond b 1 0 + 2 * n → (0 < n → m < l) → cond (not b) (1 + m) 0 < suc l
set_lane true n m l some next = omega arith
set_lane false n m l some next = omega (arith, next (omega arith))

-- where a bit is set, some lane passes the test
some_passes : (p : ℕ → Bool) (xs : List ℕ) → 0 < mask_l (map p xs) → prefix_len (λ x. not (p x)) xs < length xs
some_passes p [] some = absurd (omega arith)
some_passes p (x ∷ xs) some =
    set_lane (p x) (mask_l (map p xs)) (prefix_len (λ y. not (p y)) xs) (length xs) some (some_passes p xs)

-- ---- printable bytes

-- the bytes before n are printable
pub record PrintableBefore (xs : List ℕ) (n : ℕ) : Type 0 where
  pub each : (k : ℕ) → k < n → is_unprintable (get_or xs k 0) ≡ false

-- one of 16 bytes isn't
pub some_unprintable : (xs : List ℕ) (at : ℕ) → at + 16 ≤ length xs → not (mask_l (map is_unprintable (chunk at 16 xs)) == 0) ≡ true →
    list_all is_printable xs ≡ false
some_unprintable xs at room some =
    let here = chunk at 16 xs in
    let long : length here ≡ 16 = length-chunk at 16 xs room in
    let r = prefix_len (λ x. not (is_unprintable x)) here in
    let short : r < length here = some_passes is_unprintable here (some_by_test _ some) in
    let stops : is_unprintable (get_or xs (at + r) 0) ≡ true = run_in_chunk_stops is_unprintable xs at 16 r 0 room refl (omega arith) in
    list_all_at is_printable xs (at + r) 0 (omega arith) (not-true _ stops)

-- 16 bytes more are
pub printable_further : (xs : List ℕ) (at n next : ℕ) → at + 16 ≤ length xs → not (mask_l (map is_unprintable (chunk at 16 xs)) == 0) ≡ false →
    at ≤ n → next ≡ at + 16 → PrintableBefore xs n → PrintableBefore xs next
printable_further xs at n next room none le e so_far =
    record {
      each = λ k lt. elim (cases_lt k n) [
        | inl before ↦ so_far.each k before
        | inr behind ↦ none_from_empty_mask is_unprintable xs at 16 0 room (zero_by_test _ none) k (omega arith) (omega arith)
      ];
    }

all_printable : (xs : List ℕ) (n : ℕ) → n ≡ length xs → PrintableBefore xs n → list_all is_printable xs ≡ true
all_printable xs n whole so_far =
    list_all-from_AllPass is_printable xs (λ k d within. ap is_printable (same_byte xs k d within) ∙ not-false _ (so_far.each k (omega arith)))

-- the last 16 bytes decide
pub printable_last : (xs : List ℕ) (at n : ℕ) (unprintable : Bool) → at + 16 ≡ length xs → at ≤ n → PrintableBefore xs n →
    unprintable ≡ not (mask_l (map is_unprintable (chunk at 16 xs)) == 0) → not unprintable ≡ list_all is_printable xs
printable_last xs at n true whole le so_far e = sym (some_unprintable xs at (omega arith) (sym e))
printable_last xs at n false whole le so_far e =
    sym (all_printable xs (at + 16) whole (printable_further xs at n (at + 16) (omega arith) (sym e) le refl so_far))

-- ---- spaces

-- the lowest bit that is set is the first space of 16 bytes
pub lowest_space : (xs : List ℕ) (at spaces : ℕ) → at + 16 ≤ length xs → spaces ≡ mask_l (map (is_byte 32) (chunk at 16 xs)) → 0 < spaces →
    NoneBefore (Passes (is_byte 32) xs) at (at + 16) (at + count_trailing_zeros 64 spaces)
    × Passes (is_byte 32) xs (at + count_trailing_zeros 64 spaces)
lowest_space xs at spaces room e some =
    let here = chunk at 16 xs in
    let r = count_trailing_zeros 64 spaces in
    let long : length here ≡ 16 = length-chunk at 16 xs room in
    let set : 0 < mask_l (map (is_byte 32) here) = subst (λ n. 0 < n) e some in
    let counted : r ≡ prefix_len (λ x. not (is_byte 32 x)) here =
    ap (count_trailing_zeros 64) e ∙ trailing_mask_l (is_byte 32) 64 here (omega arith) set
    in
    let short : r < 16 = omega (arith, some_passes (is_byte 32) here set) in (
      record {
        low = omega arith;
        high = omega arith;
        before = λ k from to passes. false≢true (sym (run_in_chunk_fails (is_byte 32) xs at 16 r 0 room counted k from to) ∙ passes);
      },
      run_in_chunk_stops (is_byte 32) xs at 16 r 0 room counted short,
    )

-- where no bit is set, none of 16 bytes is one
pub no_space : (xs : List ℕ) (at spaces : ℕ) → at + 16 ≤ length xs → spaces ≡ mask_l (map (is_byte 32) (chunk at 16 xs)) → spaces ≡ 0 →
    Nowhere (Passes (is_byte 32) xs) at (at + 16)
no_space xs at spaces room e none k from to passes =
    false≢true (sym (none_from_empty_mask (is_byte 32) xs at 16 0 room (sym e ∙ none) k from to) ∙ passes)

-- behind a part that has none
pub nowhere_further : (P : ℕ → Type 0) (at n to next : ℕ) → at ≤ n → Nowhere P 0 n → Nowhere P at to → next ≡ to → Nowhere P 0 next
nowhere_further P at n to next le none more e k from lt =
    elim (cases_lt k n) [
      | inl before ↦ none k from before
      | inr behind ↦ more k (omega arith) (omega arith)
    ]

pub first_further : (P : ℕ → Type 0) (at n to end k : ℕ) → at ≤ n → to ≤ end → Nowhere P 0 n → NoneBefore P at to k → NoneBefore P 0 end k
first_further P at n to end k le within none found =
    record {
      low = omega arith;
      high = omega (arith, found.high);
      before = nowhere_further P at n k k le none found.before refl;
    }

pub first_of_last : (P : ℕ → Type 0) (at n to end : ℕ) (r : Option ℕ) → at ≤ n → to ≡ end → Nowhere P 0 n → IsFirst P at to r → IsFirst P 0 end r
first_of_last P at n to end None le e none found = nowhere_further P at n to end le none found (sym e)
first_of_last P at n to end (Some k) le e none found = (first_further P at n to end k le (omega arith) none found.0, found.1)
