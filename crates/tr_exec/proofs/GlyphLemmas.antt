-- The rows of glyphs, as they are put down eight cells at a time.
use Rattle.std.proofs.Common.{◌≡◌, ℕ, ◌+◌, ◌-◌, ◌*◌, ◌/◌, ◌%◌, ◌<◌, ◌≤◌, List, ◌++◌, map, length, drop, get_or, replicate, refl, ap, ◌∙◌, sym, arith, append-nil, length-drop, take_all, inl, inr}
use Rattle.std.specs.List.{range_with_len}
use Rattle.std.proofs.lemmas.List.{drop_all, get_or-take, get_or-drop, length-take-le}
use Rattle.std.proofs.lemmas.List.FromFn.{get_or-map-range_with_len, fill_by_all}
use Rattle.std.proofs.lemmas.Simd.{put_chunk_is, length-chunk, get_or-chunk, get_or-put_chunk_below, get_or-put_chunk_at, get_or-put_chunk_above}
use Rattle.std.proofs.lemmas.Bool.{cases_lt}
use borrow.Rule.Slice.PartMut.{mid_of, put_mid}
use lib.Lanes.{chunk, put_chunk}
use Rattle.tr_exec.specs.Strokes.{by_turns}

-- a vector that is put into what lies from a place on is put at that place
pub put_at : (n at : ℕ) (xs ys : List ℕ) → length xs ≡ n → at + length ys ≤ n
    → put_mid at (n - at) xs (put_chunk 0 (mid_of at (n - at) xs) ys) ≡ put_chunk at xs ys
put_at n at xs ys long le =
    let left = length-drop at xs in
    rw (
      take_all (n - at) (drop at xs) (omega (arith, left)),
      put_chunk_is 0 (drop at xs) ys (omega (arith, left)),
      drop_all (n - at) (drop at xs) (omega (arith, left)),
      append-nil,
      put_chunk_is at xs ys (omega arith),
    ) refl

-- 32 lanes as a list
abbrev by_lane : (ℕ → ℕ) → List ℕ
by_lane f = map f (range_with_len 0 32)

lanes_of : (xs : List ℕ) → length xs ≡ 32 → xs ≡ by_lane (λ k. get_or xs k 0)
lanes_of xs long = fill_by_all (λ k. get_or xs k 0) xs 32 0 long (λ k lt. refl)

abbrev both_put : List ℕ → List ℕ → List ℕ
both_put a b = put_chunk 32 (put_chunk 0 (replicate 64 0) a) b

lanes_put : (f g : ℕ → ℕ) → both_put (by_lane f) (by_lane g) ≡ by_lane f ++ by_lane g
lanes_put f g = refl

-- two halves that are put where they belong
pub halves_put : (a b : List ℕ) → length a ≡ 32 → length b ≡ 32 → both_put a b ≡ a ++ b
halves_put a b long_a long_b = rw (lanes_of a long_a, lanes_of b long_b) (lanes_put (λ k. get_or a k 0) (λ k. get_or b k 0))

-- two halves as a whole
abbrev pub all_of : List ℕ × List ℕ → List ℕ
all_of x = x.0 ++ x.1

-- as the function `turned` leaves them
abbrev pub turn : List ℕ × List ℕ → List ℕ × List ℕ
turn x = (by_turns (all_of x) 0, by_turns (all_of x) 32)

-- three times the halves are taken by turns
abbrev pub exchange : List ℕ → List ℕ
exchange xs = all_of (turn (turn (turn (chunk 0 32 xs, chunk 32 32 xs))))

exchange_is : (f : ℕ → ℕ) → exchange (map f (range_with_len 0 64)) ≡ map (λ i. f (8 * (i % 8) + i / 8)) (range_with_len 0 64)
exchange_is f = refl

pub exchanged_at : (xs : List ℕ) → length xs ≡ 64 → (v k : ℕ) → v < 8 → k < 8 → get_or (exchange xs) (8 * v + k) 0 ≡ get_or xs (8 * k + v) 0
exchanged_at xs long v k lv lk =
    let f = λ (i : ℕ). get_or xs i 0 in
    let made = ap exchange (fill_by_all f xs 64 0 long (λ k lt. refl)) ∙ exchange_is f in
    ap (λ l. get_or l (8 * v + k) 0) made
    ∙ get_or-map-range_with_len (λ i. f (8 * (i % 8) + i / 8)) 0 64 (8 * v + k) (8 * v + k) 0 (omega arith) (omega arith)
    ∙ ap f (omega arith)

-- the glyphs of the first i letters lie one behind another
abbrev pub AreGlyphsTo : (ℕ → List ℕ) → List ℕ → ℕ → Type 0
AreGlyphsTo glyph bits i = (k v : ℕ) → k < i → v < 8 → get_or bits (8 * k + v) 0 ≡ get_or (glyph k) v 0

pub one_glyph : (glyph : ℕ → List ℕ) (bits row : List ℕ) (i : ℕ) → AreGlyphsTo glyph bits i → row ≡ glyph i → length row ≡ 8 → 8 * i + 8 ≤ length bits
    → AreGlyphsTo glyph (put_chunk (8 * i) bits row) (i + 1)
one_glyph glyph bits row i so_far is long within k v below lv = elim (cases_lt k i) [
  | inl earlier ↦ get_or-put_chunk_below (8 * i) bits row (8 * k + v) 0 (omega arith) ∙ so_far k v earlier lv
  | inr not_earlier ↦
      let at : i ≡ k = omega arith in
      ap (λ j. get_or (put_chunk (8 * i) bits row) (8 * j + v) 0) (sym at)
      ∙ get_or-put_chunk_at (8 * i) bits row v 0 (omega arith) (omega arith) ∙ ap (λ l. get_or l v 0) is ∙ ap (λ j. get_or (glyph j) v 0) at
]

-- the rows of eight glyphs
pub record AreColumns (glyphs rows : List ℕ) : Type 0 where
  pub long : length rows ≡ 64
  pub each : (v k : ℕ) → v < 8 → k < 8 → get_or rows (8 * v + k) 0 ≡ get_or glyphs (8 * k + v) 0

-- the cells from `at` on have the first v rows of eight glyphs, and the cells before them are old
pub record IsPutTo (glyphs old bits : List ℕ) (at v : ℕ) : Type 0 where
  pub put : (u k : ℕ) → u < v → k < 8 → get_or bits (80 * u + (at + k)) 0 ≡ get_or glyphs (8 * k + u) 0
  pub before : (u k : ℕ) → k < at → get_or bits (80 * u + k) 0 ≡ get_or old (80 * u + k) 0

pub one_put : (glyphs old bits rows : List ℕ) (at v : ℕ) → IsPutTo glyphs old bits at v → at + 8 ≤ 80 → v < 8 → length bits ≡ 640 → AreColumns glyphs rows
    → IsPutTo glyphs old (put_chunk (80 * v + at) bits (chunk 0 8 (mid_of (8 * v) (64 - 8 * v) rows))) at (v + 1)
one_put glyphs old bits rows at v so_far room lv long exchanged = record { put = put; before = before }
  where
    rest : List ℕ
    rest = mid_of (8 * v) (64 - 8 * v) rows

    row : List ℕ
    row = chunk 0 8 rest

    row_long : length row ≡ 8
    row_long =
        let left = length-drop (8 * v) rows in
        length-chunk 0 8 rest (omega (arith, length-take-le (64 - 8 * v) (drop (8 * v) rows) (omega (arith, exchanged.long, left))))

    lane : (k : ℕ) → k < 8 → get_or row k 0 ≡ get_or rows (8 * v + k) 0
    lane k lt =
        let from_zero : 0 + k ≡ k = omega arith in
        get_or-chunk 0 8 rest k 0 lt ∙ ap (λ i. get_or rest i 0) from_zero
        ∙ get_or-take (64 - 8 * v) (drop (8 * v) rows) k 0 (omega arith) ∙ get_or-drop (8 * v) rows k 0

    put : (u k : ℕ) → u < v + 1 → k < 8 → get_or (put_chunk (80 * v + at) bits row) (80 * u + (at + k)) 0 ≡ get_or glyphs (8 * k + u) 0
    put u k below lk = elim (cases_lt u v) [
      | inl earlier ↦ get_or-put_chunk_below (80 * v + at) bits row (80 * u + (at + k)) 0 (omega arith) ∙ so_far.put u k earlier lk
      | inr not_earlier ↦
          let same : 80 * u + (at + k) ≡ 80 * v + at + k = omega arith in
          let here : v ≡ u = omega arith in
          ap (λ i. get_or (put_chunk (80 * v + at) bits row) i 0) same
          ∙ get_or-put_chunk_at (80 * v + at) bits row k 0 (omega (arith, row_long)) (omega (arith, row_long)) ∙ lane k lk
          ∙ exchanged.each v k lv lk ∙ ap (λ w. get_or glyphs (8 * k + w) 0) here
    ]

    before : (u k : ℕ) → k < at → get_or (put_chunk (80 * v + at) bits row) (80 * u + k) 0 ≡ get_or old (80 * u + k) 0
    before u k lt = elim (cases_lt v u) [
      | inl above ↦ get_or-put_chunk_above (80 * v + at) bits row (80 * u + k) 0 (omega (arith, row_long)) ∙ so_far.before u k lt
      | inr not_above ↦ get_or-put_chunk_below (80 * v + at) bits row (80 * u + k) 0 (omega arith) ∙ so_far.before u k lt
    ]

-- the first n cells have their glyphs' rows
abbrev pub AreRowsTo : List ℕ → List ℕ → ℕ → Type 0
AreRowsTo glyphs bits n = (v k : ℕ) → v < 8 → k < n → get_or bits (80 * v + k) 0 ≡ get_or glyphs (8 * k + v) 0

pub eight_more : (glyphs old bits : List ℕ) (i : ℕ) → AreRowsTo glyphs old (8 * i)
    → ((v k : ℕ) → v < 8 → k < 8 → get_or bits (80 * v + (8 * i + k)) 0 ≡ get_or (mid_of (64 * i) (64 * i + 64 - 64 * i) glyphs) (8 * k + v) 0)
    → ((v k : ℕ) → k < 8 * i → get_or bits (80 * v + k) 0 ≡ get_or old (80 * v + k) 0) → AreRowsTo glyphs bits (8 * (i + 1))
eight_more glyphs old bits i so_far put before v k lv below = elim (cases_lt k (8 * i)) [
  | inl earlier ↦ before v k earlier ∙ so_far v k lv earlier
  | inr not_earlier ↦
      let j = k - 8 * i in
      let same : 80 * v + k ≡ 80 * v + (8 * i + j) = omega arith in
      let here : 64 * i + (8 * j + v) ≡ 8 * k + v = omega arith in
      ap (λ n. get_or bits n 0) same ∙ put v j lv (omega arith)
      ∙ get_or-take (64 * i + 64 - 64 * i) (drop (64 * i) glyphs) (8 * j + v) 0 (omega arith)
      ∙ get_or-drop (64 * i) glyphs (8 * j + v) 0 ∙ ap (λ n. get_or glyphs n 0) here
]
