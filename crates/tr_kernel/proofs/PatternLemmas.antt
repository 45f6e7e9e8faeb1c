-- The lanes that hold the bits of 16 pixels.
use Rattle.std.proofs.Common.{◌≡◌, ℕ, zero, suc, ◌+◌, ◌-◌, ◌*◌, ◌/◌, ◌%◌, ◌^◌, ◌<◌, ◌≤◌, ◌==◌, true, not, cond, eqb, eqb-true, eq-eqb, ne_eqb, List, ◌++◌, map, length, take, drop, get_or, replicate, bit_and, refl, ap, ◌∙◌, arith, pow_pos}
use Rattle.std.specs.Int.{bit_at}
use Rattle.std.proofs.lemmas.Bool.{agree_below_at}
use Rattle.std.proofs.lemmas.List.{get_or-take, get_or-drop, length-take-le, length-drop}
use Rattle.std.proofs.lemmas.List.FromFn.{fill_by_all}
use Rattle.std.proofs.lemmas.Nat.Bits.{and_pow, bit_at-lt}
use Rattle.std.proofs.lemmas.Simd.{zip2_of_maps, pick_l_left, length-chunk, get_or-chunk}
use borrow.Rule.Slice.PartMut.{mid_of}
use lib.Lanes.{zip2, sel_l, pick_l, chunk, top}
use Rattle.tr_base.specs.Tiles.{is_set}
use Rattle.tr_kernel.specs.Masks.{bit_in_cells}
use Rattle.tr_kernel.specs.declared.patterns.TheConstants.{BITS, CELLS}
use Rattle.tr_kernel.proofs.LaneLemmas.{sixteen, lanes_made, lane_made, sel_of_maps, same_lanes, equal_lanes, splat_made}

-- the lanes that are read from a table of 24 numbers at p
abbrev pub window : ℕ → List ℕ → List ℕ
window p table = chunk 0 16 (mid_of p (24 - p) table)

window_made : (f : ℕ → ℕ) (table : List ℕ) (p : ℕ) → length table ≡ 24 → p ≤ 8 → ((i : ℕ) → i < 24 → get_or table i 0 ≡ f i)
    → window p table ≡ map (λ k. f (p + k)) sixteen
window_made f table p long le each =
    let left = take (24 - p) (drop p table) in
    let enough : 16 ≤ length left = omega (arith, length-take-le (24 - p) (drop p table), length-drop p table) in
    fill_by_all (λ k. f (p + k)) (window p table) 16 0 (length-take-le 16 left enough)
    (λ k lt. get_or-take 16 left k 0 lt ∙ get_or-take (24 - p) (drop p table) k 0 (omega arith) ∙ get_or-drop p table k 0 ∙ each (p + k) (omega arith))

-- a bit of a byte is set, as the lanes test it
tested : (n k : ℕ) → eqb (bit_and n (2 ^ k)) 0 ≡ not (bit_at n k == 1)
tested n k = ap (λ m. eqb m 0) (and_pow n k) ∙ by_value (bit_at n k) (bit_at-lt n k)
  where
    by_value : (b : ℕ) → b < 2 → eqb (b * 2 ^ k) 0 ≡ not (b == 1)
    by_value zero lt = eq-eqb (0 * 2 ^ k) 0 (omega arith)
    by_value (suc zero) lt = ne_eqb _ _ (λ e. omega (arith, pow_pos k))
    by_value (suc (suc b)) lt = absurd (omega arith)

-- the bit of a place
abbrev bit_value : ℕ → ℕ
bit_value i = 2 ^ (7 - i % 8)

bits_made : (p : ℕ) → p ≤ 8 → window p BITS ≡ map (λ k. bit_value (p + k)) sixteen
bits_made p le = window_made bit_value BITS p refl le (λ i lt. eqb-true _ _ (agree_below_at (λ j. eqb (get_or BITS j 0) (bit_value j))
    (λ _. true) 24 i refl lt))

-- which of three bytes a place lies in
numbers_made : (p : ℕ) → p ≤ 8 → window p CELLS ≡ map (λ k. (p + k) / 8) sixteen
numbers_made p le = window_made (λ i. i / 8) CELLS p refl le (λ i lt. eqb-true _ _ (agree_below_at (λ j. eqb (get_or CELLS j 0) (j / 8))
    (λ _. true) 24 i refl lt))

-- the lanes of one byte
abbrev pub byte_lanes : ℕ → ℕ → List ℕ
byte_lanes bits p = zip2 bit_and (replicate 16 bits) (window p BITS)

pub byte_bit : (bits phase at k : ℕ) → k < 16 → eqb (get_or (byte_lanes bits ((phase + at % 8) % 8)) k 0) 0 ≡ not (is_set bits (at + k + phase))
byte_bit bits phase at k lt =
    let p = (phase + at % 8) % 8 in
    let made = zip2_of_maps bit_and (λ _. bits) (λ k. bit_value (p + k)) sixteen (splat_made bits) (bits_made p (omega arith)) in
    let same : (p + k) % 8 ≡ (at + k + phase) % 8 = omega arith in
    ap (λ n. eqb n 0) (lane_made (λ k. bit_and bits (bit_value (p + k))) (byte_lanes bits p) made k 0 lt)
    ∙ tested bits (7 - (p + k) % 8) ∙ ap (λ j. not (bit_at bits (7 - j) == 1)) same

-- the lanes of three bytes that follow one another
abbrev pub three_lanes : ℕ → ℕ → ℕ → ℕ → List ℕ
three_lanes p near next far =
    sel_l (map (top 7) (same_lanes (window p CELLS) (replicate 16 0))) (replicate 16 near)
    (sel_l (map (top 7) (same_lanes (window p CELLS) (replicate 16 1))) (replicate 16 next) (replicate 16 far))

abbrev three : ℕ → ℕ → ℕ → ℕ → ℕ
three near next far q = cond (eqb q 0) near (cond (eqb q 1) next far)

three_made : (p near next far : ℕ) → p ≤ 8 → three_lanes p near next far ≡ map (λ k. three near next far ((p + k) / 8)) sixteen
three_made p near next far le =
    let q = λ (k : ℕ). (p + k) / 8 in
    let which = numbers_made p le in
    let is_near = equal_lanes q (λ _. 0) (window p CELLS) (replicate 16 0) which (splat_made 0) in
    let is_next = equal_lanes q (λ _. 1) (window p CELLS) (replicate 16 1) which (splat_made 1) in
    let beyond = sel_of_maps (λ k. eqb (q k) 1) (λ _. next) (λ _. far) sixteen is_next (splat_made next) (splat_made far) in
    sel_of_maps (λ k. eqb (q k) 0) (λ _. near) (λ k. cond (eqb (q k) 1) next far) sixteen is_near (splat_made near) beyond

abbrev pub cell_lanes : ℕ → ℕ → ℕ → ℕ → List ℕ
cell_lanes p near next far = zip2 bit_and (three_lanes p near next far) (window p BITS)

cells_made : (p near next far : ℕ) → p ≤ 8 → cell_lanes p near next far ≡ map (λ k. bit_and (three near next far ((p + k) / 8)) (bit_value (p + k))) sixteen
cells_made p near next far le =
    zip2_of_maps bit_and (λ k. three near next far ((p + k) / 8)) (λ k. bit_value (p + k)) sixteen (three_made p near next far le) (bits_made p le)

pub length-cell_lanes : (p near next far : ℕ) → p ≤ 8 → length (cell_lanes p near next far) ≡ 16
length-cell_lanes p near next far le =
    lanes_made (λ k. bit_and (three near next far ((p + k) / 8)) (bit_value (p + k))) (cell_lanes p near next far) (cells_made p near next far le)

-- the byte that is picked of three, of which those that lie beyond the last may be any
picked : (cells : List ℕ) (first next far : ℕ) → (first + 1 < length cells → next ≡ first + 1) → (first + 2 < length cells → far ≡ first + 2)
    → (q : ℕ) → q < 3 → first + q < length cells → three (get_or cells first 0) (get_or cells next 0) (get_or cells far 0) q ≡ get_or cells (first + q) 0
picked cells first next far is_next is_far zero few lt = ap (λ i. get_or cells i 0) (omega arith)
picked cells first next far is_next is_far (suc zero) few lt = ap (λ i. get_or cells i 0) (is_next lt)
picked cells first next far is_next is_far (suc (suc zero)) few lt = ap (λ i. get_or cells i 0) (is_far lt)
picked cells first next far is_next is_far (suc (suc (suc q))) few lt = absurd (omega arith)

pub cell_bit : (cells : List ℕ) (phase at next far : ℕ)
    → (at / 8 + (phase + at % 8) / 8 + 1 < length cells → next ≡ at / 8 + (phase + at % 8) / 8 + 1)
    → (at / 8 + (phase + at % 8) / 8 + 2 < length cells → far ≡ at / 8 + (phase + at % 8) / 8 + 2)
    → (k : ℕ) → k < 16 → phase < 8 → at + k + phase < 8 * length cells
    → eqb (get_or (cell_lanes ((phase + at % 8) % 8) (get_or cells (at / 8 + (phase + at % 8) / 8) 0) (get_or cells next 0) (get_or cells far 0)) k 0) 0
    ≡ not (is_set (get_or cells ((at + k + phase) / 8) 0) (at + k + phase))
cell_bit cells phase at next far is_next is_far k lt low within =
    let p = (phase + at % 8) % 8 in
    let first = at / 8 + (phase + at % 8) / 8 in
    let near = get_or cells first 0 in
    let q = (p + k) / 8 in
    let whole : first + q ≡ (at + k + phase) / 8 = omega arith in
    let same : (p + k) % 8 ≡ (at + k + phase) % 8 = omega arith in
    let inside : first + q < length cells = omega arith in
    let here = picked cells first next far is_next is_far q (omega arith) inside ∙ ap (λ i. get_or cells i 0) whole in
    let at_lane = λ (j : ℕ). bit_and (three near (get_or cells next 0) (get_or cells far 0) ((p + j) / 8)) (bit_value (p + j)) in
    ap (λ n. eqb n 0) (lane_made at_lane (cell_lanes p near (get_or cells next 0) (get_or cells far 0)) (cells_made p near (get_or cells next 0)
    (get_or cells far 0) (omega arith)) k 0 lt)
    ∙ ap (λ n. eqb (bit_and n (bit_value (p + k))) 0) here
    ∙ tested (get_or cells ((at + k + phase) / 8) 0) (7 - (p + k) % 8) ∙ ap (λ j. not (bit_at (get_or cells ((at + k + phase) / 8) 0) (7 - j) == 1)) same

-- which of two bytes each of 16 places lies in
abbrev halves : List ℕ
halves = map (λ k. k / 8) sixteen

-- the lanes of two whole bytes
abbrev pub whole_lanes : List ℕ → List ℕ
whole_lanes two = zip2 bit_and (pick_l 0 (two ++ two) halves) (chunk 0 16 BITS)

whole_made : (two : List ℕ) → length two ≡ 2 → whole_lanes two ≡ map (λ k. bit_and (get_or two (k / 8) 0) (bit_value k)) sixteen
whole_made two long =
    zip2_of_maps bit_and (λ k. get_or two (k / 8) 0) bit_value sixteen (pick_l_left 0 two two 2 halves long tt) refl

pub whole_bit : (cells : List ℕ) (at : ℕ) → at % 8 ≡ 0 → at + 15 < 8 * length cells → (k : ℕ) → k < 16
    → eqb (get_or (whole_lanes (chunk 0 2 (mid_of (at / 8) (length cells - at / 8) cells))) k 0) 0
    ≡ not (is_set (get_or cells ((at + k + 0) / 8) 0) (at + k + 0))
whole_bit cells at even reach k lt =
    let first = at / 8 in
    let count = length cells - first in
    let rest = mid_of first count cells in
    let q = k / 8 in
    let long : length rest ≡ count = length-take-le count (drop first cells) (omega (arith, length-drop first cells)) in
    let two : length (chunk 0 2 rest) ≡ 2 = length-chunk 0 2 rest (omega (arith, long)) in
    let place : first + q ≡ (at + k + 0) / 8 = omega arith in
    let same : k % 8 ≡ (at + k + 0) % 8 = omega arith in
    let from_zero : 0 + q ≡ q = omega arith in
    let here : get_or (chunk 0 2 rest) q 0 ≡ get_or cells ((at + k + 0) / 8) 0 =
    get_or-chunk 0 2 rest q 0 (omega arith) ∙ ap (λ i. get_or rest i 0) from_zero
    ∙ get_or-take count (drop first cells) q 0 (omega arith) ∙ get_or-drop first cells q 0 ∙ ap (λ i. get_or cells i 0) place in
    let byte = get_or cells ((at + k + 0) / 8) 0 in
    ap (λ n. eqb n 0)
    (lane_made (λ j. bit_and (get_or (chunk 0 2 rest) (j / 8) 0) (bit_value j)) (whole_lanes (chunk 0 2 rest)) (whole_made (chunk 0 2 rest) two) k 0 lt)
    ∙ ap (λ n. eqb (bit_and n (bit_value k)) 0) here
    ∙ tested byte (7 - k % 8) ∙ ap (λ j. not (bit_at byte (7 - j) == 1)) same

-- behind the bits of the first byte come those of the others
pub bit_behind : (cells : List ℕ) (phase n k : ℕ) → n + phase ≡ 8 → n ≤ k → k + phase < 8 * length cells
    → bit_in_cells (take (length cells - 1) (drop 1 cells)) 0 (k - n) ≡ bit_in_cells cells phase k
bit_behind cells phase n k first behind within =
    let cell = (k - n + 0) / 8 in
    let count = length cells - 1 in
    let place : (k - n + 0) % 8 ≡ (k + phase) % 8 = omega arith in
    let further : 1 + cell ≡ (k + phase) / 8 = omega arith in
    let byte : get_or (take count (drop 1 cells)) cell 0 ≡ get_or cells ((k + phase) / 8) 0 =
    get_or-take count (drop 1 cells) cell 0 (omega arith) ∙ get_or-drop 1 cells cell 0 ∙ ap (λ i. get_or cells i 0) further in
    ap (λ b. bit_at b (7 - (k - n + 0) % 8) == 1) byte ∙ ap (λ p. bit_at (get_or cells ((k + phase) / 8) 0) (7 - p) == 1) place
