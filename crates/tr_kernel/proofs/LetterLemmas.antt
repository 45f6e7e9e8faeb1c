-- Letters that are written from a row of all glyphs.
use Rattle.std.proofs.Common.{◌≡◌, ℕ, ◌+◌, ◌-◌, ◌*◌, ◌/◌, ◌%◌, ◌^◌, ◌==◌, ◌<◌, ◌≤◌, Bool, true, false, cond, List, ◌++◌, length, take, drop, get_or, replicate, bit_and, bit_xor, sym, ap, ap₂, ◌∙◌, arith, ◌⊎◌, inl, inr}
use Rattle.std.specs.List.{AllPass}
use Rattle.std.specs.Int.{bit_at}
use Rattle.std.specs.Int.Bits.{and_zero_r, xor_self, xor_assoc, xor_zero_r}
use Rattle.std.proofs.lemmas.Bool.{cases_lt}
use Rattle.std.proofs.lemmas.Bool.Decides.{nat_tests}
use Rattle.std.proofs.lemmas.Nat.{and_comm, xor_comm, xor_of_8, and_mask}
use Rattle.std.proofs.lemmas.List.{get_or-take, get_or-drop, get_or-replicate, length-replicate, length-append, get_or_append_left, get_or-append_right}
use Rattle.std.proofs.lemmas.List.Elements.{All-get_or, All-take, All-drop}
use Rattle.std.proofs.lemmas.Simd.{get_or-zip2, length-zip2, get_or-chunk, length-chunk}
use lib.Lanes.{zip2, chunk}
use Rattle.tr_base.specs.Fonts.{glyph_of, glyph_bit, pixel_of_bit}
use Rattle.tr_base.specs.Lines.{is_printable}
use Rattle.tr_kernel.specs.Letters.{bit_in_letters, inked, pixel_in}
use Rattle.tr_kernel.specs.declared.letters.Inks.{Inks}

-- each letter of a printable text is one from 32 to 126
pub printable_at : (text : List ℕ) (i : ℕ) → AllPass is_printable text → i < length text → (32 ≤ get_or text i 0) × (get_or text i 0 ≤ 126)
printable_at text i all lt = within (get_or text i 0) (All-get_or (λ c. is_printable c ≡ true) text i 0 lt all)
  where
    within : (c : ℕ) → is_printable c ≡ true → (32 ≤ c) × (c ≤ 126)
    within c h = (grind (arith, nat_tests), grind (arith, nat_tests))

-- and so is each one of a part
pub printable_part : (text : List ℕ) (m n : ℕ) → AllPass is_printable text → AllPass is_printable (take m (drop n text))
printable_part text m n all = let P = λ (c : ℕ). is_printable c ≡ true in All-take P m (drop n text) (All-drop P n text all)

pub printable_front : (text : List ℕ) (m : ℕ) → AllPass is_printable text → AllPass is_printable (take m text)
printable_front text m all = let P = λ (c : ℕ). is_printable c ≡ true in All-take P m text all

-- the pixel of a bit in two colours
pub two_colours : (bit : Bool) (one other : ℕ) → one < 2 ^ 8 → other < 2 ^ 8 →
    bit_xor (bit_and (pixel_of_bit bit) (bit_xor one other)) other ≡ cond bit one other
two_colours true one other small_one small_other =
    let small = xor_of_8 one other small_one small_other in
    ap (λ n. bit_xor n other) (and_comm 255 (bit_xor one other) ∙ and_mask (bit_xor one other) 8 ∙ omega arith)
    ∙ xor_assoc one other other ∙ ap (bit_xor one) (xor_self other) ∙ xor_zero_r one
two_colours false one other small_one small_other =
    ap (λ n. bit_xor n other) (and_comm 0 (bit_xor one other) ∙ and_zero_r (bit_xor one other)) ∙ xor_comm 0 other ∙ xor_zero_r other

-- a pixel in a column of letters, from the row of all glyphs, is that of its bit
pub pixel_of_bits : (font : List (List ℕ)) (source text : List ℕ) (v column : ℕ) → AllPass is_printable text
    → ((byte h : ℕ) → 32 ≤ byte → byte ≤ 126 → h < 8 → get_or source (8 * (byte - 32) + h) 0 ≡ pixel_of_bit (glyph_bit font byte h v))
    → column < 8 * length text → pixel_in source text column ≡ pixel_of_bit (bit_in_letters font text v column)
pixel_of_bits font source text v column printable each within =
    let letter = column / 8 in
    let h = column % 8 in
    let byte = get_or text letter 0 in
    let range = printable_at text letter printable (omega arith) in
    let place : h % 8 ≡ column % 8 = omega arith in
    each byte h range.0 range.1 (omega arith) ∙ ap (λ q. pixel_of_bit (bit_at (get_or (glyph_of font byte) v 0) (7 - q) == 1)) place

-- the same in two colours
pub pixel_is : (font : List (List ℕ)) (source text : List ℕ) (v : ℕ) (inks : Inks) (one column : ℕ) → AllPass is_printable text
    → ((byte h : ℕ) → 32 ≤ byte → byte ≤ 126 → h < 8 → get_or source (8 * (byte - 32) + h) 0 ≡ pixel_of_bit (glyph_bit font byte h v))
    → inks.change ≡ bit_xor one inks.zero → one < 2 ^ 8 → inks.zero < 2 ^ 8 → column < 8 * length text
    → inked inks (pixel_in source text column) ≡ cond (bit_in_letters font text v column) one inks.zero
pixel_is font source text v inks one column printable each change small_one small_zero within =
    ap₂ (λ p d. bit_xor (bit_and p d) inks.zero) (pixel_of_bits font source text v column printable each within) change
    ∙ two_colours (bit_in_letters font text v column) one inks.zero small_one small_zero

-- so many lanes in two colours
abbrev pub ink_lanes : ℕ → Inks → List ℕ → List ℕ
ink_lanes n inks pixels = zip2 bit_xor (zip2 bit_and pixels (replicate n inks.change)) (replicate n inks.zero)

masked_long : (n : ℕ) (pixels : List ℕ) (x : ℕ) → length pixels ≡ n → length (zip2 bit_and pixels (replicate n x)) ≡ n
masked_long n pixels x long = length-zip2 bit_and pixels (replicate n x) (long ∙ sym (length-replicate n x)) ∙ long

pub length-ink_lanes : (n : ℕ) (inks : Inks) (pixels : List ℕ) → length pixels ≡ n → length (ink_lanes n inks pixels) ≡ n
length-ink_lanes n inks pixels long =
    let both = masked_long n pixels inks.change long in
    length-zip2 bit_xor (zip2 bit_and pixels (replicate n inks.change)) (replicate n inks.zero) (both ∙ sym (length-replicate n inks.zero)) ∙ both

pub lane_inked : (n : ℕ) (inks : Inks) (pixels : List ℕ) (h : ℕ) → length pixels ≡ n → h < n →
    get_or (ink_lanes n inks pixels) h 0 ≡ inked inks (get_or pixels h 0)
lane_inked n inks pixels h long lt =
    let both = masked_long n pixels inks.change long in
    let change_long = length-replicate n inks.change in
    let zero_long = length-replicate n inks.zero in
    get_or-zip2 bit_xor (zip2 bit_and pixels (replicate n inks.change)) (replicate n inks.zero) h 0 0 0 (omega (arith, both)) (omega (arith, zero_long))
    ∙ ap₂ bit_xor (get_or-zip2 bit_and pixels (replicate n inks.change) h 0 0 0 (omega arith) (omega (arith, change_long))
    ∙ ap (bit_and (get_or pixels h 0)) (get_or-replicate n h inks.change 0 lt)) (get_or-replicate n h inks.zero 0 lt)

-- eight pixels from each of two places, side by side
module _ (source : List ℕ) (near far : ℕ) (both : List ℕ) (near_fits : near + 8 ≤ length source) where
  pub both_long : far + 8 ≤ length source → both ≡ chunk near 8 source ++ chunk far 8 source → length both ≡ 16
  both_long far_fits is =
      let first = length-chunk near 8 source near_fits in
      let second = length-chunk far 8 source far_fits in
      ap (λ (l : List ℕ). length l) is ∙ length-append (chunk near 8 source) (chunk far 8 source) ∙ omega (arith, first, second)

  pub near_lane : both ≡ chunk near 8 source ++ chunk far 8 source → (h : ℕ) → h < 8 → get_or both h 0 ≡ get_or source (near + h) 0
  near_lane is h lt =
      let first = length-chunk near 8 source near_fits in
      ap (λ l. get_or l h 0) is ∙ get_or_append_left (chunk near 8 source) (chunk far 8 source) 0 h (omega (arith, first))
      ∙ get_or-chunk near 8 source h 0 lt

  pub far_lane : both ≡ chunk near 8 source ++ chunk far 8 source → (h : ℕ) → h < 8 → get_or both (8 + h) 0 ≡ get_or source (far + h) 0
  far_lane is h lt =
      let first = length-chunk near 8 source near_fits in
      let place : 8 + h - 8 ≡ h = omega arith in
      ap (λ l. get_or l (8 + h) 0) is ∙ get_or-append_right (chunk near 8 source) (chunk far 8 source) 8 (8 + h) 0 first (omega arith)
      ∙ ap (λ j. get_or (chunk far 8 source) j 0) place ∙ get_or-chunk far 8 source h 0 lt

-- the pixels of a letter in its columns
pub pixel_of_letter : (source text : List ℕ) (i h : ℕ) → h < 8 → pixel_in source text (8 * i + h) ≡ get_or source (8 * (get_or text i 0 - 32) + h) 0
pixel_of_letter source text i h lt =
    let letter : (8 * i + h) / 8 ≡ i = omega arith in
    let column : (8 * i + h) % 8 ≡ h = omega arith in
    ap₂ (λ j q. get_or source (8 * (get_or text j 0 - 32) + q) 0) letter column

-- the lanes of two letters are the pixels of their columns
pub lanes_of_pair : (source text lanes : List ℕ) (inks : Inks) (i near far : ℕ) →
    near ≡ 8 * (get_or text (2 * i) 0 - 32) → far ≡ 8 * (get_or text (2 * i + 1) 0 - 32) →
    ((h : ℕ) → h < 8 → get_or lanes h 0 ≡ inked inks (get_or source (near + h) 0)) →
    ((h : ℕ) → h < 8 → get_or lanes (8 + h) 0 ≡ inked inks (get_or source (far + h) 0)) →
    (h : ℕ) → h < 16 → get_or lanes h 0 ≡ inked inks (pixel_in source text (16 * i + h))
lanes_of_pair source text lanes inks i near far near_is far_is nearer farther h lt = by_half (cases_lt h 8)
  where
    by_half : (h < 8) ⊎ (8 ≤ h) → get_or lanes h 0 ≡ inked inks (pixel_in source text (16 * i + h))
    by_half (inl below) =
        let column : 8 * (2 * i) + h ≡ 16 * i + h = omega arith in
        nearer h below ∙ ap (λ p. inked inks (get_or source (p + h) 0)) near_is
        ∙ ap (inked inks) (sym (pixel_of_letter source text (2 * i) h below)) ∙ ap (λ k. inked inks (pixel_in source text k)) column
    by_half (inr behind) =
        let j : ℕ = h - 8 in
        let small : j < 8 = omega arith in
        let lane : h ≡ 8 + j = omega arith in
        let column : 8 * (2 * i + 1) + j ≡ 16 * i + h = omega arith in
        ap (λ k. get_or lanes k 0) lane ∙ farther j small ∙ ap (λ p. inked inks (get_or source (p + j) 0)) far_is
        ∙ ap (inked inks) (sym (pixel_of_letter source text (2 * i + 1) j small)) ∙ ap (λ k. inked inks (pixel_in source text k)) column

-- letters from place n on, k columns further
pub further_letter : (source text : List ℕ) (phase n k : ℕ) → n + phase ≡ 8 → n ≤ k → k + phase < 8 * length text
    → pixel_in source (take (length text - 1) (drop 1 text)) (k - n) ≡ pixel_in source text (k + phase)
further_letter source text phase n k first behind within =
    let letter = (k - n) / 8 in
    let count = length text - 1 in
    let place : (k - n) % 8 ≡ (k + phase) % 8 = omega arith in
    let further : 1 + letter ≡ (k + phase) / 8 = omega arith in
    let byte : get_or (take count (drop 1 text)) letter 0 ≡ get_or text ((k + phase) / 8) 0 =
    get_or-take count (drop 1 text) letter 0 (omega arith) ∙ get_or-drop 1 text letter 0 ∙ ap (λ i. get_or text i 0) further in
    ap₂ (λ b q. get_or source (8 * (b - 32) + q) 0) byte place

-- a letter of the first ones
pub front_letter : (source text : List ℕ) (count k : ℕ) → k < 8 * count → pixel_in source (take count text) k ≡ pixel_in source text k
front_letter source text count k lt =
    ap (λ b. get_or source (8 * (b - 32) + k % 8) 0) (get_or-take count text (k / 8) 0 (omega arith))
