-- Blocks of letters: one more row, and some columns more.
use Rattle.std.proofs.Common.{◌≡◌, ℕ, ◌+◌, ◌-◌, ◌*◌, ◌/◌, ◌%◌, ◌==◌, ◌<◌, ◌≤◌, ◌⊎◌, inl, inr, true, List, [], ◌∷◌, length, get_or, refl, sym, ap, ap₂, ◌∙◌, arith}
use Rattle.std.specs.Int.{bit_at}
use Rattle.std.specs.List.{AllPass}
use Rattle.std.proofs.lemmas.Bool.{cases_lt, cases_order}
use Rattle.std.proofs.lemmas.List.Elements.{All-nil, All-cons, All-get_or}
use Rattle.std.proofs.lemmas.Simd.{get_or-put_chunk_below, get_or-put_chunk_at, get_or-put_chunk_above}
use lib.Lanes.{put_chunk}
use Rattle.tr_base.specs.Fonts.{glyph_of, glyph_bit, pixel_of_bit}
use Rattle.tr_base.specs.Lines.{is_printable}
use Rattle.tr_base.proofs.PlaceLemmas.{row_fits}
use Rattle.tr_kernel.specs.Letters.{bit_in_letters, inked, pixel_in}
use Rattle.tr_kernel.specs.Blocks.{AreWritten}
use Rattle.tr_kernel.specs.declared.blocks.Block.{Block}
use Rattle.tr_kernel.specs.declared.letters.Inks.{Inks}
use Rattle.tr_kernel.proofs.LetterLemmas.{lanes_of_pair, pixel_of_bits, pixel_of_letter}

pub no_rows : (f : ℕ → ℕ → ℕ) (block : Block) (count : ℕ) (old : List ℕ) → AreWritten f block count 0 old old
no_rows f block count old = record { written = λ v k lv lk. absurd (omega arith); others = λ i out. refl }

pub no_columns : (f : ℕ → ℕ → ℕ) (block : Block) (rows : ℕ) (old : List ℕ) → AreWritten f block 0 rows old old
no_columns f block rows old = record { written = λ v k lv lk. absurd (omega arith); others = λ i out. refl }

-- one more row
pub row_written : (f : ℕ → ℕ → ℕ) (block : Block) (count v : ℕ) (old mid lanes : List ℕ) → AreWritten f block count v old mid → count ≤ block.stride →
    length lanes ≡ count → block.start + v * block.stride + count ≤ length mid → ((k : ℕ) → k < count → get_or lanes k 0 ≡ f v k) →
    AreWritten f block count (v + 1) old (put_chunk (block.start + v * block.stride) mid lanes)
row_written f block count v old mid lanes so_far narrow long room here = record { written = written; others = others }
  where
    at : ℕ
    at = block.start + v * block.stride

    written : (u k : ℕ) → u < v + 1 → k < count → get_or (put_chunk at mid lanes) (block.start + u * block.stride + k) 0 ≡ f u k
    written u k lu lk = elim (cases_lt u v) [
      | inl above ↦
          get_or-put_chunk_below at mid lanes (block.start + u * block.stride + k) 0 (omega (arith, row_fits block.stride v u above, narrow, lk))
          ∙ so_far.written u k above lk
      | inr not_above ↦
          let same : u ≡ v = omega arith in
          ap (λ n. get_or (put_chunk at mid lanes) (block.start + n * block.stride + k) 0) same
          ∙ get_or-put_chunk_at at mid lanes k 0 (omega (arith, long, lk)) (omega (arith, long, room))
          ∙ here k lk ∙ ap (λ n. f n k) (sym same)
    ]

    others : (i : ℕ) → ((u : ℕ) → u < v + 1 → (i < block.start + u * block.stride) ⊎ (block.start + u * block.stride + count ≤ i)) →
        get_or (put_chunk at mid lanes) i 0 ≡ get_or old i 0
    others i out =
        beside (out v (omega arith)) ∙ so_far.others i (λ u lu. out u (omega (arith, lu)))
      where
        beside : (i < block.start + v * block.stride) ⊎ (block.start + v * block.stride + count ≤ i) → get_or (put_chunk at mid lanes) i 0 ≡ get_or mid i 0
        beside (inl lt) = get_or-put_chunk_below at mid lanes i 0 lt
        beside (inr ge) = get_or-put_chunk_above at mid lanes i 0 (omega (arith, long, ge))

-- the columns of a block behind those that are written are written, too
pub columns_written : (f g : ℕ → ℕ → ℕ) (block : Block) (n m next : ℕ) (old mid new : List ℕ) → n + m ≡ next → next ≤ block.stride →
    AreWritten f block n 8 old mid → AreWritten g (record { start = block.start + n; stride = block.stride }) m 8 mid new →
    ((v h : ℕ) → v < 8 → h < m → g v h ≡ f v (n + h)) → AreWritten f block next 8 old new
columns_written f g block n m next old mid new sum narrow so_far more same = record { written = written; others = others }
  where
    w : ℕ
    w = block.stride

    apart : (v k : ℕ) → k < n → (u : ℕ) → u < 8 → (block.start + v * w + k < block.start + n + u * w) ⊎ (block.start + n + u * w + m ≤ block.start + v * w + k)
    apart v k lk u lu = by_order (cases_order u v)
      where
        by_order : (u ≡ v) ⊎ ((u < v) ⊎ (v < u)) → (block.start + v * w + k < block.start + n + u * w) ⊎ (block.start + n + u * w + m ≤ block.start + v * w + k)
        by_order (inl e) = let at : u * w ≡ v * w = ap (λ x. x * w) e in inl (omega (arith, at, lk))
        by_order (inr (inl lt)) = inr (omega (arith, row_fits w v u lt, sum, narrow))
        by_order (inr (inr gt)) = inl (omega (arith, row_fits w u v gt, sum, narrow, lk))

    written : (v k : ℕ) → v < 8 → k < next → get_or new (block.start + v * w + k) 0 ≡ f v k
    written v k lv lk = elim (cases_lt k n) [
      | inl before ↦ more.others (block.start + v * w + k) (apart v k before) ∙ so_far.written v k lv before
      | inr not_before ↦
          let j : ℕ = k - n in
          let place : block.start + v * w + k ≡ block.start + n + v * w + j = omega (arith, not_before) in
          let column : n + j ≡ k = omega (arith, not_before) in
          let lj : j < m = omega (arith, sum, lk, not_before) in
          ap (λ i. get_or new i 0) place ∙ more.written v j lv lj ∙ same v j lv lj ∙ ap (f v) column
    ]

    others : (i : ℕ) → ((v : ℕ) → v < 8 → (i < block.start + v * w) ⊎ (block.start + v * w + next ≤ i)) → get_or new i 0 ≡ get_or old i 0
    others i out = more.others i (λ v lv. behind v (out v lv)) ∙ so_far.others i (λ v lv. before v (out v lv))
      where
        behind : (v : ℕ) → (i < block.start + v * w) ⊎ (block.start + v * w + next ≤ i) → (i < block.start + n + v * w) ⊎ (block.start + n + v * w + m ≤ i)
        behind v (inl lt) = inl (omega (arith, lt))
        behind v (inr ge) = inr (omega (arith, ge, sum))

        before : (v : ℕ) → (i < block.start + v * w) ⊎ (block.start + v * w + next ≤ i) → (i < block.start + v * w) ⊎ (block.start + v * w + n ≤ i)
        before v (inl lt) = inl lt
        before v (inr ge) = inr (omega (arith, ge, sum))

-- a letter of a printable text is printable, and so are two
pub printable_single : (text : List ℕ) (i : ℕ) → AllPass is_printable text → i < length text → AllPass is_printable (get_or text i 0 ∷ [])
printable_single text i all lt = let P = λ (c : ℕ). is_printable c ≡ true in All-cons P (get_or text i 0) [] (All-get_or P text i 0 lt all) (All-nil P)

pub printable_pair : (text : List ℕ) (i j : ℕ) → AllPass is_printable text → i < length text → j < length text →
    AllPass is_printable (get_or text i 0 ∷ get_or text j 0 ∷ [])
printable_pair text i j all li lj =
    let P = λ (c : ℕ). is_printable c ≡ true in
    All-cons P (get_or text i 0) (get_or text j 0 ∷ []) (All-get_or P text i 0 li all) (printable_single text j all lj)

-- the lanes of two letters are their pixels
pub pair_lanes : (source pair lanes : List ℕ) (inks : Inks) (west east : ℕ) → west ≡ 8 * (get_or pair 0 0 - 32) → east ≡ 8 * (get_or pair 1 0 - 32) →
    ((h : ℕ) → h < 8 → get_or lanes h 0 ≡ inked inks (get_or source (west + h) 0)) →
    ((h : ℕ) → h < 8 → get_or lanes (8 + h) 0 ≡ inked inks (get_or source (east + h) 0)) →
    (h : ℕ) → h < 16 → get_or lanes h 0 ≡ inked inks (pixel_in source pair h)
pair_lanes source pair lanes inks west east west_is east_is first second h lt =
    let column : 16 * 0 + h ≡ h = omega arith in
    lanes_of_pair source pair lanes inks 0 west east west_is east_is first second h lt ∙ ap (λ k. inked inks (pixel_in source pair k)) column

-- and so are those of one letter
pub single_lanes : (source lanes : List ℕ) (inks : Inks) (letter place : ℕ) → place ≡ 8 * (letter - 32) →
    ((h : ℕ) → h < 8 → get_or lanes h 0 ≡ inked inks (get_or source (place + h) 0)) →
    (h : ℕ) → h < 8 → get_or lanes h 0 ≡ inked inks (pixel_in source (letter ∷ []) h)
single_lanes source lanes inks letter place is lane h lt =
    let column : 8 * 0 + h ≡ h = omega arith in
    lane h lt ∙ ap (λ p. inked inks (get_or source (p + h) 0)) is ∙ ap (inked inks) (sym (pixel_of_letter source (letter ∷ []) 0 h lt))
    ∙ ap (λ k. inked inks (pixel_in source (letter ∷ []) k)) column

-- lanes that are the pixels of letters are those of their bits
pub lanes_of_bits : (font : List (List ℕ)) (source letters lanes : List ℕ) (v : ℕ) (inks : Inks) → AllPass is_printable letters →
    ((byte h : ℕ) → 32 ≤ byte → byte ≤ 126 → h < 8 → get_or source (8 * (byte - 32) + h) 0 ≡ pixel_of_bit (glyph_bit font byte h v)) →
    (h : ℕ) → h < 8 * length letters → get_or lanes h 0 ≡ inked inks (pixel_in source letters h) →
    get_or lanes h 0 ≡ inked inks (pixel_of_bit (bit_in_letters font letters v h))
lanes_of_bits font source letters lanes v inks printable each h within lane =
    lane ∙ ap (inked inks) (pixel_of_bits font source letters v h printable each within)

-- the bits of two letters of a text
pub pair_bits : (font : List (List ℕ)) (text : List ℕ) (i v h : ℕ) → h < 16 →
    bit_in_letters font (get_or text (2 * i) 0 ∷ get_or text (2 * i + 1) 0 ∷ []) v h ≡ bit_in_letters font text v (16 * i + h)
pair_bits font text i v h lt = by_half (cases_lt h 8)
  where
    pair : List ℕ
    pair = get_or text (2 * i) 0 ∷ get_or text (2 * i + 1) 0 ∷ []

    letter : (n : ℕ) → h / 8 ≡ n → (16 * i + h) / 8 ≡ 2 * i + n → get_or pair n 0 ≡ get_or text (2 * i + n) 0 →
        bit_in_letters font pair v h ≡ bit_in_letters font text v (16 * i + h)
    letter n at there is =
        let column : h % 8 ≡ (16 * i + h) % 8 = omega arith in
        ap₂ (λ b q. bit_at (get_or (glyph_of font b) v 0) (7 - q) == 1) (ap (λ k. get_or pair k 0) at ∙ is ∙ ap (λ k. get_or text k 0) (sym there)) column

    by_half : (h < 8) ⊎ (8 ≤ h) → bit_in_letters font pair v h ≡ bit_in_letters font text v (16 * i + h)
    by_half (inl below) = letter 0 (omega arith) (omega arith) (ap (λ k. get_or text k 0) (omega arith))
    by_half (inr behind) = letter 1 (omega arith) (omega arith) refl

-- the bits of the last letter of a text
pub single_bits : (font : List (List ℕ)) (text : List ℕ) (i v h : ℕ) → h < 8 →
    bit_in_letters font (get_or text i 0 ∷ []) v h ≡ bit_in_letters font text v (8 * i + h)
single_bits font text i v h lt =
    let none : h / 8 ≡ 0 = omega arith in
    let there : (8 * i + h) / 8 ≡ i = omega arith in
    let column : h % 8 ≡ (8 * i + h) % 8 = omega arith in
    ap₂ (λ b q. bit_at (get_or (glyph_of font b) v 0) (7 - q) == 1)
    (ap (λ k. get_or (get_or text i 0 ∷ []) k 0) none ∙ ap (λ k. get_or text k 0) (sym there)) column
