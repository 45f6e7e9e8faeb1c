-- Bits along a run.
use Rattle.std.proofs.Common.{◌≡◌, ℕ, ◌+◌, ◌-◌, ◌*◌, ◌/◌, ◌%◌, ◌==◌, ◌<◌, ◌≤◌, ℤ, pos, ◌+ℤ◌, ◌≤ℤ◌, List, take, drop, length, refl, sym, ap, ap₂, ◌∙◌, arith}
use Rattle.tr_screen.proofs.RunLemmas.{abs_is}
use Rattle.std.specs.Prelude.{negsuc, unsigned_abs, slice_index}
use Rattle.std.specs.Int.{bit_at}
use Rattle.std.proofs.lemmas.List.{get_or-take, get_or-drop}
use Rattle.tr_base.specs.declared.Point.{Point}
use Rattle.tr_base.specs.Pixmaps.{PixmapView, pixmap_at}
use Rattle.tr_base.specs.Fonts.{glyph_of, glyph_bit}
use Rattle.tr_kernel.specs.Letters.{bit_in_letters}
use Rattle.std.specs.Int.{int_rem_euclid}
use Rattle.std.proofs.lemmas.Int.{ints, int_rem_euclid_is}
use Rattle.tr_base.specs.Tiles.{is_set, tile_index}
use Rattle.tr_exec.specs.Strokes.{IsWithin, AreGlyphRows, east_of}

-- far enough east no coordinate is negative
far_east : (x : ℤ) → pos 0 ≤ℤ (x +ℤ pos (unsigned_abs x * 8))
far_east (pos a) = omega (arith, ints)
far_east (negsuc a) = omega (arith, ints)

-- the place in the tiles, k columns further east
pub place-later : (x : ℤ) (k : ℕ) → tile_index (x +ℤ pos k) % 8 ≡ (k + tile_index x) % 8
place-later x k =
    let j = unsigned_abs x in
    let m = unsigned_abs (x +ℤ pos (j * 8)) in
    let here : x +ℤ pos (j * 8) ≡ pos m = abs_is (x +ℤ pos (j * 8)) (far_east x) in
    let there : (x +ℤ pos k) +ℤ pos (j * 8) ≡ pos (k + m) = omega (arith, ints, here) in
    let first : int_rem_euclid x (pos 8) ≡ pos (m % 8) = int_rem_euclid_is x (pos 8) 8 j m (omega arith) refl here in
    let second : int_rem_euclid (x +ℤ pos k) (pos 8) ≡ pos ((k + m) % 8) = int_rem_euclid_is (x +ℤ pos k) (pos 8) 8 j (k + m) (omega arith) refl there in
    let later : tile_index (x +ℤ pos k) ≡ (k + m) % 8 = ap (λ z. unsigned_abs z) second in
    let now : tile_index x ≡ m % 8 = ap (λ z. unsigned_abs z) first in
    rw (later, now) (omega arith)

-- a coordinate from 0 on, k columns further east
pub abs-later : (x : ℤ) (k : ℕ) → pos 0 ≤ℤ x → unsigned_abs (x +ℤ pos k) ≡ unsigned_abs x + k
abs-later (pos a) k h = refl
abs-later (negsuc a) k h = absurd (omega (arith, ints))

-- a coordinate from 0 on with n columns before an edge
pub columns_fit : (x : ℤ) (n wide : ℕ) → pos 0 ≤ℤ x → (x +ℤ pos n) ≤ℤ pos wide → unsigned_abs x + n ≤ wide
columns_fit (pos a) n wide h east = omega (arith, ints, east)
columns_fit (negsuc a) n wide h east = absurd (omega (arith, ints))

-- part of a pixmap's row, pixel by pixel
pub run_of_pixmap : (m : PixmapView) (at : Point) (n : ℕ) (row part : List ℕ) → IsWithin m.size at n →
    row ≡ take m.size.wide (drop (unsigned_abs at.v * m.size.wide) m.pixels) →
    part ≡ take (unsigned_abs at.h + n - unsigned_abs at.h) (drop (unsigned_abs at.h) row) →
    (k : ℕ) → k < n → slice_index part k ≡ pixmap_at m (east_of at k)
run_of_pixmap m at n row part within is_row is_part k below =
    let h = unsigned_abs at.h in
    let start = unsigned_abs at.v * m.size.wide in
    let fits = columns_fit at.h n m.size.wide within.west within.east in
    let count : h + n - h ≡ n = omega arith in
    ap (λ (l : List ℕ). slice_index l k) (is_part ∙ ap (λ i. take i (drop h row)) count)
    ∙ get_or-take n (drop h row) k 0 below ∙ get_or-drop h row k 0 ∙ ap (λ (l : List ℕ). slice_index l (h + k)) is_row
    ∙ get_or-take m.size.wide (drop start m.pixels) (h + k) 0 (omega (arith, fits)) ∙ get_or-drop start m.pixels (h + k) 0
    ∙ ap (λ i. slice_index m.pixels (start + i)) (sym (abs-later at.h k within.west))

-- the bit of a text along a run that begins in column h of its cells, from the bytes of row v of its glyphs
pub bit_of_text : (font : List (List ℕ)) (text bits cells : List ℕ) (h v n : ℕ) → AreGlyphRows font text bits → v < 8 → length text ≤ 80 →
    cells ≡ take (80 * v + 80 - (80 * v + h / 8)) (drop (80 * v + h / 8) bits) → h + n ≤ 8 * length text → (k : ℕ) → k < n →
    is_set (slice_index cells ((k + h % 8) / 8)) (k + h % 8) ≡ glyph_bit font (slice_index text ((h + k) / 8)) (h + k) v
bit_of_text font text bits cells h v n rows row short part fits k below =
    let cell = (k + h % 8) / 8 in
    let from = 80 * v + h / 8 in
    let count = 80 * v + 80 - from in
    let place : (k + h % 8) % 8 ≡ (h + k) % 8 = omega arith in
    let further : from + cell ≡ 80 * v + (h + k) / 8 = omega arith in
    let within : cell < count = omega (arith, short, fits) in
    let byte : slice_index cells cell ≡ slice_index (glyph_of font (slice_index text ((h + k) / 8))) v =
    ap (λ (l : List ℕ). slice_index l cell) part ∙ get_or-take count (drop from bits) cell 0 within ∙ get_or-drop from bits cell 0
    ∙ ap (λ i. slice_index bits i) further ∙ rows v ((h + k) / 8) row (omega (arith, fits)) in
    ap (λ b. bit_at b (7 - (k + h % 8) % 8) == 1) byte ∙ ap (λ p. bit_at (slice_index (glyph_of font (slice_index text ((h + k) / 8))) v) (7 - p) == 1) place

-- the bit of a text along a run that begins in column h of its cells, from the letters from that column on
pub bit_of_letters : (font : List (List ℕ)) (text letters : List ℕ) (h v n : ℕ) → letters ≡ take (length text - h / 8) (drop (h / 8) text) →
    h + n ≤ 8 * length text → (k : ℕ) → k < n → bit_in_letters font letters v (k + h % 8) ≡ glyph_bit font (slice_index text ((h + k) / 8)) (h + k) v
bit_of_letters font text letters h v n part fits k below =
    let letter = (k + h % 8) / 8 in
    let count = length text - h / 8 in
    let place : (k + h % 8) % 8 ≡ (h + k) % 8 = omega arith in
    let further : h / 8 + letter ≡ (h + k) / 8 = omega arith in
    let byte : slice_index letters letter ≡ slice_index text ((h + k) / 8) =
    ap (λ (l : List ℕ). slice_index l letter) part ∙ get_or-take count (drop (h / 8) text) letter 0 (omega (arith, fits))
    ∙ get_or-drop (h / 8) text letter 0 ∙ ap (λ i. slice_index text i) further in
    ap₂ (λ b p. bit_at (slice_index (glyph_of font b) v) (7 - p) == 1) byte place
