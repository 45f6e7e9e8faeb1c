-- Fonts that are compared glyph by glyph, and the pixels of their glyphs.
use Rattle.std.proofs.Common.{◌≡◌, ◌≢◌, ℕ, ◌+◌, ◌*◌, ◌/◌, ◌%◌, ◌-◌, ◌==◌, ◌<◌, ◌≤◌, nat_eq, Bool, List, length, get_or, refl, sym, ap, ◌∙◌, arith}
use Rattle.std.specs.Int.{bit_at}
use Rattle.std.proofs.lemmas.List.{get_or-replicate, length-replicate}
use Rattle.tr_base.specs.Fonts.{box_glyph, empty_font, pixel_of_bit, HasPixels}
use Rattle.tr_base.specs.Tiles.{is_set}
use Rattle.std.specs.Bool.{Decides}
use Rattle.std.specs.Cmp.Lexicographic.{pointwise}
use Rattle.std.proofs.lemmas.Bool.Decides.{Decides-eqb}
use Rattle.std.proofs.lemmas.Slice.Eq.{slice_eq-Decides}

-- glyphs that are compared one by one, and each row by row
pub same_glyphs : (xs ys : List (List ℕ)) (r : Bool) → r ≡ pointwise (pointwise nat_eq) xs ys → Decides r (xs ≡ ys)
same_glyphs xs ys r h = slice_eq-Decides (λ a b. slice_eq-Decides Decides-eqb a b (pointwise nat_eq a b) refl) xs ys r h

-- places that differ by eights have one bit
same_place : (byte a b : ℕ) → a % 8 ≡ b % 8 → is_set byte a ≡ is_set byte b
same_place byte a b e = ap (λ p. bit_at byte (7 - p) == 1) e

-- from `at` on there are h numbers of f, and the others are old
pub record IsPutAt (f : ℕ → ℕ) (old new : List ℕ) (at h : ℕ) : Type 0 where
  pub size : length new ≡ length old
  pub put : (j : ℕ) → j < h → get_or new (at + j) 0 ≡ f j
  pub before : (k : ℕ) → k < at → get_or new k 0 ≡ get_or old k 0
  pub behind : (k : ℕ) → at + h ≤ k → get_or new k 0 ≡ get_or old k 0

-- the glyph's first v rows of pixels are put at its place in each row, and the others' pixels are old
pub record IsPutTo (glyph old new : List ℕ) (place v : ℕ) : Type 0 where
  pub size : length new ≡ length old
  pub put : (u h : ℕ) → u < v → h < 8 → get_or new (760 * u + (8 * place + h)) 0 ≡ pixel_of_bit (is_set (get_or glyph u 0) h)
  pub others : (u other h : ℕ) → other < 95 → other ≢ place → h < 8 →
      get_or new (760 * u + (8 * other + h)) 0 ≡ get_or old (760 * u + (8 * other + h)) 0

-- a font of boxes has the pixels of boxes
pub boxes_have_pixels : (pixels : List ℕ) → length pixels ≡ 6080 → ((k : ℕ) → k < 6080 →
    get_or pixels k 0 ≡ pixel_of_bit (is_set (get_or box_glyph (k / 760) 0) k))
    → HasPixels empty_font pixels
boxes_have_pixels pixels size each = record {
  count = length-replicate 95 box_glyph;
  size = size;
  each = λ v place h lv lp lh.
      let k = 760 * v + (8 * place + h) in
      let row : k / 760 ≡ v = omega arith in
      let column : k % 8 ≡ h % 8 = omega arith in
      each k (omega arith) ∙ ap (λ r. pixel_of_bit (is_set (get_or box_glyph r 0) k)) row
      ∙ ap pixel_of_bit (same_place (get_or box_glyph v 0) k h column)
      ∙ ap (λ (g : List ℕ). pixel_of_bit (is_set (get_or g v 0) h)) (sym (get_or-replicate 95 place box_glyph box_glyph lp));
}
