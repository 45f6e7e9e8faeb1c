-- Lines of text that stand one below the other: their colours, and how they are painted.
use Rattle.std.proofs.Common.{◌≡◌, ℕ, ◌+◌, ◌*◌, ◌/◌, ◌<◌, ◌≤◌, ◌==◌, ℤ, pos, neg_ℤ, ◌+ℤ◌, ◌-ℤ◌, ◌≤ℤ◌, Bool, true, false, ◌&&◌, cond, List, [], ◌∷◌, ◌++◌, length, get_or, refl, sym, ap, subst, ◌∙◌, arith, add-one, eqb-true}
use Rattle.std.specs.Prelude.{nat_lt, slice_index, unsigned_abs}
use Rattle.std.proofs.lemmas.Int.{ints}
use Rattle.std.proofs.lemmas.Bool.Decides.{nat_tests}
use Rattle.std.proofs.lemmas.Bool.{eqb-false, and_parts}
use Rattle.std.proofs.lemmas.List.{length-append, get_or_append_left, get_or_push, get_or_past}
use borrow.Author.Tests.{ltb-true}
use Rattle.tr_base.specs.declared.Point.{Point}
use Rattle.tr_base.specs.declared.Op.TheVariants.{Bg}
use Rattle.tr_base.specs.Ops.{IsPixel}
use Rattle.tr_base.specs.Rects.{Edges, between, before_shift, has_point}
use Rattle.tr_base.specs.Fonts.{glyph_bit}
use Rattle.tr_base.proofs.RectLemmas.{has_point-rect_of, between-empty}
use Rattle.tr_paint.specs.declared.Paint.{Paint}
use Rattle.tr_paint.specs.declared.Paint.TheVariants.{Tint, Text}
use Rattle.tr_paint.specs.Paints.{cells_of, text_bit}
use Rattle.tr_paint.specs.Traces.{Look, deed}
use Rattle.tr_paint.specs.Batches.{kept}
use Rattle.tr_paint.specs.Paintings.{IsPainting}
use Rattle.tr_paint.proofs.PaintingLemmas.{Makes, painting_alone, painting_more, painting_along}
use Rattle.tr_client.specs.Plain.{plain, colour_of}
use Rattle.tr_client.specs.Texts.{strip_of, begin_of, in_cells, line_colour, colour_in, upwards, downwards, cleared}
use Rattle.tr_client.proofs.PlainLemmas.{text-makes, meet-inside, pixel-text}
use Rattle.tr_client.proofs.StripLemmas.{below-strip, above-strip, there_and_back}

-- each kind has the colours of lines
pub pixel-colour_in : (look : Look) (lines : List (List ℕ)) (q : Point) → IsPixel look.kind (colour_in look lines q)
pixel-colour_in look lines q =
    let line = get_or lines (strip_of q) [] in
    pixel-text look.kind (in_cells (strip_of q) line q) (text_bit look.font (begin_of (strip_of q)) line q)

-- the cells of a line hold only points that have as many lines above them
pub cells-above : (above : ℕ) (line : List ℕ) (q : Point) → in_cells above line q ≡ true → strip_of q ≡ above
cells-above above line q here =
    let east = pos 0 +ℤ pos (8 * length line) in
    let both = and_parts _ _ (sym (has_point-rect_of (pos 0) east (pos (8 * above)) (pos (8 * above) +ℤ pos 8) q) ∙ here) in
    down above q.v both.1
  where
    down : (above : ℕ) (v : ℤ) → between (pos (8 * above)) (pos (8 * above) +ℤ pos 8) v ≡ true → unsigned_abs v / 8 ≡ above
    down above v h = grind (arith, ints, nat_tests)

-- where a line has no text all is background
pub no_text : (look : Look) (above : ℕ) (q : Point) → line_colour look above [] q ≡ 0
no_text look above q = ap (λ b. cond b (colour_of (text_bit look.font (begin_of above) [] q)) 0) nowhere
  where
    nowhere : in_cells above [] q ≡ false
    nowhere =
        has_point-rect_of (pos 0) (pos 0) (pos (8 * above)) (pos (8 * above) +ℤ pos 8) q
        ∙ ap (λ b. b && between (pos (8 * above)) (pos (8 * above) +ℤ pos 8) q.v) (between-empty (pos 0) (pos 0) q.h refl)

-- and so it is below the last line
pub colour-beyond : (look : Look) (lines : List (List ℕ)) (q : Point) → length lines ≤ strip_of q → colour_in look lines q ≡ 0
colour-beyond look lines q past =
    let above = strip_of q in
    ap (λ (line : List ℕ). line_colour look above line q) (get_or_past lines above [] past) ∙ no_text look above q

-- one item more is found at its own place alone
pub get_or-more : (xs : List (List ℕ)) (x : List ℕ) (i : ℕ) → (i ≡ length xs → ⊥) → get_or (xs ++ x ∷ []) i [] ≡ get_or xs i []
get_or-more xs x i apart = by_test (nat_lt i (length xs)) refl
  where
    by_test : (b : Bool) → nat_lt i (length xs) ≡ b → get_or (xs ++ x ∷ []) i [] ≡ get_or xs i []
    by_test true lt = get_or_append_left xs (x ∷ []) [] i (ltb-true i (length xs) lt)
    by_test false ge =
        let beyond : length xs < i = grind (arith, nat_tests) in
        let long : length (xs ++ x ∷ []) ≤ i = omega (arith, length-append xs (x ∷ [])) in
        get_or_past (xs ++ x ∷ []) i [] long ∙ sym (get_or_past xs i [] (omega arith))

-- one line more below the others gives the points of its cells its colours, and leaves all others
pub colour-more : (look : Look) (lines : List (List ℕ)) (line : List ℕ) (q : Point) →
    (let count = length lines in
    cond (in_cells count line q) (colour_of (text_bit look.font (begin_of count) line q)) (colour_in look lines q) ≡ colour_in look (lines ++ line ∷ []) q)
colour-more look lines line q = by_test (strip_of q) (strip_of q == length lines) refl refl
  where
    written : Bool → ℕ → ℕ
    written b old = cond b (colour_of (text_bit look.font (begin_of (length lines)) line q)) old

    by_test : (above : ℕ) (b : Bool) → strip_of q ≡ above → (above == length lines) ≡ b →
        written (in_cells (length lines) line q) (line_colour look above (get_or lines above []) q)
        ≡ line_colour look above (get_or (lines ++ line ∷ []) above []) q
    by_test above true is same =
        let here : above ≡ length lines = eqb-true above (length lines) same in
        let past = get_or_past lines (length lines) [] (omega arith) in
        rw here
        (ap (λ (old : List ℕ). written (in_cells (length lines) line q) (line_colour look (length lines) old q)) past
        ∙ ap (λ old. written (in_cells (length lines) line q) old) (no_text look (length lines) q)
        ∙ ap (λ (new : List ℕ). line_colour look (length lines) new q) (sym (get_or_push lines line [] (length lines) refl)))
    by_test above false is apart =
        let beside : above ≡ length lines → ⊥ = eqb-false above (length lines) apart in
        ap (λ b. written b (line_colour look above (get_or lines above []) q)) (outside (in_cells (length lines) line q) refl beside)
        ∙ ap (λ (new : List ℕ). line_colour look above new q) (sym (get_or-more lines line above beside))
      where
        outside : (b : Bool) → in_cells (length lines) line q ≡ b → (above ≡ length lines → ⊥) → in_cells (length lines) line q ≡ false
        outside true inside apart = absurd (apart (sym is ∙ cells-above (length lines) line q inside))
        outside false inside apart = inside

-- a line that stands one lower has the same colours eight points further down
pub colour-lower : (look : Look) (above : ℕ) (line : List ℕ) (q : Point) →
    line_colour look (above + 1) line (before_shift q upwards) ≡ line_colour look above line q
colour-lower look above line q =
    ap (λ b. coloured b (q.h -ℤ pos 0 -ℤ pos 0) (q.v -ℤ neg_ℤ (pos 8) -ℤ pos (8 * (above + 1)))) inside
    ∙ ap (λ h. coloured (in_cells above line q) h (q.v -ℤ neg_ℤ (pos 8) -ℤ pos (8 * (above + 1)))) (across q.h)
    ∙ ap (λ v. coloured (in_cells above line q) (q.h -ℤ pos 0) v) (down above q.v)
  where
    coloured : Bool → ℤ → ℤ → ℕ
    coloured b h v = cond b (colour_of (glyph_bit look.font (slice_index line (unsigned_abs h / 8)) (unsigned_abs h) (unsigned_abs v))) 0

    across : (h : ℤ) → h -ℤ pos 0 -ℤ pos 0 ≡ h -ℤ pos 0
    across h = omega (arith, ints)

    down : (above : ℕ) (v : ℤ) → v -ℤ neg_ℤ (pos 8) -ℤ pos (8 * (above + 1)) ≡ v -ℤ pos (8 * above)
    down above v = omega (arith, ints)

    columns : (k : ℕ) (h : ℤ) → between (pos 0) (pos 0 +ℤ pos (8 * k)) (h -ℤ pos 0) ≡ between (pos 0) (pos 0 +ℤ pos (8 * k)) h
    columns k h = grind (arith, ints)

    in_rows : ℕ → ℤ → Bool
    in_rows above v = between (pos (8 * above)) (pos (8 * above) +ℤ pos 8) v

    rows : (above : ℕ) (v : ℤ) → in_rows (above + 1) (v -ℤ neg_ℤ (pos 8)) ≡ in_rows above v
    rows above v = grind (arith, ints)

    inside : in_cells (above + 1) line (before_shift q upwards) ≡ in_cells above line q
    inside =
        let east = pos 0 +ℤ pos (8 * length line) in
        has_point-rect_of (pos 0) east (pos (8 * (above + 1))) (pos (8 * (above + 1)) +ℤ pos 8) (before_shift q upwards)
        ∙ ap (λ b. b && in_rows (above + 1) (q.v -ℤ neg_ℤ (pos 8))) (columns (length line) q.h)
        ∙ ap (λ b. between (pos 0) east q.h && b) (rows above q.v)
        ∙ sym (has_point-rect_of (pos 0) east (pos (8 * above)) (pos (8 * above) +ℤ pos 8) q)

-- and so it has one strip lower
pub colour-below : (look : Look) (line : List ℕ) (q : Point) → pos 0 ≤ℤ q.v →
    line_colour look (strip_of (before_shift q upwards)) line (before_shift q upwards) ≡ line_colour look (strip_of q) line q
colour-below look line q inside =
    ap (λ n. line_colour look n line (before_shift q upwards)) (below-strip q inside) ∙ colour-lower look (strip_of q) line q

pub colour-above : (look : Look) (line : List ℕ) (q : Point) → pos 0 ≤ℤ q.v → 0 < strip_of q →
    line_colour look (strip_of (before_shift q downwards)) line (before_shift q downwards) ≡ line_colour look (strip_of q) line q
colour-above look line q inside some =
    let p = before_shift q downwards in
    sym (colour-lower look (strip_of p) line p)
    ∙ ap (λ n. line_colour look n line (before_shift p upwards)) (sym (above-strip q inside some))
    ∙ ap (λ (r : Point). line_colour look (strip_of q) line r) (there_and_back q)

-- without the first line, each point has the colour of the point one line lower
pub colour-moved : (look : Look) (first : List ℕ) (lines : List (List ℕ)) (q : Point) → pos 0 ≤ℤ q.v →
    colour_in look (first ∷ lines) (before_shift q upwards) ≡ colour_in look lines q
colour-moved look first lines q inside =
    let p = before_shift q upwards in
    let next : get_or (first ∷ lines) (strip_of p) [] ≡ get_or lines (strip_of q) [] =
    ap (λ n. get_or (first ∷ lines) n []) (below-strip q inside ∙ add-one (strip_of q)) in
    ap (λ (line : List ℕ). line_colour look (strip_of p) line p) next ∙ colour-below look (get_or lines (strip_of q) []) q inside

-- a line that is written below the others makes the picture of one line more
pub line-makes : (look : Look) (part : Edges) (lines : List (List ℕ)) (line : List ℕ) (q : Point) → has_point part q ≡ true →
    Makes look.kind (deed look (Text plain part (begin_of (length lines)) line) q) (colour_in look lines q) (colour_in look (lines ++ line ∷ []) q)
line-makes look part lines line q here =
    let text : Paint = Text plain part (begin_of (length lines)) line in
    subst (λ (new : ℕ). Makes look.kind (deed look text q) (colour_in look lines q) new) (colour-more look lines line q)
    (text-makes look part (begin_of (length lines)) line q (colour_in look lines q) here)

-- a part that is cleared shows no line
pub cleared_painting : (look : Look) (part : Edges) → IsPainting look part (cleared part) (colour_in look [])
cleared_painting look part =
    painting_along look part (cleared part) (λ q. 0) (colour_in look []) (λ q here. sym (no_text look (strip_of q) q))
    (painting_alone look part (Tint part Bg) (λ q. 0) (λ q here. rw here refl) (λ q h. h))

-- while a part is painted, one line more is written below those that are
pub line_pushed : (look : Look) (part : Edges) (batch : List Paint) (lines : List (List ℕ)) (line : List ℕ) (above : ℕ) →
    above ≡ length lines → IsPainting look part batch (colour_in look lines) →
    IsPainting look part (batch ++ kept (Text plain part (begin_of above) line)) (colour_in look (lines ++ line ∷ []))
line_pushed look part batch lines line above is painted =
    let new = colour_in look (lines ++ line ∷ []) in
    let text : Paint = Text plain part (begin_of (length lines)) line in
    subst (λ (n : ℕ). IsPainting look part (batch ++ kept (Text plain part (begin_of n) line)) (colour_in look (lines ++ line ∷ []))) (sym is)
    (painting_more look part batch text (colour_in look lines) new painted (λ q here. line-makes look part lines line q here)
    (meet-inside part (cells_of (begin_of (length lines)) (length line))))
