-- An editor's patches lead from one picture to the next.
-- These proofs are in specs/ because an impl may cite nothing else of its crate. No contract cites them.
use Rattle.std.proofs.Common.{◌≡◌, ℕ, ◌+◌, ◌*◌, ◌/◌, ◌≤◌, ◌==◌, ℤ, pos, ◌≤ℤ◌, Bool, true, false, ◌&&◌, cond, List, [], length, take, drop, get_or, refl, sym, ap, ◌∙◌, arith, eqb-true}
use Rattle.std.specs.Prelude.{nat_lt, unsigned_abs}
use Rattle.std.proofs.lemmas.Int.{ints}
use Rattle.std.proofs.lemmas.Bool.Decides.{nat_tests}
use Rattle.std.proofs.lemmas.List.{length-take, get_or-take, get_or-drop, get_or_past}
use borrow.Author.Tests.{ltb-true}
use Rattle.tr_base.specs.declared.Point.{Point}
use Rattle.tr_base.specs.declared.Size.{Size}
use Rattle.tr_base.specs.declared.Kind.{Kind}
use Rattle.tr_base.specs.declared.Kind.TheVariants.{Mono, Map4, Map8}
use Rattle.tr_base.specs.declared.Op.TheVariants.{Bg, Exchange}
use Rattle.tr_base.specs.Ops.{exchanged}
use Rattle.tr_base.specs.Rects.{Edges, between, has_point, whole_of}
use Rattle.tr_base.proofs.RectLemmas.{has_point-rect_of, has_point-meet_of}
use Rattle.tr_paint.specs.declared.Paint.TheVariants.{Tint}
use Rattle.tr_paint.specs.Paints.{cells_of, text_bit}
use Rattle.tr_paint.specs.Traces.{Look, Keep, Change, deed}
use Rattle.tr_paint.proofs.RunLemmas.{left, run_one, run, makes-left}
use Rattle.tr_client.specs.Plain.{colour_of}
use Rattle.tr_client.specs.Texts.{strip_of, begin_of, in_cells, line_colour, colour_in}
use Rattle.tr_client.proofs.PlainLemmas.{text-makes}
use Rattle.tr_client.proofs.StripLemmas.{strip-has}
use Rattle.w_edit.specs.Contents.{Contents, line_at}
use Rattle.w_edit.specs.Pictures.{top, cell, caret, inverted, strip, written, put, mark}

-- a point lies in a window
abbrev pub IsIn : Size → Point → Type 0
IsIn size q = has_point (whole_of size) q ≡ true

-- the line of a strip, if `rows` strips show the lines from `first` on
abbrev pub line_in : ℕ → ℕ → List (List ℕ) → ℕ → List ℕ
line_in rows first lines k = cond (nat_lt k rows) (get_or lines (first + k) []) []

-- the colours, given by the line of each strip
pub colour-line : (look : Look) (rows first : ℕ) (lines : List (List ℕ)) (q : Point) →
    colour_in look (take rows (drop first lines)) q ≡ line_colour look (strip_of q) (line_in rows first lines (strip_of q)) q
colour-line look rows first lines q = ap (λ (line : List ℕ). line_colour look (strip_of q) line q) (by_test (nat_lt (strip_of q) rows) refl)
  where
    by_test : (b : Bool) → nat_lt (strip_of q) rows ≡ b →
        get_or (take rows (drop first lines)) (strip_of q) [] ≡ cond b (get_or lines (first + strip_of q) []) []
    by_test true within =
        get_or-take rows (drop first lines) (strip_of q) [] (ltb-true (strip_of q) rows within) ∙ get_or-drop first lines (strip_of q) []
    by_test false beyond =
        let past : rows ≤ strip_of q = grind (arith, nat_tests) in
        get_or_past (take rows (drop first lines)) (strip_of q) [] (omega (arith, length-take rows (drop first lines)))

-- the colour of a point after a line is written in a strip: in its cells the text's colour, and else the old one
abbrev pub over_line : Look → ℕ → List ℕ → Point → ℕ → ℕ
over_line look i line q old = cond (in_cells i line q) (colour_of (text_bit look.font (begin_of i) line q)) old

-- the line that an editor shows in a strip that has room
abbrev pub line_for : Size → Contents → ℕ → List ℕ
line_for size y i = line_at y (top size y + i)

-- a line is written over the old pixels of its strip
pub written-left : (look : Look) (size : Size) (y : Contents) (i : ℕ) (old : Point → ℕ) (q : Point) → IsIn size q →
    run_one look (written size y i) old q ≡ cond (strip_of q == i) (over_line look i (line_for size y i) q (old q)) (old q)
written-left look size y i old q here = by_test (strip_of q == i) (strip-has size i q here)
  where
    by_test : (b : Bool) → has_point (strip size i) q ≡ b →
        run_one look (written size y i) old q ≡ cond b (over_line look i (line_for size y i) q (old q)) (old q)
    by_test true within =
        makes-left look.kind (deed look (written size y i) q) old q (old q) _ refl
        (text-makes look (strip size i) (begin_of i) (line_for size y i) q (old q) within)
    by_test false outside = rw (has_point-meet_of (strip size i) (cells_of (begin_of i) (length (line_for size y i))) q, outside) refl

-- a strip that is put has the colours of its line, over any old pixels
pub put-run : (look : Look) (size : Size) (y : Contents) (i : ℕ) (old : Point → ℕ) (q : Point) → IsIn size q →
    run look (put size y i) old q ≡ cond (strip_of q == i) (line_colour look i (line_for size y i) q) (old q)
put-run look size y i old q here =
    written-left look size y i (λ r. run_one look (Tint (strip size i) Bg) old r) q here
    ∙ by_test (strip_of q == i) (strip-has size i q here)
  where
    by_test : (b : Bool) → has_point (strip size i) q ≡ b →
        cond b (over_line look i (line_for size y i) q (run_one look (Tint (strip size i) Bg) old q))
        (run_one look (Tint (strip size i) Bg) old q)
        ≡ cond b (line_colour look i (line_for size y i) q) (old q)
    by_test true within = rw within refl
    by_test false outside = rw outside refl

-- two exchanges in the same cell cancel out
pub turned-twice : (e : Edges) (q : Point) (n : ℕ) → inverted e q (inverted e q n) ≡ n
turned-twice e q n = by_test (has_point e q) (n == 0) (n == 1) refl refl
  where
    by_test : (b z o : Bool) → (n == 0) ≡ z → (n == 1) ≡ o →
        cond b (exchanged 0 1 (cond b (exchanged 0 1 n) n)) (cond b (exchanged 0 1 n) n) ≡ n
    by_test false z o zero one = refl
    by_test true true o zero one = rw zero (sym (eqb-true n 0 zero))
    by_test true false true zero one = rw (zero, one) (sym (eqb-true n 1 one))
    by_test true false false zero one = rw (zero, one, zero, one) refl

-- an exchange changes no point of other strips
pub turned-other : (column i : ℕ) (q : Point) (n : ℕ) → pos 0 ≤ℤ q.v → (strip_of q == i) ≡ false → inverted (cell column i) q n ≡ n
turned-other column i q n inside apart =
    ap (λ b. cond b (exchanged 0 1 n) n) outside
  where
    down : (i : ℕ) (v : ℤ) (b : Bool) → pos 0 ≤ℤ v → (unsigned_abs v / 8 == i) ≡ false →
        b && between (pos (8 * i)) (pos (8 * i + 8)) v ≡ false
    down i v true inside apart = grind (arith, ints, nat_tests)
    down i v false inside apart = refl

    outside : has_point (cell column i) q ≡ false
    outside =
        has_point-rect_of (pos (8 * column)) (pos (8 * column + 8)) (pos (8 * i)) (pos (8 * i + 8)) q
        ∙ down i q.v (between (pos (8 * column)) (pos (8 * column + 8)) q.h) inside apart

-- the mark is such an exchange
pub mark-left : (look : Look) (size : Size) (y : Contents) (old : Point → ℕ) (q : Point) → IsIn size q →
    run_one look (mark size y) old q ≡ inverted (caret size y) q (old q)
mark-left look size y old q here =
    rw (has_point-meet_of (whole_of size) (caret size y) q, here) (by_test (has_point (caret size y) q) look.kind)
  where
    by_test : (b : Bool) (kind : Kind) → left kind (cond b (Change (Exchange 0 1)) Keep) old q ≡ cond b (exchanged 0 1 (old q)) (old q)
    by_test true Mono = refl
    by_test true Map4 = refl
    by_test true Map8 = refl
    by_test false kind = refl
