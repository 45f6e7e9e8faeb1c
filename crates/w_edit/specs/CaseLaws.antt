-- An editor's patches lead from one picture to the next, case by case.
-- These proofs are in specs/ because an impl may cite nothing else of its crate. No contract cites them.
use Rattle.std.proofs.Common.{◌≡◌, ℕ, ◌+◌, ◌-◌, ◌/◌, ◌<◌, ◌≤◌, ◌==◌, ℤ, pos, neg_ℤ, ◌-ℤ◌, ◌≤ℤ◌, Bool, true, false, ◌&&◌, cond, List, [], ◌∷◌, ◌++◌, length, drop, map, ◌⊎◌, inl, inr, refl, sym, ap, ◌∙◌, arith, eqb-true}
use Prim.Native.Nat.{zero, suc}
use Rattle.std.specs.Prelude.{nat_lt, nat_le, unsigned_abs}
use Rattle.std.specs.List.{range_with_len}
use Rattle.std.proofs.lemmas.Int.{ints}
use Rattle.std.proofs.lemmas.Bool.Decides.{nat_tests}
use Rattle.std.proofs.lemmas.Bool.{eqb-false, and_parts}
use Rattle.std.proofs.lemmas.List.{length-take}
use borrow.Author.Tests.{ltb-true, leb-true}
use Rattle.tr_base.specs.declared.Point.{Point}
use Rattle.tr_base.specs.declared.Size.{Size}
use Rattle.tr_base.specs.declared.Op.TheVariants.{Bg}
use Rattle.tr_base.specs.Rects.{before_shift, between, has_point, whole_of}
use Rattle.tr_base.proofs.RectLemmas.{has_point-rect_of}
use Rattle.tr_paint.specs.declared.Paint.{Paint}
use Rattle.tr_paint.specs.declared.Paint.TheVariants.{Tint}
use Rattle.tr_paint.specs.Paints.{text_bit}
use Rattle.tr_paint.specs.Traces.{Look}
use Rattle.tr_paint.specs.Batches.{batch_of}
use Rattle.tr_paint.specs.Patches.{IsPatch}
use Rattle.tr_paint.proofs.RunLemmas.{run_one, run, run-append, patch_by_run}
use Rattle.tr_client.specs.Plain.{colour_of}
use Rattle.tr_client.specs.Texts.{room, strip_of, begin_of, in_cells, line_colour, colour_in, upwards, downwards}
use Rattle.tr_client.proofs.StripLemmas.{rows-from, scroll-left, below-strip, above-strip, above-inside, below-inside}
use Rattle.tr_client.proofs.LineLemmas.{colour-beyond, colour-below, colour-above}
use Rattle.w_edit.specs.Contents.{Contents}
use Rattle.w_edit.specs.Pictures.{top, shown_lines, caret, caret_strip, inverted, written, put, mark, raised, lowered, whole_painting, rewritten}
use Rattle.w_edit.specs.PatchLaws.{IsIn, line_in, line_for, over_line, colour-line, written-left, put-run, turned-twice, turned-other, mark-left}

-- the picture without the caret, and with it
abbrev pub bare : Look → Size → Contents → Point → ℕ
bare look size x q = colour_in look (shown_lines size x) q

abbrev pub with_caret : Look → Size → Contents → Point → ℕ
with_caret look size x q = inverted (caret size x) q (bare look size x q)

-- the line of a strip in the window
abbrev pub line_on : Size → Contents → ℕ → List ℕ
line_on size x k = line_in (room size) (top size x) x.lines k

-- the colours without the caret, given by the line of each strip
bare-line : (look : Look) (size : Size) (x : Contents) (q : Point) →
    bare look size x q ≡ line_colour look (strip_of q) (line_on size x (strip_of q)) q
bare-line look size x q = colour-line look (room size) (top size x) x.lines q

-- two contents have the same line in a strip
abbrev SameOn : Size → Contents → Contents → ℕ → Type 0
SameOn size x y k = line_on size x k ≡ line_on size y k

bare-same : (look : Look) (size : Size) (x y : Contents) (q : Point) → SameOn size x y (strip_of q) →
    bare look size x q ≡ bare look size y q
bare-same look size x y q same =
    bare-line look size x q ∙ ap (λ (line : List ℕ). line_colour look (strip_of q) line q) same ∙ sym (bare-line look size y q)

-- a strip that is put has its colours
put-bare : (look : Look) (size : Size) (y : Contents) (i : ℕ) (q : Point) → i < room size → (strip_of q == i) ≡ true →
    line_colour look i (line_for size y i) q ≡ bare look size y q
put-bare look size y i q within is =
    let here : strip_of q ≡ i = eqb-true (strip_of q) i is in
    let inside : nat_lt i (room size) ≡ true = grind (arith, nat_tests) in
    let line : line_for size y i ≡ line_on size y i = rw inside refl in
    ap (λ (l : List ℕ). line_colour look i l q) line
    ∙ ap (λ k. line_colour look k (line_on size y k) q) (sym here)
    ∙ sym (bare-line look size y q)

-- commands that make the new picture without the caret are a patch once the mark is added
pub with_mark : (look : Look) (size : Size) (x y : Contents) (cs : List Paint) →
    ((q : Point) → IsIn size q → run look cs (with_caret look size x) q ≡ bare look size y q) →
    IsPatch look size (batch_of (cs ++ mark size y ∷ [])) (with_caret look size x) (with_caret look size y)
with_mark look size x y cs makes = patch_by_run look size (cs ++ mark size y ∷ []) (with_caret look size x) (with_caret look size y)
    (λ q here.
    run-append look cs (mark size y ∷ []) (with_caret look size x) q
    ∙ mark-left look size y (λ r. run look cs (with_caret look size x) r) q here
    ∙ ap (λ n. inverted (caret size y) q n) (makes q here))

-- the caret's strip has room
pub caret-shown : (size : Size) (x : Contents) → 0 < room size → caret_strip size x < room size
caret-shown size x some = by_test (room size == 0) refl
  where
    by_test : (b : Bool) → (room size == 0) ≡ b → x.row - cond b 0 (x.row + 1 - room size) < room size
    by_test true none = let z : room size ≡ 0 = eqb-true (room size) 0 none in omega arith
    by_test false is = omega arith

-- within a line: the caret's strip is put, and all others stay
pub makes-rewritten : (look : Look) (size : Size) (x y : Contents) (q : Point) → IsIn size q → 0 < room size →
    caret_strip size x ≡ caret_strip size y →
    ((k : ℕ) → (k == caret_strip size y) ≡ false → SameOn size x y k) →
    run look (rewritten size y) (with_caret look size x) q ≡ bare look size y q
makes-rewritten look size x y q here some same others =
    put-run look size y (caret_strip size y) (with_caret look size x) q here ∙ by_test (strip_of q == caret_strip size y) refl
  where
    by_test : (b : Bool) → (strip_of q == caret_strip size y) ≡ b →
        cond b (line_colour look (caret_strip size y) (line_for size y (caret_strip size y)) q) (with_caret look size x q)
        ≡ bare look size y q
    by_test true is = put-bare look size y (caret_strip size y) q (caret-shown size y some) is
    by_test false apart =
        turned-other x.column (caret_strip size x) q (bare look size x q) (rows-from size q here)
        (ap (λ i. strip_of q == i) same ∙ apart)
        ∙ bare-same look size x y q (others (strip_of q) apart)

-- the caret is removed, and nothing else changes
unmarked : (look : Look) (size : Size) (x : Contents) (q : Point) → IsIn size q →
    run_one look (mark size x) (with_caret look size x) q ≡ bare look size x q
unmarked look size x q here = mark-left look size x (with_caret look size x) q here ∙ turned-twice (caret size x) q (bare look size x q)

-- two strips are put after a scroll
abbrev over_put : Look → Size → Contents → ℕ → Point → ℕ → ℕ
over_put look size y i q n = cond (strip_of q == i) (line_colour look i (line_for size y i) q) n

put-twice : (look : Look) (size : Size) (y : Contents) (a b : ℕ) (f : Point → ℕ) (q : Point) → IsIn size q →
    run look (put size y a ++ put size y b) f q ≡ over_put look size y b q (over_put look size y a q (f q))
put-twice look size y a b f q here =
    run-append look (put size y a) (put size y b) f q
    ∙ put-run look size y b (λ r. run look (put size y a) f r) q here
    ∙ ap (λ n. over_put look size y b q n) (put-run look size y a f q here)

-- the strips that aren't put have their colours already
over_put-bare : (look : Look) (size : Size) (y : Contents) (i : ℕ) (q : Point) (n : ℕ) → i < room size →
    ((strip_of q == i) ≡ false → n ≡ bare look size y q) → over_put look size y i q n ≡ bare look size y q
over_put-bare look size y i q n within other = by_test (strip_of q == i) refl
  where
    by_test : (b : Bool) → (strip_of q == i) ≡ b → cond b (line_colour look i (line_for size y i) q) n ≡ bare look size y q
    by_test true is = put-bare look size y i q within is
    by_test false apart = other apart

-- a scroll brings the new colours, without the caret, from the strip above, or below, if the lines agree
brought_down : (look : Look) (size : Size) (x y : Contents) (q : Point) → pos 0 ≤ℤ q.v → 0 < strip_of q →
    line_on size x (strip_of q - 1) ≡ line_on size y (strip_of q) →
    bare look size x (before_shift q downwards) ≡ bare look size y q
brought_down look size x y q inside some same =
    let p = before_shift q downwards in
    let up : strip_of p ≡ strip_of q - 1 = let h = above-strip q inside some in omega arith in
    bare-line look size x p
    ∙ ap (λ (line : List ℕ). line_colour look (strip_of p) line p) (ap (λ k. line_on size x k) up ∙ same)
    ∙ colour-above look (line_on size y (strip_of q)) q inside some
    ∙ sym (bare-line look size y q)

brought_up : (look : Look) (size : Size) (x y : Contents) (q : Point) → pos 0 ≤ℤ q.v →
    line_on size x (strip_of q + 1) ≡ line_on size y (strip_of q) →
    bare look size x (before_shift q upwards) ≡ bare look size y q
brought_up look size x y q inside same =
    let p = before_shift q upwards in
    bare-line look size x p
    ∙ ap (λ (line : List ℕ). line_colour look (strip_of p) line p) (ap (λ k. line_on size x k) (below-strip q inside) ∙ same)
    ∙ colour-below look (line_on size y (strip_of q)) q inside
    ∙ sym (bare-line look size y q)

-- the relation of the strips of two contents: above the caret they have the same lines, and below it the lines of
-- the first lie one strip lower in the second, or one higher
pub record IsLowered (size : Size) (x y : Contents) : Type 0 where
  pub next : caret_strip size y ≡ caret_strip size x + 1
  pub over : (k : ℕ) → k < caret_strip size x → SameOn size x y k
  pub under : (k : ℕ) → caret_strip size y < k → k < room size → line_on size x (k - 1) ≡ line_on size y k

pub record IsRaised (size : Size) (x y : Contents) : Type 0 where
  pub next : caret_strip size x ≡ caret_strip size y + 1
  pub over : (k : ℕ) → k < caret_strip size y → SameOn size x y k
  pub under : (k : ℕ) → caret_strip size y < k → k + 1 < room size → line_on size x (k + 1) ≡ line_on size y k

-- strips without room have no line
no_room : (size : Size) (x y : Contents) (k : ℕ) → room size ≤ k → SameOn size x y k
no_room size x y k past =
    let beyond : nat_lt k (room size) ≡ false = grind (arith, nat_tests) in
    rw beyond refl

-- a caret in another strip than the point's doesn't change the point's colour
aside : (look : Look) (size : Size) (x : Contents) (p : Point) → pos 0 ≤ℤ p.v → (strip_of p ≡ caret_strip size x → ⊥) →
    with_caret look size x p ≡ bare look size x p
aside look size x p inside apart =
    turned-other x.column (caret_strip size x) p (bare look size x p) inside (by_test (strip_of p == caret_strip size x) refl)
  where
    by_test : (b : Bool) → (strip_of p == caret_strip size x) ≡ b → (strip_of p == caret_strip size x) ≡ false
    by_test true is = absurd (apart (eqb-true (strip_of p) (caret_strip size x) is))
    by_test false is = is

-- a line broken: the strips below the caret get the pixels of those above them, and the two parts of the line are put
pub makes-broken : (look : Look) (size : Size) (x y : Contents) (q : Point) → IsIn size q → 0 < room size → IsLowered size x y →
    (let i = caret_strip size y in
    run look (lowered size (i + 1) (room size) ∷ put size y (i - 1) ++ put size y i) (with_caret look size x) q ≡ bare look size y q)
makes-broken look size x y q here some low =
    let i = caret_strip size y in
    let within : i < room size = caret-shown size y some in
    let scrolled : Point → ℕ = λ r. run_one look (lowered size (i + 1) (room size)) (with_caret look size x) r in
    put-twice look size y (i - 1) i scrolled q here
    ∙ over_put-bare look size y i q (over_put look size y (i - 1) q (scrolled q)) within
    (λ apart. over_put-bare look size y (i - 1) q (scrolled q) (omega arith)
    (λ apart'. scroll-left look size (i + 1) (room size) downwards (with_caret look size x) q here
    ∙ by_test (nat_le (i + 1) (strip_of q) && nat_lt (strip_of q) (room size)) refl apart apart'))
  where
    by_test : (b : Bool) → nat_le (caret_strip size y + 1) (strip_of q) && nat_lt (strip_of q) (room size) ≡ b →
        (strip_of q == caret_strip size y) ≡ false → (strip_of q == caret_strip size y - 1) ≡ false →
        cond b (with_caret look size x (before_shift q downwards)) (with_caret look size x q) ≡ bare look size y q
    by_test true moves apart apart' =
        let next = low.next in
        let inside = rows-from size q here in
        let lower : caret_strip size y < strip_of q = grind (arith, nat_tests) in
        let shows : strip_of q < room size = grind (arith, nat_tests) in
        let some' : 0 < strip_of q = omega arith in
        let up = above-strip q inside some' in
        aside look size x (before_shift q downwards) (above-inside q inside some') (λ is. absurd (omega arith))
        ∙ brought_down look size x y q inside some' (low.under (strip_of q) lower shows)
    by_test false stays apart apart' =
        let next = low.next in
        let inside = rows-from size q here in
        let one : strip_of q ≡ caret_strip size y → ⊥ = eqb-false (strip_of q) (caret_strip size y) apart in
        let other : strip_of q ≡ caret_strip size y - 1 → ⊥ = eqb-false (strip_of q) (caret_strip size y - 1) apart' in
        aside look size x q inside (λ is. other (omega arith))
        ∙ bare-same look size x y q (by_place (nat_lt (strip_of q) (caret_strip size x)) refl one other)
      where
        by_place : (b : Bool) → nat_lt (strip_of q) (caret_strip size x) ≡ b →
            (strip_of q ≡ caret_strip size y → ⊥) → (strip_of q ≡ caret_strip size y - 1 → ⊥) →
            SameOn size x y (strip_of q)
        by_place true above one other = low.over (strip_of q) (ltb-true (strip_of q) (caret_strip size x) above)
        by_place false below one other =
            let next = low.next in
            let past : room size ≤ strip_of q = grind (arith, nat_tests) in
            no_room size x y (strip_of q) past

-- two lines joined: the strips below the caret get the pixels of those below them, and the last strip and the caret's are put
pub makes-joined : (look : Look) (size : Size) (x y : Contents) (q : Point) → IsIn size q → 0 < room size → IsRaised size x y →
    (let i = caret_strip size y in
    let last = room size - 1 in
    run look (raised size (i + 1) last ∷ put size y last ++ put size y i) (with_caret look size x) q ≡ bare look size y q)
makes-joined look size x y q here some high =
    let i = caret_strip size y in
    let last = room size - 1 in
    let within : i < room size = caret-shown size y some in
    let scrolled : Point → ℕ = λ r. run_one look (raised size (i + 1) last) (with_caret look size x) r in
    put-twice look size y last i scrolled q here
    ∙ over_put-bare look size y i q (over_put look size y last q (scrolled q)) within
    (λ apart. over_put-bare look size y last q (scrolled q) (omega arith)
    (λ apart'. scroll-left look size (i + 1) last upwards (with_caret look size x) q here
    ∙ by_test (nat_le (i + 1) (strip_of q) && nat_lt (strip_of q) last) refl apart apart'))
  where
    by_test : (b : Bool) → nat_le (caret_strip size y + 1) (strip_of q) && nat_lt (strip_of q) (room size - 1) ≡ b →
        (strip_of q == caret_strip size y) ≡ false → (strip_of q == room size - 1) ≡ false →
        cond b (with_caret look size x (before_shift q upwards)) (with_caret look size x q) ≡ bare look size y q
    by_test true moves apart apart' =
        let next = high.next in
        let inside = rows-from size q here in
        let lower : caret_strip size y < strip_of q = grind (arith, nat_tests) in
        let shows : strip_of q + 1 < room size = grind (arith, nat_tests) in
        let down = below-strip q inside in
        aside look size x (before_shift q upwards) (below-inside q inside) (λ is. absurd (omega arith))
        ∙ brought_up look size x y q inside (high.under (strip_of q) lower shows)
    by_test false stays apart apart' =
        let next = high.next in
        let inside = rows-from size q here in
        let shown' : caret_strip size x < room size = caret-shown size x some in
        let one : strip_of q ≡ caret_strip size y → ⊥ = eqb-false (strip_of q) (caret_strip size y) apart in
        let other : strip_of q ≡ room size - 1 → ⊥ = eqb-false (strip_of q) (room size - 1) apart' in
        let place : strip_of q ≡ caret_strip size x → ⊥ =
        λ is. above_or_past (nat_lt (strip_of q) (caret_strip size y)) refl is one other shown' in
        aside look size x q inside place
        ∙ bare-same look size x y q (by_place (nat_lt (strip_of q) (caret_strip size y)) refl one other)
      where
        above_or_past : (b : Bool) → nat_lt (strip_of q) (caret_strip size y) ≡ b → strip_of q ≡ caret_strip size x →
            (strip_of q ≡ caret_strip size y → ⊥) → (strip_of q ≡ room size - 1 → ⊥) → caret_strip size x < room size → ⊥
        above_or_past true above is one other shown' =
            let next = high.next in
            let less = ltb-true (strip_of q) (caret_strip size y) above in
            omega arith
        above_or_past false below is one other shown' =
            let next = high.next in
            let past : room size ≤ strip_of q = grind (arith, nat_tests) in
            omega arith

        by_place : (b : Bool) → nat_lt (strip_of q) (caret_strip size y) ≡ b → (strip_of q ≡ caret_strip size y → ⊥) →
            (strip_of q ≡ room size - 1 → ⊥) → SameOn size x y (strip_of q)
        by_place true above one other = high.over (strip_of q) (ltb-true (strip_of q) (caret_strip size y) above)
        by_place false below one other =
            let past : room size ≤ strip_of q = grind (arith, nat_tests) in
            no_room size x y (strip_of q) past

-- the caret moves: it is removed if the top stays
pub makes-unmarked : (look : Look) (size : Size) (x y : Contents) (q : Point) → IsIn size q → x.lines ≡ y.lines → top size x ≡ top size y →
    run look (mark size x ∷ []) (with_caret look size x) q ≡ bare look size y q
makes-unmarked look size x y q here lines first = unmarked look size x q here ∙ bare-same look size x y q (rw (lines, first) refl)

-- a strip is put after a scroll, and the caret was removed before it
one_put : (look : Look) (size : Size) (x y : Contents) (scroll : Paint) (i : ℕ) (q : Point) → IsIn size q →
    run look (mark size x ∷ scroll ∷ put size y i) (with_caret look size x) q
    ≡ over_put look size y i q (run_one look scroll (λ r. run_one look (mark size x) (with_caret look size x) r) q)
one_put look size x y scroll i q here = put-run look size y i _ q here

-- the point one strip below a point of the strips lies in the window, and so does the point above
below-window : (size : Size) (q : Point) → IsIn size q → strip_of q + 1 < room size →
    has_point (whole_of size) (before_shift q upwards) ≡ true
below-window size q here shows =
    let both = and_parts _ _ (sym (has_point-rect_of (pos 0) (pos size.wide) (pos 0) (pos size.high) q) ∙ here) in
    has_point-rect_of (pos 0) (pos size.wide) (pos 0) (pos size.high) (before_shift q upwards)
    ∙ rw (across size.wide q.h both.0, down size.high q.v both.1 shows) refl
  where
    across : (w : ℕ) (h : ℤ) → between (pos 0) (pos w) h ≡ true → between (pos 0) (pos w) (h -ℤ pos 0) ≡ true
    across w h is = grind (arith, ints)

    down : (n : ℕ) (v : ℤ) → between (pos 0) (pos n) v ≡ true → unsigned_abs v / 8 + 1 < n / 8 →
        between (pos 0) (pos n) (v -ℤ neg_ℤ (pos 8)) ≡ true
    down n v is shows = grind (arith, ints)

above-window : (size : Size) (q : Point) → IsIn size q → 0 < strip_of q → has_point (whole_of size) (before_shift q downwards) ≡ true
above-window size q here some =
    let both = and_parts _ _ (sym (has_point-rect_of (pos 0) (pos size.wide) (pos 0) (pos size.high) q) ∙ here) in
    has_point-rect_of (pos 0) (pos size.wide) (pos 0) (pos size.high) (before_shift q downwards)
    ∙ rw (across size.wide q.h both.0, down size.high q.v both.1 some) refl
  where
    across : (w : ℕ) (h : ℤ) → between (pos 0) (pos w) h ≡ true → between (pos 0) (pos w) (h -ℤ pos 0) ≡ true
    across w h is = grind (arith, ints)

    down : (n : ℕ) (v : ℤ) → between (pos 0) (pos n) v ≡ true → 0 < unsigned_abs v / 8 → between (pos 0) (pos n) (v -ℤ pos 8) ≡ true
    down n v is some = grind (arith, ints)

-- the caret moves one row below the window: the lines move upwards
pub makes-raised : (look : Look) (size : Size) (x y : Contents) (q : Point) → IsIn size q → 0 < room size →
    x.lines ≡ y.lines → top size y ≡ top size x + 1 →
    run look (mark size x ∷ raised size 0 (room size - 1) ∷ put size y (room size - 1)) (with_caret look size x) q ≡ bare look size y q
makes-raised look size x y q here some lines next =
    let last = room size - 1 in
    let off : Point → ℕ = λ r. run_one look (mark size x) (with_caret look size x) r in
    one_put look size x y (raised size 0 last) last q here
    ∙ over_put-bare look size y last q (run_one look (raised size 0 last) off q) (omega arith)
    (λ apart. scroll-left look size 0 last upwards off q here ∙ by_test (nat_le 0 (strip_of q) && nat_lt (strip_of q) last) refl apart)
  where
    by_test : (b : Bool) → nat_le 0 (strip_of q) && nat_lt (strip_of q) (room size - 1) ≡ b → (strip_of q == room size - 1) ≡ false →
        cond b (run_one look (mark size x) (with_caret look size x) (before_shift q upwards))
        (run_one look (mark size x) (with_caret look size x) q) ≡ bare look size y q
    by_test true moves apart =
        let shows : strip_of q + 1 < room size = grind (arith, nat_tests) in
        unmarked look size x (before_shift q upwards) (below-window size q here shows)
        ∙ brought_up look size x y q (rows-from size q here) (same shows)
      where
        same : strip_of q + 1 < room size → line_on size x (strip_of q + 1) ≡ line_on size y (strip_of q)
        same shows =
            let one : nat_lt (strip_of q + 1) (room size) ≡ true = grind (arith, nat_tests) in
            let other : nat_lt (strip_of q) (room size) ≡ true = grind (arith, nat_tests) in
            let at : top size x + (strip_of q + 1) ≡ top size y + strip_of q = omega arith in
            rw (one, other, lines, at) refl
    by_test false stays apart =
        let other : strip_of q ≡ room size - 1 → ⊥ = eqb-false (strip_of q) (room size - 1) apart in
        let past : room size ≤ strip_of q = grind (arith, nat_tests) in
        unmarked look size x q here ∙ bare-same look size x y q (no_room size x y (strip_of q) past)

-- the caret moves one row above the window: the lines move downwards
pub makes-lowered : (look : Look) (size : Size) (x y : Contents) (q : Point) → IsIn size q → 0 < room size →
    x.lines ≡ y.lines → top size x ≡ top size y + 1 →
    run look (mark size x ∷ lowered size 1 (room size) ∷ put size y 0) (with_caret look size x) q ≡ bare look size y q
makes-lowered look size x y q here some lines next =
    let off : Point → ℕ = λ r. run_one look (mark size x) (with_caret look size x) r in
    one_put look size x y (lowered size 1 (room size)) 0 q here
    ∙ over_put-bare look size y 0 q (run_one look (lowered size 1 (room size)) off q) some
    (λ apart. scroll-left look size 1 (room size) downwards off q here
    ∙ by_test (nat_le 1 (strip_of q) && nat_lt (strip_of q) (room size)) refl apart)
  where
    by_test : (b : Bool) → nat_le 1 (strip_of q) && nat_lt (strip_of q) (room size) ≡ b → (strip_of q == 0) ≡ false →
        cond b (run_one look (mark size x) (with_caret look size x) (before_shift q downwards))
        (run_one look (mark size x) (with_caret look size x) q) ≡ bare look size y q
    by_test true moves apart =
        let some' : 0 < strip_of q = grind (arith, nat_tests) in
        let shows : strip_of q < room size = grind (arith, nat_tests) in
        unmarked look size x (before_shift q downwards) (above-window size q here some')
        ∙ brought_down look size x y q (rows-from size q here) some' (same some' shows)
      where
        same : 0 < strip_of q → strip_of q < room size → line_on size x (strip_of q - 1) ≡ line_on size y (strip_of q)
        same some' shows =
            let one : nat_lt (strip_of q - 1) (room size) ≡ true = grind (arith, nat_tests) in
            let other : nat_lt (strip_of q) (room size) ≡ true = grind (arith, nat_tests) in
            let at : top size x + (strip_of q - 1) ≡ top size y + strip_of q = omega arith in
            rw (one, other, lines, at) refl
    by_test false stays apart =
        let other : strip_of q ≡ 0 → ⊥ = eqb-false (strip_of q) 0 apart in
        let past : room size ≤ strip_of q = grind (arith, nat_tests) in
        unmarked look size x q here ∙ bare-same look size x y q (no_room size x y (strip_of q) past)

-- the colours of the line that the point's strip shows, if it is one of those written
abbrev line_there : Look → Size → Contents → Point → ℕ
line_there look size y q = line_colour look (strip_of q) (line_for size y (strip_of q)) q

-- all is painted anew: a line that is written over the background has its colours, and keeps them
writes-step : (look : Look) (size : Size) (y : Contents) (i : ℕ) (old : Point → ℕ) (q : Point) → IsIn size q →
    (old q ≡ 0) ⊎ (old q ≡ line_there look size y q) → (strip_of q == i) ≡ true →
    run_one look (written size y i) old q ≡ line_there look size y q
writes-step look size y i old q here was is =
    written-left look size y i old q here
    ∙ ap (λ b. cond b (over_line look i (line_for size y i) q (old q)) (old q)) is
    ∙ ap (λ k. over_line look k (line_for size y k) q (old q)) (sym (eqb-true (strip_of q) i is))
    ∙ elim was [
      | inl none ↦ ap (λ n. over_line look (strip_of q) (line_for size y (strip_of q)) q n) none
      | inr line ↦ ap (λ n. over_line look (strip_of q) (line_for size y (strip_of q)) q n) line
          ∙ again (in_cells (strip_of q) (line_for size y (strip_of q)) q)
          (colour_of (text_bit look.font (begin_of (strip_of q)) (line_for size y (strip_of q)) q))
    ]
  where
    again : (b : Bool) (bit : ℕ) → cond b bit (cond b bit 0) ≡ cond b bit 0
    again true bit = refl
    again false bit = refl

writes-other : (look : Look) (size : Size) (y : Contents) (i : ℕ) (old : Point → ℕ) (q : Point) → IsIn size q →
    (strip_of q == i) ≡ false → run_one look (written size y i) old q ≡ old q
writes-other look size y i old q here apart = written-left look size y i old q here ∙ rw apart refl

writes-kept : (look : Look) (size : Size) (y : Contents) (is : List ℕ) (old : Point → ℕ) (q : Point) → IsIn size q →
    old q ≡ line_there look size y q → run look (map (written size y) is) old q ≡ line_there look size y q
writes-kept look size y [] old q here was = was
writes-kept look size y (i ∷ is) old q here was =
    writes-kept look size y is (λ r. run_one look (written size y i) old r) q here (by_test (strip_of q == i) refl)
  where
    by_test : (b : Bool) → (strip_of q == i) ≡ b → run_one look (written size y i) old q ≡ line_there look size y q
    by_test true is' = writes-step look size y i old q here (inr was) is'
    by_test false apart = writes-other look size y i old q here apart ∙ was

writes-reach : (look : Look) (size : Size) (y : Contents) (first count : ℕ) (old : Point → ℕ) (q : Point) → IsIn size q →
    old q ≡ 0 → first ≤ strip_of q → strip_of q < first + count →
    run look (map (written size y) (range_with_len first count)) old q ≡ line_there look size y q
writes-reach look size y first zero old q here was from to = absurd (omega arith)
writes-reach look size y first (suc count) old q here was from to =
    by_test (strip_of q == first) refl (λ g was' from'. writes-reach look size y (first + 1) count g q here was' from' (omega arith))
  where
    by_test : (b : Bool) → (strip_of q == first) ≡ b →
        ((g : Point → ℕ) → g q ≡ 0 → first + 1 ≤ strip_of q →
        run look (map (written size y) (range_with_len (first + 1) count)) g q ≡ line_there look size y q) →
        run look (map (written size y) (range_with_len (first + 1) count)) (λ r. run_one look (written size y first) old r) q
        ≡ line_there look size y q
    by_test true is later =
        writes-kept look size y (range_with_len (first + 1) count) _ q here
        (writes-step look size y first old q here (inl was) is)
    by_test false apart later =
        let beside : strip_of q ≡ first → ⊥ = eqb-false (strip_of q) first apart in
        later _ (writes-other look size y first old q here apart ∙ was) (by_order (nat_le (first + 1) (strip_of q)) refl beside)
      where
        by_order : (b : Bool) → nat_le (first + 1) (strip_of q) ≡ b → (strip_of q ≡ first → ⊥) → first + 1 ≤ strip_of q
        by_order true le beside = leb-true (first + 1) (strip_of q) le
        by_order false gt beside = absurd (beside (grind (arith, nat_tests)))

writes-none : (look : Look) (size : Size) (y : Contents) (first count : ℕ) (old : Point → ℕ) (q : Point) → IsIn size q →
    first + count ≤ strip_of q → run look (map (written size y) (range_with_len first count)) old q ≡ old q
writes-none look size y first zero old q here past = refl
writes-none look size y first (suc count) old q here past =
    let apart : (strip_of q == first) ≡ false = grind (arith, nat_tests) in
    writes-none look size y (first + 1) count _ q here (omega arith) ∙ writes-other look size y first old q here apart

pub makes-repainted : (look : Look) (size : Size) (x y : Contents) (q : Point) → IsIn size q →
    run look (whole_painting size y) (with_caret look size x) q ≡ bare look size y q
makes-repainted look size x y q here = by_test (nat_lt (strip_of q) (length (shown_lines size y))) refl
  where
    background : run_one look (Tint (whole_of size) Bg) (with_caret look size x) q ≡ 0
    background = rw here refl

    by_test : (b : Bool) → nat_lt (strip_of q) (length (shown_lines size y)) ≡ b →
        run look (map (written size y) (range_with_len 0 (length (shown_lines size y))))
        (λ r. run_one look (Tint (whole_of size) Bg) (with_caret look size x) r) q
        ≡ bare look size y q
    by_test true within =
        let less : strip_of q < length (shown_lines size y) = ltb-true (strip_of q) (length (shown_lines size y)) within in
        let room_for : strip_of q < room size = omega (arith, length-take (room size) (drop (top size y) y.lines)) in
        let inside : nat_lt (strip_of q) (room size) ≡ true = grind (arith, nat_tests) in
        writes-reach look size y 0 (length (shown_lines size y)) _ q here background (omega arith) (omega arith)
        ∙ rw (bare-line look size y q, inside) refl
    by_test false beyond =
        let past : length (shown_lines size y) ≤ strip_of q = grind (arith, nat_tests) in
        writes-none look size y 0 (length (shown_lines size y)) _ q here (omega arith)
        ∙ background
        ∙ sym (colour-beyond look (shown_lines size y) q past)
