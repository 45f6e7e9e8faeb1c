-- An Editor obeys the laws of clients.
-- These proofs are in specs/ because an impl may cite nothing else of its crate. No contract cites them.
use Rattle.std.proofs.Common.{◌≡◌, ℕ, ◌+◌, ◌-◌, ◌<◌, ◌≤◌, ◌==◌, min, Bool, true, false, ◌&&◌, ◌||◌, not, cond, List, [], ◌∷◌, ◌++◌, length, take, drop, get_or, map, refl, sym, ap, subst, ◌∙◌, arith, eqb-true}
use Rattle.std.specs.Prelude.{nat_lt, nat_le, ◌↔◌}
use Rattle.std.specs.List.{range_with_len}
use Rattle.std.proofs.lemmas.Bool.Decides.{nat_tests}
use Rattle.std.proofs.lemmas.Bool.{eqb-false, and_parts}
use Rattle.std.proofs.lemmas.Grind.{flat_map-append}
use Rattle.std.proofs.lemmas.List.{length-take, length-drop, get_or_append_left, get_or-append_right, get_or-take, get_or-drop, take_min}
use borrow.Author.Tests.{ltb-true}
use Rattle.tr_base.specs.declared.Point.{Point}
use Rattle.tr_base.specs.declared.Size.{Size}
use Rattle.tr_base.specs.declared.Kind.{Kind}
use Rattle.tr_base.specs.declared.Kind.TheVariants.{Mono, Map4, Map8}
use Rattle.tr_base.specs.declared.Op.TheVariants.{Bg, Exchange}
use Rattle.tr_base.specs.Ops.{exchanged, IsPixel}
use Rattle.tr_base.specs.Rects.{Edges, has_point, meet_of, whole_of, empty_rect}
use Rattle.tr_base.proofs.OpLemmas.{pixel-bit, pixel-exchanged}
use Rattle.tr_base.proofs.RectLemmas.{has_point-meet_of}
use Rattle.tr_paint.specs.declared.Paint.{Paint}
use Rattle.tr_paint.specs.declared.Paint.TheVariants.{Tint, Scroll}
use Rattle.tr_paint.specs.Paints.{cells_of}
use Rattle.tr_paint.specs.Traces.{Look, Keep, Change}
use Rattle.tr_paint.specs.Batches.{kept, batch_of}
use Rattle.tr_paint.specs.Patches.{IsPatch}
use Rattle.tr_paint.specs.Paintings.{IsPainting}
use Rattle.tr_paint.proofs.PatchLemmas.{no_patch}
use Rattle.tr_paint.proofs.PaintingLemmas.{Makes, painting_more, painting_along}
use Rattle.tr_client.specs.Laws.{IsWindowSize, is_flat, Survives}
use Rattle.tr_client.proofs.KeepingLemmas.{survives-meet, survives-nothing}
use Rattle.tr_client.proofs.FlatLemmas.{flat-whole, meet-nothing}
use Rattle.tr_client.proofs.PlainLemmas.{meet-inside}
use Rattle.tr_client.specs.Texts.{room, strip_of, begin_of, colour_in, strips_between, upwards, downwards}
use Rattle.tr_client.proofs.StripLemmas.{no_columns}
use Rattle.tr_client.proofs.LineLemmas.{no_text, pixel-colour_in}
use Rattle.w_edit.specs.declared.commands.EditorCmd.{EditorCmd}
use Rattle.w_edit.specs.declared.commands.EditorCmd.TheVariants.{Insert, Erase, Split, Goto, Copy, Paste}
use Rattle.w_edit.specs.Contents.{Contents, IsContents, line_at, line_of, before, behind, above, below, inserted, erased, joined_above, broken, caret_to, effect, fits, can_join, acts, editor_next, IsEditorCmd}
use Rattle.w_edit.specs.Pictures.{top, shown_lines, cell, caret, caret_strip, inverted, strip, written, put, mark, raised, lowered, whole_painting, rewritten, caret_moved, line_broken, lines_joined, patch_without_mark, is_copy, editor_pic, editor_patch, editor_keeps}
use Rattle.w_edit.specs.PatchLaws.{line_in, line_for}
use Rattle.w_edit.specs.CaseLaws.{bare, with_caret, line_on, IsLowered, IsRaised, with_mark, makes-rewritten, makes-broken, makes-joined, makes-unmarked, makes-raised, makes-lowered, makes-repainted}

-- the top is at most the caret's row
top-row : (size : Size) (x : Contents) → top size x ≤ x.row
top-row size x = by_test (room size == 0) refl
  where
    by_test : (b : Bool) → (room size == 0) ≡ b → cond b 0 (x.row + 1 - room size) ≤ x.row
    by_test true none = omega arith
    by_test false some = let apart = eqb-false (room size) 0 some in omega arith

-- if lines are replaced, the lines before them stay, and so do the lines after them
kept_before : (lines rest : List (List ℕ)) (from j : ℕ) → from ≤ length lines → j < from →
    get_or (take from lines ++ rest) j [] ≡ get_or lines j []
kept_before lines rest from j fits before =
    get_or_append_left (take from lines) rest [] j (omega (arith, length-take from lines)) ∙ get_or-take from lines j [] before

kept_behind : (lines new : List (List ℕ)) (from to j : ℕ) → from ≤ length lines → from + length new ≤ j →
    get_or (take from lines ++ (new ++ drop to lines)) j [] ≡ get_or lines (to + (j - from - length new)) []
kept_behind lines new from to j fits behind =
    get_or-append_right (take from lines) (new ++ drop to lines) from j [] (omega (arith, length-take from lines)) (omega arith)
    ∙ get_or-append_right new (drop to lines) (length new) (j - from) [] refl (omega arith)
    ∙ get_or-drop to lines (j - from - length new) []

kept_beside : (lines : List (List ℕ)) (line : List ℕ) (row j : ℕ) → row < length lines → (j ≡ row → ⊥) →
    get_or (take row lines ++ line ∷ drop (row + 1) lines) j [] ≡ get_or lines j []
kept_beside lines line row j fits apart = by_test (nat_lt j row) refl apart
  where
    by_test : (b : Bool) → nat_lt j row ≡ b → (j ≡ row → ⊥) →
        get_or (take row lines ++ line ∷ drop (row + 1) lines) j [] ≡ get_or lines j []
    by_test true lt apart = kept_before lines (line ∷ drop (row + 1) lines) row j (omega arith) (ltb-true j row lt)
    by_test false ge apart =
        let le : row ≤ j = grind (arith, nat_tests) in
        let more : row + 1 ≤ j = by_order (nat_lt row j) refl le apart in
        let at : row + 1 + (j - row - 1) ≡ j = omega arith in
        kept_behind lines (line ∷ []) row (row + 1) j (omega arith) more ∙ ap (λ n. get_or lines n []) at
      where
        by_order : (b : Bool) → nat_lt row j ≡ b → row ≤ j → (j ≡ row → ⊥) → row + 1 ≤ j
        by_order true lt le apart = let l : row < j = ltb-true row j lt in omega arith
        by_order false ge le apart = absurd (apart (grind (arith, nat_tests)))

-- one line was replaced
line_changed : (size : Size) (x : Contents) (line : List ℕ) (k : ℕ) → IsContents x → (k == caret_strip size x) ≡ false →
    line_in (room size) (top size x) x.lines k ≡ line_in (room size) (top size x) (above x ++ line ∷ below x) k
line_changed size x line k is apart =
    let beside : k ≡ caret_strip size x → ⊥ = eqb-false k (caret_strip size x) apart in
    let first = top-row size x in
    ap (λ l. cond (nat_lt k (room size)) l []) (sym (kept_beside x.lines line x.row (top size x + k) is.row (λ e. beside (omega arith))))

-- a line was broken
is_lowered : (size : Size) (x : Contents) → IsContents x → top size (broken x) ≡ top size x → IsLowered size x (broken x)
is_lowered size x is same = record {
  next = let first = top-row size x in omega arith;
  over = λ k less.
      let at : top size (broken x) + k ≡ top size x + k = omega arith in
      ap (λ l. cond (nat_lt k (room size)) l [])
      (sym (ap (λ n. get_or (broken x).lines n []) at
      ∙ kept_before x.lines (before x ∷ behind x ∷ below x) x.row (top size x + k) (let r = is.row in omega arith) (omega arith)));
  under = λ k more shows.
      let first = top-row size x in
      let one : nat_lt (k - 1) (room size) ≡ true = grind (arith, nat_tests) in
      let other : nat_lt k (room size) ≡ true = grind (arith, nat_tests) in
      let at : x.row + 1 + (top size (broken x) + k - x.row - 2) ≡ top size x + (k - 1) = omega arith in
      rw (one, other)
      (sym (kept_behind x.lines (before x ∷ behind x ∷ []) x.row (x.row + 1) (top size (broken x) + k)
      (let r = is.row in omega arith) (omega arith)
      ∙ ap (λ n. get_or x.lines n []) at));
}

-- two lines were joined
is_raised : (size : Size) (x : Contents) → IsContents x → 0 < x.row → top size (joined_above x) ≡ top size x →
    IsRaised size x (joined_above x)
is_raised size x is some same = record {
  next = let first = top-row size (joined_above x) in omega arith;
  over = λ k less.
      let at : top size (joined_above x) + k ≡ top size x + k = omega arith in
      ap (λ l. cond (nat_lt k (room size)) l [])
      (sym (ap (λ n. get_or (joined_above x).lines n []) at
      ∙ kept_before x.lines ((line_at x (x.row - 1) ++ line_of x) ∷ below x) (x.row - 1) (top size x + k)
      (let r = is.row in omega arith) (omega arith)));
  under = λ k more shows.
      let first = top-row size (joined_above x) in
      let one : nat_lt (k + 1) (room size) ≡ true = grind (arith, nat_tests) in
      let other : nat_lt k (room size) ≡ true = grind (arith, nat_tests) in
      let at : x.row + 1 + (top size (joined_above x) + k - (x.row - 1) - 1) ≡ top size x + (k + 1) = omega arith in
      rw (one, other)
      (sym (kept_behind x.lines ((line_at x (x.row - 1) ++ line_of x) ∷ []) (x.row - 1) (x.row + 1) (top size (joined_above x) + k)
      (let r = is.row in omega arith) (omega arith)
      ∙ ap (λ n. get_or x.lines n []) at));
}

-- the law of patches, command by command, if some line has room
abbrev LeadsByCommand : Look → Size → Contents → Contents → List Paint → Type 0
LeadsByCommand look size x y cs = IsPatch look size (batch_of (cs ++ mark size y ∷ [])) (with_caret look size x) (with_caret look size y)

leads-rewritten : (look : Look) (size : Size) (x y : Contents) → 0 < room size → caret_strip size x ≡ caret_strip size y →
    ((k : ℕ) → (k == caret_strip size y) ≡ false → line_on size x k ≡ line_on size y k) → LeadsByCommand look size x y (rewritten size y)
leads-rewritten look size x y some same others =
    with_mark look size x y (rewritten size y) (λ q here. makes-rewritten look size x y q here some same others)

leads-repainted : (look : Look) (size : Size) (x y : Contents) → LeadsByCommand look size x y (whole_painting size y)
leads-repainted look size x y = with_mark look size x y (whole_painting size y) (λ q here. makes-repainted look size x y q here)

leads-joined : (look : Look) (size : Size) (x : Contents) → IsContents x → 0 < room size → 0 < x.row →
    LeadsByCommand look size x (joined_above x) (lines_joined size x (joined_above x))
leads-joined look size x is some row = by_test (top size (joined_above x) == top size x) refl
  where
    by_test : (b : Bool) → (top size (joined_above x) == top size x) ≡ b →
        (let i = caret_strip size (joined_above x) in
        let last = room size - 1 in
        LeadsByCommand look size x (joined_above x)
        (cond b (raised size (i + 1) last ∷ put size (joined_above x) last ++ put size (joined_above x) i)
        (whole_painting size (joined_above x))))
    by_test true same =
        let first : top size (joined_above x) ≡ top size x = eqb-true (top size (joined_above x)) (top size x) same in
        with_mark look size x (joined_above x)
        (raised size (caret_strip size (joined_above x) + 1) (room size - 1)
        ∷ put size (joined_above x) (room size - 1) ++ put size (joined_above x) (caret_strip size (joined_above x)))
        (λ q here. makes-joined look size x (joined_above x) q here some (is_raised size x is row first))
    by_test false other = leads-repainted look size x (joined_above x)

leads-broken : (look : Look) (size : Size) (x : Contents) → IsContents x → 0 < room size →
    LeadsByCommand look size x (broken x) (line_broken size x (broken x))
leads-broken look size x is some = by_test (top size (broken x) == top size x) refl
  where
    by_test : (b : Bool) → (top size (broken x) == top size x) ≡ b →
        (let i = caret_strip size (broken x) in
        LeadsByCommand look size x (broken x)
        (cond b (lowered size (i + 1) (room size) ∷ put size (broken x) (i - 1) ++ put size (broken x) i) (whole_painting size (broken x))))
    by_test true same =
        let first : top size (broken x) ≡ top size x = eqb-true (top size (broken x)) (top size x) same in
        with_mark look size x (broken x)
        (lowered size (caret_strip size (broken x) + 1) (room size)
        ∷ put size (broken x) (caret_strip size (broken x) - 1) ++ put size (broken x) (caret_strip size (broken x)))
        (λ q here. makes-broken look size x (broken x) q here some (is_lowered size x is first))
    by_test false other = leads-repainted look size x (broken x)

leads-moved : (look : Look) (size : Size) (x y : Contents) → 0 < room size → x.lines ≡ y.lines →
    LeadsByCommand look size x y (caret_moved size x y)
leads-moved look size x y some lines =
    by_tests (top size y == top size x) (top size y == top size x + 1) (top size x == top size y + 1) refl refl refl
  where
    by_tests : (s d u : Bool) → (top size y == top size x) ≡ s → (top size y == top size x + 1) ≡ d → (top size x == top size y + 1) ≡ u →
        (let last = room size - 1 in
        LeadsByCommand look size x y (cond s (mark size x ∷ []) (cond d (mark size x ∷ raised size 0 last ∷ put size y last)
        (cond u (mark size x ∷ lowered size 1 (room size) ∷ put size y 0) (whole_painting size y)))))
    by_tests true d u same down up =
        with_mark look size x y (mark size x ∷ [])
        (λ q here. makes-unmarked look size x y q here lines (sym (eqb-true (top size y) (top size x) same)))
    by_tests false true u same down up =
        with_mark look size x y (mark size x ∷ raised size 0 (room size - 1) ∷ put size y (room size - 1))
        (λ q here. makes-raised look size x y q here some lines (eqb-true (top size y) (top size x + 1) down))
    by_tests false false true same down up =
        with_mark look size x y (mark size x ∷ lowered size 1 (room size) ∷ put size y 0)
        (λ q here. makes-lowered look size x y q here some lines (eqb-true (top size x) (top size y + 1) up))
    by_tests false false false same down up = leads-repainted look size x y

leads : (look : Look) (size : Size) (x : Contents) (cmd : EditorCmd) → IsContents x → 0 < room size → acts x cmd ≡ true →
    is_copy cmd ≡ false → LeadsByCommand look size x (effect x cmd) (patch_without_mark size x (effect x cmd) cmd)
leads look size x (Insert text) is some does other =
    leads-rewritten look size x (inserted x text) some refl (λ k apart. line_changed size x (before x ++ text ++ behind x) k is apart)
leads look size x Erase is some does other = by_column (x.column == 0) refl does
  where
    by_column : (b : Bool) → (x.column == 0) ≡ b → cond b (can_join x) true ≡ true →
        (let y = cond b (joined_above x) (erased x) in LeadsByCommand look size x y (cond b (lines_joined size x y) (rewritten size y)))
    by_column true first can =
        leads-joined look size x is some
        (ltb-true 0 x.row (and_parts (nat_lt 0 x.row) (nat_le (length (line_at x (x.row - 1)) + length (line_of x)) 80) can).0)
    by_column false later can =
        leads-rewritten look size x (erased x) some refl
        (λ k apart. line_changed size x (take (x.column - 1) (line_of x) ++ behind x) k is apart)
leads look size x Split is some does other = leads-broken look size x is some
leads look size x (Goto row column) is some does other = leads-moved look size x (caret_to x row column) some refl
leads look size x (Copy from to) is some does other = cc
leads look size x Paste is some does other =
    leads-rewritten look size x (inserted x x.clip) some refl (λ k apart. line_changed size x (before x ++ x.clip ++ behind x) k is apart)

-- the law of patches
pub editor_patches : (look : Look) (size : Size) (x : Contents) (cmd : EditorCmd) → IsContents x → IsEditorCmd cmd → IsWindowSize size →
    IsPatch look size (editor_patch look size x cmd) (editor_pic look size x) (editor_pic look size (editor_next x cmd))
editor_patches look size x cmd is known small = by_tests (room size == 0) (is_copy cmd) (acts x cmd) refl refl refl
  where
    same-copy : (cmd : EditorCmd) (a : Bool) (q : Point) → is_copy cmd ≡ true →
        with_caret look size x q ≡ with_caret look size (cond a (effect x cmd) x) q
    same-copy (Insert text) a q copy = cc
    same-copy Erase a q copy = cc
    same-copy Split a q copy = cc
    same-copy (Goto row column) a q copy = cc
    same-copy (Copy from to) true q copy = refl
    same-copy (Copy from to) false q copy = refl
    same-copy Paste a q copy = cc

    by_tests : (z c a : Bool) → (room size == 0) ≡ z → is_copy cmd ≡ c → acts x cmd ≡ a →
        IsPatch look size (cond (z || c || not a) [] (batch_of
        (patch_without_mark size x (effect x cmd) cmd ++ mark size (effect x cmd) ∷ [])))
        (λ q. cond z 0 (with_caret look size x q)) (λ q. cond z 0 (with_caret look size (cond a (effect x cmd) x) q))
    by_tests true c a none copy does = no_patch look size _ _ (λ q here. refl)
    by_tests false true a some copy does = no_patch look size _ _ (λ q here. same-copy cmd a q copy)
    by_tests false false true some copy does =
        let apart = eqb-false (room size) 0 some in
        leads look size x cmd is (omega arith) does copy
    by_tests false false false some copy does = no_patch look size _ _ (λ q here. refl)

-- commands whose areas are all empty
abbrev AreNone : List Paint → Type 0
AreNone cs = batch_of cs ≡ []

both_none : (xs ys : List Paint) → AreNone xs → AreNone ys → AreNone (xs ++ ys)
both_none xs ys first second = flat_map-append kept xs ys ∙ rw (first, second) refl

no-scroll : (size : Size) (from to : ℕ) (delta : Point) → size.wide ≡ 0 → AreNone (Scroll (strips_between size from to) delta ∷ [])
no-scroll size from to delta flat = rw (no_columns size from to flat) refl

no-written : (size : Size) (y : Contents) (i : ℕ) → size.wide ≡ 0 → AreNone (written size y i ∷ [])
no-written size y i flat = rw (no_columns size i (i + 1) flat, meet-nothing (cells_of (begin_of i) (length (line_for size y i)))) refl

no-put : (size : Size) (y : Contents) (i : ℕ) → size.wide ≡ 0 → AreNone (put size y i)
no-put size y i flat =
    both_none (Tint (strip size i) Bg ∷ []) (written size y i ∷ []) (rw (no_columns size i (i + 1) flat) refl) (no-written size y i flat)

no-mark : (size : Size) (y : Contents) → whole_of size ≡ empty_rect → AreNone (mark size y ∷ [])
no-mark size y flat = rw (flat, meet-nothing (caret size y)) refl

no-lines : (size : Size) (y : Contents) (is : List ℕ) → size.wide ≡ 0 → AreNone (map (written size y) is)
no-lines size y [] flat = refl
no-lines size y (i ∷ is) flat =
    both_none (written size y i ∷ []) (map (written size y) is) (no-written size y i flat) (no-lines size y is flat)

no-repainted : (size : Size) (y : Contents) → size.wide ≡ 0 → whole_of size ≡ empty_rect → AreNone (whole_painting size y)
no-repainted size y flat none =
    both_none (Tint (whole_of size) Bg ∷ []) (map (written size y) (range_with_len 0 (length (shown_lines size y)))) (rw none refl)
    (no-lines size y (range_with_len 0 (length (shown_lines size y))) flat)

no-painted : (size : Size) (x y : Contents) (cmd : EditorCmd) → size.wide ≡ 0 → whole_of size ≡ empty_rect →
    AreNone (patch_without_mark size x y cmd)
no-painted size x y (Insert text) flat none = no-put size y (caret_strip size y) flat
no-painted size x y Erase flat none = by_tests (x.column == 0) (top size y == top size x)
  where
    by_tests : (b s : Bool) → (let i = caret_strip size y in let last = room size - 1 in
        AreNone (cond b (cond s (raised size (i + 1) last ∷ put size y last ++ put size y i) (whole_painting size y)) (rewritten size y)))
    by_tests true true =
        both_none (raised size (caret_strip size y + 1) (room size - 1) ∷ [])
        (put size y (room size - 1) ++ put size y (caret_strip size y))
        (no-scroll size (caret_strip size y + 1) (room size - 1) upwards flat)
        (both_none (put size y (room size - 1)) (put size y (caret_strip size y))
        (no-put size y (room size - 1) flat) (no-put size y (caret_strip size y) flat))
    by_tests true false = no-repainted size y flat none
    by_tests false s = no-put size y (caret_strip size y) flat
no-painted size x y Split flat none = by_test (top size y == top size x)
  where
    by_test : (s : Bool) → (let i = caret_strip size y in
        AreNone (cond s (lowered size (i + 1) (room size) ∷ put size y (i - 1) ++ put size y i) (whole_painting size y)))
    by_test true =
        both_none (lowered size (caret_strip size y + 1) (room size) ∷ [])
        (put size y (caret_strip size y - 1) ++ put size y (caret_strip size y))
        (no-scroll size (caret_strip size y + 1) (room size) downwards flat)
        (both_none (put size y (caret_strip size y - 1)) (put size y (caret_strip size y))
        (no-put size y (caret_strip size y - 1) flat) (no-put size y (caret_strip size y) flat))
    by_test false = no-repainted size y flat none
no-painted size x y (Goto row column) flat none =
    by_tests (top size y == top size x) (top size y == top size x + 1) (top size x == top size y + 1)
  where
    by_tests : (s d u : Bool) →
        (let last = room size - 1 in
        AreNone (cond s (mark size x ∷ []) (cond d (mark size x ∷ raised size 0 last ∷ put size y last)
        (cond u (mark size x ∷ lowered size 1 (room size) ∷ put size y 0) (whole_painting size y)))))
    by_tests true d u = no-mark size x none
    by_tests false true u =
        both_none (mark size x ∷ []) (raised size 0 (room size - 1) ∷ put size y (room size - 1)) (no-mark size x none)
        (both_none (raised size 0 (room size - 1) ∷ []) (put size y (room size - 1))
        (no-scroll size 0 (room size - 1) upwards flat) (no-put size y (room size - 1) flat))
    by_tests false false true =
        both_none (mark size x ∷ []) (lowered size 1 (room size) ∷ put size y 0) (no-mark size x none)
        (both_none (lowered size 1 (room size) ∷ []) (put size y 0) (no-scroll size 1 (room size) downwards flat) (no-put size y 0 flat))
    by_tests false false false = no-repainted size y flat none
no-painted size x y (Copy from to) flat none = refl
no-painted size x y Paste flat none = no-put size y (caret_strip size y) flat

-- the patch of a window without points has no command
pub editor_empty_patches : (look : Look) (size : Size) (x : Contents) (cmd : EditorCmd) → IsContents x → IsEditorCmd cmd →
    IsWindowSize size → is_flat size ≡ true → editor_patch look size x cmd ≡ []
editor_empty_patches look size x cmd is known small flat = by_tests (room size == 0) (is_copy cmd) (acts x cmd) refl
  where
    by_tests : (z c a : Bool) → (room size == 0) ≡ z →
        cond (z || c || not a) [] (batch_of (patch_without_mark size x (effect x cmd) cmd ++ mark size (effect x cmd) ∷ [])) ≡ []
    by_tests true c a none = refl
    by_tests false true a some = refl
    by_tests false false false some = refl
    by_tests false false true some =
        let apart = eqb-false (room size) 0 some in
        let high : 0 < size.high = omega arith in
        let no_column : size.wide ≡ 0 = grind (arith, nat_tests) in
        let none = flat-whole size flat in
        both_none (patch_without_mark size x (effect x cmd) cmd) (mark size (effect x cmd) ∷ [])
        (no-painted size x (effect x cmd) cmd no_column none) (no-mark size (effect x cmd) none)

-- two beginnings of a list with the same number of elements are equal
take-same : (lines : List (List ℕ)) (m n : ℕ) → length (take m lines) ≡ length (take n lines) → take m lines ≡ take n lines
take-same lines m n same =
    let equal : min m (length lines) ≡ min n (length lines) = omega (arith, same, length-take m lines, length-take n lines) in
    sym (take_min m lines) ∙ ap (λ k. take k lines) equal ∙ take_min n lines

-- the kept points lie in both windows, and have the same colours in both
pub editor_keeping : (look : Look) (from to : Size) (x : Contents) → IsContents x → IsWindowSize from → IsWindowSize to →
    Survives (editor_keeps x from to) from to (editor_pic look from x) (editor_pic look to x)
editor_keeping look from to x is small small' =
    by_tests (top from x == top to x) (length (shown_lines from x) == length (shown_lines to x)) refl refl
  where
    some_shown : (size : Size) → 0 < room size → 0 < length (shown_lines size x)
    some_shown size some =
        let first = top-row size x in
        let r = is.row in
        omega (arith, length-take (room size) (drop (top size x) x.lines), length-drop (top size x) x.lines)

    none_shown : (size : Size) → room size ≡ 0 → length (shown_lines size x) ≡ 0
    none_shown size none = omega (arith, length-take (room size) (drop (top size x) x.lines))

    same_colour : top from x ≡ top to x → length (shown_lines from x) ≡ length (shown_lines to x) → (q : Point) → (a b : Bool) →
        (room from == 0) ≡ a → (room to == 0) ≡ b → cond a 0 (with_caret look from x q) ≡ cond b 0 (with_caret look to x q)
    same_colour first count q true true one other = refl
    same_colour first count q true false one other =
        let none = none_shown from (eqb-true (room from) 0 one) in
        let apart = eqb-false (room to) 0 other in
        let some = some_shown to (omega arith) in
        absurd (omega arith)
    same_colour first count q false true one other =
        let none = none_shown to (eqb-true (room to) 0 other) in
        let apart = eqb-false (room from) 0 one in
        let some = some_shown from (omega arith) in
        absurd (omega arith)
    same_colour first count q false false one other =
        let lines : shown_lines from x ≡ shown_lines to x =
        ap (λ n. take (room from) (drop n x.lines)) first
        ∙ take-same (drop (top to x) x.lines) (room from) (room to)
        (ap (λ n. length (take (room from) (drop n x.lines))) (sym first) ∙ count) in
        ap (λ n. inverted (cell x.column (x.row - n)) q (colour_in look (shown_lines from x) q)) first
        ∙ ap (λ (ls : List (List ℕ)). inverted (caret to x) q (colour_in look ls q)) lines

    by_tests : (t n : Bool) → (top from x == top to x) ≡ t → (length (shown_lines from x) == length (shown_lines to x)) ≡ n →
        Survives (cond (t && n) (meet_of (whole_of from) (whole_of to)) empty_rect) from to (editor_pic look from x) (editor_pic look to x)
    by_tests true true first count =
        survives-meet from to (editor_pic look from x) (editor_pic look to x)
        (λ q h k. same_colour (eqb-true (top from x) (top to x) first)
        (eqb-true (length (shown_lines from x)) (length (shown_lines to x)) count) q
        (room from == 0) (room to == 0) refl refl)
    by_tests true false first count = survives-nothing from to (editor_pic look from x) (editor_pic look to x)
    by_tests false n first count = survives-nothing from to (editor_pic look from x) (editor_pic look to x)

-- each colour is one of two, in the caret's cell too
pub editor_kinds : (look : Look) (size : Size) (x : Contents) (p : Point) → IsContents x → IsWindowSize size →
    IsPixel look.kind (editor_pic look size x p)
editor_kinds look size x p is small = by_tests (room size == 0) (has_point (caret size x) p)
  where
    zero : IsPixel look.kind 0
    zero = pixel-bit look.kind 0 (omega arith)

    one : IsPixel look.kind 1
    one = pixel-bit look.kind 1 (omega arith)

    lines : IsPixel look.kind (bare look size x p)
    lines = pixel-colour_in look (shown_lines size x) p

    by_tests : (none here : Bool) → IsPixel look.kind (cond none 0 (cond here (exchanged 0 1 (bare look size x p)) (bare look size x p)))
    by_tests true here = zero
    by_tests false true = pixel-exchanged look.kind 0 1 (bare look size x p) zero one lines
    by_tests false false = lines

-- the caret is marked in a part after its lines are painted
pub caret_pushed : (look : Look) (part : Edges) (batch : List Paint) (e : Edges) (picture : Point → ℕ) →
    IsPainting look part batch picture →
    IsPainting look part (batch ++ kept (Tint (meet_of part e) (Exchange 0 1))) (λ q. inverted e q (picture q))
caret_pushed look part batch e picture painted =
    painting_more look part batch (Tint (meet_of part e) (Exchange 0 1)) picture (λ q. inverted e q (picture q)) painted
    (λ q here. rw (has_point-meet_of part e q, here) (by_test (has_point e q) look.kind (picture q)))
    (meet-inside part e)
  where
    by_test : (b : Bool) (kind : Kind) (n : ℕ) → Makes kind (cond b (Change (Exchange 0 1)) Keep) n (cond b (exchanged 0 1 n) n)
    by_test true Mono n = refl
    by_test true Map4 n = refl
    by_test true Map8 n = refl
    by_test false kind n = refl

-- the lines alone are the picture if no line has room; else the caret is added to them
pub lines_are_painting : (look : Look) (size : Size) (x : Contents) (part : Edges) (batch : List Paint) → room size ≡ 0 →
    IsPainting look part batch (colour_in look (shown_lines size x)) → IsPainting look part batch (editor_pic look size x)
lines_are_painting look size x part batch none painted =
    painting_along look part batch (colour_in look (shown_lines size x)) (editor_pic look size x)
    (λ q here. subst (λ n. colour_in look (take n (drop (top size x) x.lines)) q ≡ cond (n == 0) 0 (with_caret look size x q)) (sym none)
    (no_text look (strip_of q) q))
    painted

pub caret_is_painting : (look : Look) (size : Size) (x : Contents) (part : Edges) (batch : List Paint) → (room size ≡ 0 → ⊥) →
    IsPainting look part batch (colour_in look (shown_lines size x)) →
    IsPainting look part (batch ++ kept (Tint (meet_of part (caret size x)) (Exchange 0 1))) (editor_pic look size x)
caret_is_painting look size x part batch some painted = by_test (room size == 0) refl
  where
    by_test : (b : Bool) → (room size == 0) ≡ b →
        IsPainting look part (batch ++ kept (Tint (meet_of part (caret size x)) (Exchange 0 1))) (λ q. cond b 0 (with_caret look size x q))
    by_test true none = absurd (some (eqb-true (room size) 0 none))
    by_test false is = caret_pushed look part batch (caret size x) (colour_in look (shown_lines size x)) painted

-- an effective command that doesn't copy changes the content
changes : (x : Contents) (cmd : EditorCmd) → acts x cmd ≡ true → is_copy cmd ≡ false → effect x cmd ≡ x → ⊥
changes x (Insert text) does other same = put_changes text does same
  where
    put_changes : (text : List ℕ) → fits x text ≡ true → inserted x text ≡ x → ⊥
    put_changes text does same =
        let column : x.column + length text ≡ x.column = ap (λ (y : Contents). y.column) same in
        let some : 0 < length text =
        ltb-true 0 (length text) (and_parts (nat_lt 0 (length text)) (nat_le (length (line_of x) + length text) 80) does).0 in
        omega arith
changes x Erase does other same = by_column (x.column == 0) refl does same
  where
    by_column : (b : Bool) → (x.column == 0) ≡ b → cond b (can_join x) true ≡ true → cond b (joined_above x) (erased x) ≡ x → ⊥
    by_column true first can same =
        let row : x.row - 1 ≡ x.row = ap (λ (y : Contents). y.row) same in
        let some : 0 < x.row =
        ltb-true 0 x.row (and_parts (nat_lt 0 x.row) (nat_le (length (line_at x (x.row - 1)) + length (line_of x)) 80) can).0 in
        omega arith
    by_column false later can same =
        let column : x.column - 1 ≡ x.column = ap (λ (y : Contents). y.column) same in
        let apart = eqb-false x.column 0 later in
        omega arith
changes x Split does other same = let row : x.row + 1 ≡ x.row = ap (λ (y : Contents). y.row) same in omega arith
changes x (Goto row column) does other same =
    let stays : not (x.row == x.row && x.column == x.column) ≡ true =
    sym (ap (λ (y : Contents). not (y.row == x.row && y.column == x.column)) same) ∙ does in
    let one : (x.row == x.row) ≡ true = grind (arith, nat_tests) in
    let two : (x.column == x.column) ≡ true = grind (arith, nat_tests) in
    let never : false ≡ true = rw (one, two) at stays in cc
changes x (Copy from to) does other same = cc
changes x Paste does other same =
    let column : x.column + length x.clip ≡ x.column = ap (λ (y : Contents). y.column) same in
    let some : 0 < length x.clip =
    ltb-true 0 (length x.clip) (and_parts (nat_lt 0 (length x.clip)) (nat_le (length (line_of x) + length x.clip) 80) does).0 in
    omega arith

-- a command that doesn't copy leaves the content unchanged if and only if it isn't effective
pub editor_stays : (x : Contents) (cmd : EditorCmd) → is_copy cmd ≡ false → (acts x cmd ≡ false) ↔ (editor_next x cmd ≡ x)
editor_stays x cmd other = (λ idle. rw idle refl, λ same. by_test (acts x cmd) refl same)
  where
    by_test : (b : Bool) → acts x cmd ≡ b → cond b (effect x cmd) x ≡ x → acts x cmd ≡ false
    by_test true does same = absurd (changes x cmd does other same)
    by_test false idle same = idle
