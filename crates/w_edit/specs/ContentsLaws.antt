-- Contents cut at the caret; commands keep contents valid.
-- These proofs are in specs/ because an impl may cite nothing else of its crate. No contract cites them.
use Rattle.std.proofs.Common.{◌≡◌, ℕ, ◌+◌, ◌-◌, ◌<◌, ◌≤◌, ◌==◌, Bool, true, false, cond, List, [], ◌∷◌, ◌++◌, length, take, drop, Some, None, refl, sym, ap, subst, ◌∙◌, arith, append_assoc}
use Rattle.std.specs.Prelude.{All, nat_lt, nat_le, IfSome}
use Rattle.std.proofs.lemmas.Bool.{eqb-false, and_parts}
use Rattle.std.proofs.lemmas.List.{length-append, length-take, length-drop, take-append-drop, drop_more, get_or_at}
use Rattle.std.proofs.lemmas.List.Elements.{All-nil, All-cons, All-push, All-append, All-take, All-drop, All-get_or}
use borrow.Author.Tests.{ltb-true, leb-true}
use Rattle.tr_base.specs.declared.Event.{Event}
use Rattle.tr_base.specs.declared.Event.TheVariants.{Key}
use Rattle.tr_base.specs.Lines.{IsLine, is_printable}
use Rattle.tr_client.specs.Laws.{IsEvent}
use Rattle.tr_client.specs.Texts.{most_lines}
use Rattle.tr_client.proofs.TextLemmas.{line_in_a_row}
use Rattle.w_edit.specs.declared.commands.EditorCmd.{EditorCmd}
use Rattle.w_edit.specs.declared.commands.EditorCmd.TheVariants.{Insert, Erase, Split, Goto, Copy, Paste}
use Rattle.w_edit.specs.Numbers.{most_bytes}
use Rattle.w_edit.specs.Contents.{Contents, IsContents, line_at, line_of, before, behind, above, below, inserted, erased, joined_above, broken, caret_to, copied, effect, fits, can_join, acts, editor_next, IsEditorCmd, editor_answer}

-- a text cut at the caret: the lines above, the bytes before and behind the caret, and the lines below
abbrev pub zipped : List (List ℕ) → List ℕ → List ℕ → List (List ℕ) → List ℕ → Contents
zipped over front back under clip = record {
  lines = over ++ (front ++ back) ∷ under;
  row = length over;
  column = length front;
  clip = clip;
}

-- each content is a text cut at its caret
pub is_zipped : (x : Contents) → IsContents x → x ≡ zipped (above x) (before x) (behind x) (below x) x.clip
is_zipped x is =
    rw (take-append-drop x.column (line_of x), lines, row, column) refl
  where
    row : length (above x) ≡ x.row
    row = let r = is.row in omega (arith, length-take x.row x.lines)

    column : length (before x) ≡ x.column
    column = let c = is.column in omega (arith, length-take x.column (line_of x))

    lines : above x ++ line_of x ∷ below x ≡ x.lines
    lines = let r : x.row < length x.lines = is.row in
        ap (λ (rest : List (List ℕ)). above x ++ rest) (sym (drop_more x.lines x.row [] r)) ∙ take-append-drop x.row x.lines

-- conditions under which a text cut at the caret is a content
pub zipped-is : (over : List (List ℕ)) (front back : List ℕ) (under : List (List ℕ)) (clip : List ℕ) →
    length over + length under < most_lines → All IsLine over → IsLine (front ++ back) → All IsLine under → IsLine clip →
    IsContents (zipped over front back under clip)
zipped-is over front back under clip few all line rest kept = record {
  row = omega (arith, length-append over ((front ++ back) ∷ under));
  few = omega (arith, length-append over ((front ++ back) ∷ under));
  each = All-append IsLine over ((front ++ back) ∷ under) all (All-cons IsLine (front ++ back) under line rest);
  column = rw (get_or_at over (front ++ back) under [] (length over) refl) (omega (arith, length-append front back));
  clip = kept;
}

-- the parts of a text cut at the caret determine it
same_zipped : (x : Contents) (over : List (List ℕ)) (front back : List ℕ) (under : List (List ℕ)) →
    x.lines ≡ over ++ (front ++ back) ∷ under → x.row ≡ length over → x.column ≡ length front → x ≡ zipped over front back under x.clip
same_zipped x over front back under lines row column = rw (← lines, ← row, ← column) refl

pub above-length : (x : Contents) → IsContents x → length (above x) ≡ x.row
above-length x is = let r = is.row in omega (arith, length-take x.row x.lines)

pub before-length : (x : Contents) → IsContents x → length (before x) ≡ x.column
before-length x is = let c = is.column in omega (arith, length-take x.column (line_of x))

pub inserted-zipped : (x : Contents) (text : List ℕ) → IsContents x →
    inserted x text ≡ zipped (above x) (before x ++ text) (behind x) (below x) x.clip
inserted-zipped x text is =
    same_zipped (inserted x text) (above x) (before x ++ text) (behind x) (below x)
    refl
    (sym (above-length x is))
    (let c = before-length x is in omega (arith, length-append (before x) text))

pub erased-zipped : (x : Contents) → IsContents x →
    erased x ≡ zipped (above x) (take (x.column - 1) (line_of x)) (behind x) (below x) x.clip
erased-zipped x is =
    same_zipped (erased x) (above x) (take (x.column - 1) (line_of x)) (behind x) (below x)
    refl
    (sym (above-length x is))
    (let c = is.column in omega (arith, length-take (x.column - 1) (line_of x)))

pub joined-zipped : (x : Contents) → IsContents x →
    joined_above x ≡ zipped (take (x.row - 1) x.lines) (line_at x (x.row - 1)) (line_of x) (below x) x.clip
joined-zipped x is =
    same_zipped (joined_above x) (take (x.row - 1) x.lines) (line_at x (x.row - 1)) (line_of x) (below x)
    refl
    (let r = is.row in omega (arith, length-take (x.row - 1) x.lines))
    refl

pub broken-zipped : (x : Contents) → IsContents x →
    broken x ≡ zipped (above x ++ before x ∷ []) [] (behind x) (below x) x.clip
broken-zipped x is =
    same_zipped (broken x) (above x ++ before x ∷ []) [] (behind x) (below x)
    (sym (append_assoc (above x) (before x ∷ []) (behind x ∷ below x)))
    (let r = above-length x is in omega (arith, length-append (above x) (before x ∷ [])))
    refl

-- a part of a line is a line
pub part_taken : (n : ℕ) (text : List ℕ) → IsLine text → IsLine (take n text)
part_taken n text is = record {
  short = let s = is.short in omega (arith, length-take n text);
  printable = All-take (λ c. is_printable c ≡ true) n text is.printable;
}

pub part_dropped : (n : ℕ) (text : List ℕ) → IsLine text → IsLine (drop n text)
part_dropped n text is = record {
  short = let s = is.short in omega (arith, length-drop n text);
  printable = All-drop (λ c. is_printable c ≡ true) n text is.printable;
}

pub line_is : (x : Contents) (row : ℕ) → IsContents x → row < length x.lines → IsLine (line_at x row)
line_is x row is within = All-get_or IsLine x.lines row [] within is.each

rows-left : (x : Contents) → IsContents x → length (above x) + length (below x) + 1 ≡ length x.lines
rows-left x is = let r = is.row in omega (arith, above-length x is, length-drop (x.row + 1) x.lines)

pub inserted_is : (x : Contents) (text : List ℕ) → IsContents x → IsLine text → fits x text ≡ true → IsContents (inserted x text)
inserted_is x text is line fit =
    subst (λ (y : Contents). IsContents y) (sym (inserted-zipped x text is))
    (zipped-is (above x) (before x ++ text) (behind x) (below x) x.clip few
    (All-take IsLine x.row x.lines is.each) whole (All-drop IsLine (x.row + 1) x.lines is.each) is.clip)
  where
    few : length (above x) + length (below x) < most_lines
    few = let all = is.few in omega (arith, rows-left x is)

    old : IsLine (line_of x)
    old = line_is x x.row is is.row

    room : length (line_of x) + length text ≤ 80
    room = leb-true (length (line_of x) + length text) 80
        (and_parts (nat_lt 0 (length text)) (nat_le (length (line_of x) + length text) most_bytes) fit).1

    halves : length (before x) + length (behind x) ≡ length (line_of x)
    halves = let c = is.column in omega (arith, before-length x is, length-drop x.column (line_of x))

    first : IsLine (before x ++ text)
    first = line_in_a_row (before x) text (part_taken x.column (line_of x) old) line (omega (arith, room, halves))

    whole : IsLine ((before x ++ text) ++ behind x)
    whole =
        line_in_a_row (before x ++ text) (behind x) first (part_dropped x.column (line_of x) old)
        (omega (arith, room, halves, length-append (before x) text))

pub erased_is : (x : Contents) → IsContents x → 0 < x.column → IsContents (erased x)
erased_is x is some =
    subst (λ (y : Contents). IsContents y) (sym (erased-zipped x is))
    (zipped-is (above x) (take (x.column - 1) (line_of x)) (behind x) (below x) x.clip few
    (All-take IsLine x.row x.lines is.each) whole (All-drop IsLine (x.row + 1) x.lines is.each) is.clip)
  where
    few : length (above x) + length (below x) < most_lines
    few = let all = is.few in omega (arith, rows-left x is)

    old : IsLine (line_of x)
    old = line_is x x.row is is.row

    whole : IsLine (take (x.column - 1) (line_of x) ++ behind x)
    whole =
        let s = old.short in
        let c = is.column in
        line_in_a_row (take (x.column - 1) (line_of x)) (behind x)
        (part_taken (x.column - 1) (line_of x) old) (part_dropped x.column (line_of x) old)
        (omega (arith, length-take (x.column - 1) (line_of x), length-drop x.column (line_of x)))

pub joined_is : (x : Contents) → IsContents x → can_join x ≡ true → IsContents (joined_above x)
joined_is x is can =
    subst (λ (y : Contents). IsContents y) (sym (joined-zipped x is))
    (zipped-is (take (x.row - 1) x.lines) (line_at x (x.row - 1)) (line_of x) (below x) x.clip few
    (All-take IsLine (x.row - 1) x.lines is.each)
    (line_in_a_row (line_at x (x.row - 1)) (line_of x)
    (line_is x (x.row - 1) is (let r = is.row in omega arith)) (line_is x x.row is is.row) room)
    (All-drop IsLine (x.row + 1) x.lines is.each) is.clip)
  where
    few : length (take (x.row - 1) x.lines) + length (below x) < most_lines
    few = let all = is.few in let r = is.row in omega (arith, length-take (x.row - 1) x.lines, length-drop (x.row + 1) x.lines)

    room : length (line_at x (x.row - 1)) + length (line_of x) ≤ 80
    room = leb-true (length (line_at x (x.row - 1)) + length (line_of x)) 80
        (and_parts (nat_lt 0 x.row) (nat_le (length (line_at x (x.row - 1)) + length (line_of x)) most_bytes) can).1

pub broken_is : (x : Contents) → IsContents x → nat_lt (length x.lines) most_lines ≡ true → IsContents (broken x)
broken_is x is can =
    subst (λ (y : Contents). IsContents y) (sym (broken-zipped x is))
    (zipped-is (above x ++ before x ∷ []) [] (behind x) (below x) x.clip few
    (All-push IsLine (above x) (before x) (All-take IsLine x.row x.lines is.each) (part_taken x.column (line_of x) old))
    (part_dropped x.column (line_of x) old)
    (All-drop IsLine (x.row + 1) x.lines is.each) is.clip)
  where
    few : length (above x ++ before x ∷ []) + length (below x) < most_lines
    few =
        let less : length x.lines < most_lines = ltb-true (length x.lines) most_lines can in
        omega (arith, rows-left x is, length-append (above x) (before x ∷ []))

    old : IsLine (line_of x)
    old = line_is x x.row is is.row

pub moved_is : (x : Contents) (row column : ℕ) → IsContents x → IsContents (caret_to x row column)
moved_is x row column is = record {
  row = let r = is.row in omega arith;
  few = is.few;
  each = is.each;
  column = omega arith;
  clip = is.clip;
}

pub copied_is : (x : Contents) (from to : ℕ) → IsContents x → IsContents (copied x from to)
copied_is x from to is = record {
  row = is.row;
  few = is.few;
  each = is.each;
  column = is.column;
  clip = part_dropped from (take to (line_of x)) (part_taken to (line_of x) (line_is x x.row is is.row));
}

pub effect-is : (x : Contents) (cmd : EditorCmd) → IsContents x → IsEditorCmd cmd → acts x cmd ≡ true → IsContents (effect x cmd)
effect-is x (Insert text) is known does = inserted_is x text is known does
effect-is x Erase is known does = by_column (x.column == 0) refl does
  where
    by_column : (b : Bool) → (x.column == 0) ≡ b → cond b (can_join x) true ≡ true → IsContents (cond b (joined_above x) (erased x))
    by_column true first can = joined_is x is can
    by_column false later can = let apart = eqb-false x.column 0 later in erased_is x is (omega arith)
effect-is x Split is known does = broken_is x is does
effect-is x (Goto row column) is known does = moved_is x row column is
effect-is x (Copy from to) is known does = copied_is x from to is
effect-is x Paste is known does = inserted_is x x.clip is is.clip does

-- the content after a command is valid
pub editor_contents : (x : Contents) (cmd : EditorCmd) → IsContents x → IsEditorCmd cmd → IsContents (editor_next x cmd)
editor_contents x cmd is known = by_test (acts x cmd) refl
  where
    by_test : (b : Bool) → acts x cmd ≡ b → IsContents (cond b (effect x cmd) x)
    by_test true does = effect-is x cmd is known does
    by_test false not = is

-- the command that an event asks for is valid
pub editor_answers : (x : Contents) (event : Event) → IsContents x → IsEvent event → IfSome (editor_answer x event) (λ cmd. IsEditorCmd cmd)
editor_answers x (Key time code) is known = by_test (is_printable code) (code == 8) (code == 13) refl
  where
    by_test : (b e s : Bool) → is_printable code ≡ b →
        IfSome (cond b (Some (Insert (code ∷ []))) (cond e (Some Erase) (cond s (Some Split) None))) (λ cmd. IsEditorCmd cmd)
    by_test true e s printable = record {
      short = omega arith;
      printable = All-push (λ c. is_printable c ≡ true) [] code (All-nil (λ c. is_printable c ≡ true)) printable;
    }
    by_test false true s other = tt
    by_test false false true other = tt
    by_test false false false other = tt
editor_answers x event is known = tt

-- a value with the parts of a content is a content
pub same_contents : (y z : Contents) → y.lines ≡ z.lines → y.row ≡ z.row → y.column ≡ z.column → y.clip ≡ z.clip →
    IsContents z → IsContents y
same_contents y z lines row column clip is = subst (λ (u : Contents). IsContents u) same is
  where
    same : z ≡ y
    same = rw (lines, row, column, clip) refl
