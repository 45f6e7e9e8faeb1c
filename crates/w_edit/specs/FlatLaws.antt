-- Commands have the same effect on the lines and on the bytes.
-- These proofs are in specs/ because an impl may cite nothing else of its crate. No contract cites them.
use Rattle.std.proofs.Common.{◌≡◌, ℕ, ◌+◌, ◌-◌, ◌<◌, ◌==◌, Bool, true, false, cond, List, [], ◌∷◌, ◌++◌, length, take, drop, get_or, refl, sym, ap, ◌∙◌, arith, append_assoc, eqb-true}
use Rattle.std.specs.Prelude.{All, nat_lt, nat_le, flat_map}
use Rattle.std.specs.List.{join_with_byte, AllByRecursion}
use Rattle.std.proofs.lemmas.Bool.Decides.{nat_tests}
use Rattle.std.proofs.lemmas.Bool.{eqb-false, and_parts}
use Rattle.std.proofs.lemmas.List.{append-nil, length-append, take_at, drop_at, take_more, get_or_at}
use Rattle.std.proofs.Math.Seq.{take-length}
use Rattle.std.proofs.lemmas.List.Splits.{slice_split_none, slice_split_at}
use Rattle.std.proofs.lemmas.List.Concat.{flat_map-append}
use Rattle.std.proofs.lemmas.List.Elements.{All-take, All-get_or, All-head, All-tail, All-weaker}
use borrow.Author.Tests.{ltb-true}
use Rattle.tr_base.specs.Lines.{IsLine, is_printable}
use Rattle.w_edit.specs.declared.commands.EditorCmd.{EditorCmd}
use Rattle.w_edit.specs.declared.commands.EditorCmd.TheVariants.{Insert, Erase, Split, Goto, Copy, Paste}
use Rattle.w_edit.specs.Numbers.{most_bytes}
use Rattle.w_edit.specs.Contents.{Contents, IsContents, line_at, line_of, before, behind, above, below, inserted, erased, joined_above, broken, caret_to, copied, effect, can_join, acts, editor_next, IsEditorCmd}
use Rattle.w_edit.specs.Flat.{FlatText, flat, ended, place, flat_text, split_lines, put_in, feed, flat_effect, flat_next, flat_after, editor_after, IsFlatOf}
use Rattle.w_edit.specs.ContentsLaws.{zipped, is_zipped, above-length, before-length, inserted-zipped, erased-zipped, joined-zipped, broken-zipped, part_taken, editor_contents}

-- lines with a line feed before each
abbrev pub started : List (List ℕ) → List ℕ
started lines = flat_map (λ line. feed ∷ line) lines

-- the bytes of a line and of the lines below it
flat-under : (line : List ℕ) (under : List (List ℕ)) → join_with_byte feed (line ∷ under) ≡ line ++ started under
flat-under line [] = sym (append-nil line)
flat-under line (next ∷ under) = ap (λ rest. line ++ feed ∷ rest) (flat-under next under)

flat-over : (over : List (List ℕ)) (line : List ℕ) (under : List (List ℕ)) →
    join_with_byte feed (over ++ line ∷ under) ≡ ended over ++ (line ++ started under)
flat-over [] line under = flat-under line under
flat-over (first ∷ []) line under =
    ap (λ rest. first ++ feed ∷ rest) (flat-under line under) ∙ simp (append_assoc, append-nil)
flat-over (first ∷ next ∷ over) line under =
    ap (λ rest. first ++ feed ∷ rest) (flat-over (next ∷ over) line under) ∙ simp append_assoc

-- the bytes of a text cut at the caret, and the caret's place
pub flat-zipped : (over : List (List ℕ)) (front back : List ℕ) (under : List (List ℕ)) (clip : List ℕ) →
    flat (zipped over front back under clip) ≡ (ended over ++ front) ++ (back ++ started under)
flat-zipped over front back under clip = flat-over over (front ++ back) under ∙ simp append_assoc

pub place-zipped : (over : List (List ℕ)) (front back : List ℕ) (under : List (List ℕ)) (clip : List ℕ) →
    place (zipped over front back under clip) ≡ length (ended over ++ front)
place-zipped over front back under clip =
    ap (λ (lines : List (List ℕ)). length (ended lines) + length front) (take_at over ((front ++ back) ∷ under) (length over) refl)
    ∙ sym (length-append (ended over) front)

-- bytes inserted and a byte removed at a place, if the bytes are split there
put_at : (front back text bytes : List ℕ) (at : ℕ) → bytes ≡ front ++ back → at ≡ length front →
    put_in bytes at text ≡ (front ++ text) ++ back
put_at front back text bytes at is here =
    rw (is, here, take_at front back (length front) refl, drop_at front back (length front) refl) (simp append_assoc)

less_at : (front back bytes : List ℕ) (c at : ℕ) → bytes ≡ (front ++ c ∷ []) ++ back → at ≡ length (front ++ c ∷ []) →
    take (at - 1) bytes ++ drop at bytes ≡ front ++ back
less_at front back bytes c at is here =
    let long : length front ≡ length (front ++ c ∷ []) - 1 = omega (arith, length-append front (c ∷ [])) in
    let first : take (length (front ++ c ∷ []) - 1) ((front ++ c ∷ []) ++ back) ≡ front =
    ap (λ all. take (length (front ++ c ∷ []) - 1) all) (append_assoc front (c ∷ []) back) ∙ take_at front (c ∷ back) _ long in
    rw (is, here, first, drop_at (front ++ c ∷ []) back (length (front ++ c ∷ [])) refl) refl

-- the bytes before the caret and those behind it
abbrev bytes_before : Contents → List ℕ
bytes_before x = ended (above x) ++ before x

abbrev back_of : Contents → List ℕ
back_of x = behind x ++ started (below x)

pub flat-cut : (x : Contents) → IsContents x → flat x ≡ bytes_before x ++ back_of x
flat-cut x is = ap (λ (y : Contents). flat y) (is_zipped x is) ∙ flat-zipped (above x) (before x) (behind x) (below x) x.clip

pub place-cut : (x : Contents) → IsContents x → place x ≡ length (bytes_before x)
place-cut x is = ap (λ (y : Contents). place y) (is_zipped x is) ∙ place-zipped (above x) (before x) (behind x) (below x) x.clip

-- the bytes of lines with one more line
ended-push : (over : List (List ℕ)) (line : List ℕ) → ended (over ++ line ∷ []) ≡ (ended over ++ line) ++ feed ∷ []
ended-push over line = flat_map-append (λ l. l ++ feed ∷ []) over (line ∷ []) ∙ simp (append_assoc, append-nil)

-- the effect of each command on the bytes
flat-inserted : (x : Contents) (text : List ℕ) → IsContents x → flat (inserted x text) ≡ put_in (flat x) (place x) text
flat-inserted x text is =
    ap (λ (y : Contents). flat y) (inserted-zipped x text is)
    ∙ flat-zipped (above x) (before x ++ text) (behind x) (below x) x.clip
    ∙ ap (λ f. f ++ back_of x) (sym (append_assoc (ended (above x)) (before x) text))
    ∙ sym (put_at (bytes_before x) (back_of x) text (flat x) (place x) (flat-cut x is) (place-cut x is))

place-inserted : (x : Contents) (text : List ℕ) → IsContents x → place (inserted x text) ≡ place x + length text
place-inserted x text is =
    let cut = place-cut x is in
    let new : place (inserted x text) ≡ length (ended (above x) ++ (before x ++ text)) =
    ap (λ (y : Contents). place y) (inserted-zipped x text is) ∙ place-zipped (above x) (before x ++ text) (behind x) (below x) x.clip in
    omega (
      arith,
      length-append (ended (above x)) (before x),
      length-append (ended (above x)) (before x ++ text),
      length-append (before x) text,
    )

-- one byte before the caret is removed, and the bytes before it stay there
record Loses (x y : Contents) (kept : List ℕ) (c : ℕ) : Type 0 where
  front : bytes_before x ≡ kept ++ c ∷ []
  bytes : flat y ≡ kept ++ back_of x
  at : place y ≡ length kept

flat-lost : (x y : Contents) (front : List ℕ) (c : ℕ) → IsContents x → Loses x y front c →
    flat y ≡ take (place x - 1) (flat x) ++ drop (place x) (flat x)
flat-lost x y front c is loses =
    loses.bytes
    ∙ sym (less_at front (back_of x) (flat x) c (place x)
    (flat-cut x is ∙ ap (λ f. f ++ back_of x) loses.front)
    (place-cut x is ∙ ap (λ (f : List ℕ). length f) loses.front))

place-lost : (x y : Contents) (front : List ℕ) (c : ℕ) → IsContents x → Loses x y front c → place y ≡ place x - 1
place-lost x y front c is loses =
    let cut : place x ≡ length (front ++ c ∷ []) = place-cut x is ∙ ap (λ (f : List ℕ). length f) loses.front in
    let new = loses.at in
    omega (arith, length-append front (c ∷ []))

erased-loses : (x : Contents) → IsContents x → 0 < x.column →
    Loses x (erased x) (ended (above x) ++ take (x.column - 1) (line_of x)) (get_or (line_of x) (x.column - 1) 0)
erased-loses x is some = record {
  front = ap (λ (f : List ℕ). ended (above x) ++ f) last ∙ sym (append_assoc (ended (above x)) _ _);
  bytes =
      ap (λ (y : Contents). flat y) (erased-zipped x is)
      ∙ flat-zipped (above x) (take (x.column - 1) (line_of x)) (behind x) (below x) x.clip;
  at =
      ap (λ (y : Contents). place y) (erased-zipped x is)
      ∙ place-zipped (above x) (take (x.column - 1) (line_of x)) (behind x) (below x) x.clip;
}
  where
    last : before x ≡ take (x.column - 1) (line_of x) ++ get_or (line_of x) (x.column - 1) 0 ∷ []
    last =
        let c = is.column in
        let more : x.column ≡ x.column - 1 + 1 = omega arith in
        let within : x.column - 1 < length (line_of x) = omega arith in
        ap (λ n. take n (line_of x)) more ∙ take_more (line_of x) (x.column - 1) 0 within

joined-loses : (x : Contents) → IsContents x → x.column ≡ 0 → 0 < x.row →
    Loses x (joined_above x) (ended (take (x.row - 1) x.lines) ++ line_at x (x.row - 1)) feed
joined-loses x is first some = record {
  front =
      ap (λ (f : List ℕ). ended (above x) ++ f) (ap (λ n. take n (line_of x)) first)
      ∙ append-nil (ended (above x))
      ∙ ap (λ (over : List (List ℕ)). ended over) last
      ∙ ended-push (take (x.row - 1) x.lines) (line_at x (x.row - 1));
  bytes =
      ap (λ (y : Contents). flat y) (joined-zipped x is)
      ∙ flat-zipped (take (x.row - 1) x.lines) (line_at x (x.row - 1)) (line_of x) (below x) x.clip
      ∙ ap (λ n. (ended (take (x.row - 1) x.lines) ++ line_at x (x.row - 1)) ++ (drop n (line_of x) ++ started (below x))) (sym first);
  at =
      ap (λ (y : Contents). place y) (joined-zipped x is)
      ∙ place-zipped (take (x.row - 1) x.lines) (line_at x (x.row - 1)) (line_of x) (below x) x.clip;
}
  where
    last : above x ≡ take (x.row - 1) x.lines ++ line_at x (x.row - 1) ∷ []
    last =
        let r = is.row in
        let more : x.row ≡ x.row - 1 + 1 = omega arith in
        let within : x.row - 1 < length x.lines = omega arith in
        ap (λ n. take n x.lines) more ∙ take_more x.lines (x.row - 1) [] within

broken-front : (x : Contents) → (ended (above x ++ before x ∷ []) ++ []) ≡ bytes_before x ++ feed ∷ []
broken-front x = append-nil (ended (above x ++ before x ∷ [])) ∙ ended-push (above x) (before x)

flat-broken : (x : Contents) → IsContents x → flat (broken x) ≡ put_in (flat x) (place x) (feed ∷ [])
flat-broken x is =
    ap (λ (y : Contents). flat y) (broken-zipped x is)
    ∙ flat-zipped (above x ++ before x ∷ []) [] (behind x) (below x) x.clip
    ∙ ap (λ f. f ++ back_of x) (broken-front x)
    ∙ sym (put_at (bytes_before x) (back_of x) (feed ∷ []) (flat x) (place x) (flat-cut x is) (place-cut x is))

place-broken : (x : Contents) → IsContents x → place (broken x) ≡ place x + 1
place-broken x is =
    let cut = place-cut x is in
    let new : place (broken x) ≡ length (bytes_before x ++ feed ∷ []) =
    ap (λ (y : Contents). place y) (broken-zipped x is) ∙ place-zipped (above x ++ before x ∷ []) [] (behind x) (below x) x.clip
    ∙ ap (λ (f : List ℕ). length f) (broken-front x) in
    omega (arith, length-append (bytes_before x) (feed ∷ []))

-- no byte of a line is a line feed
no_feed : (line : List ℕ) → IsLine line → All (λ c. (c == feed) ≡ false) line
no_feed line is = All-weaker (λ c. is_printable c ≡ true) (λ c. (c == feed) ≡ false) (λ c p. other c p) line is.printable
  where
    other : (c : ℕ) → is_printable c ≡ true → (c == feed) ≡ false
    other c p = grind (arith, nat_tests)

-- the bytes of lines determine the lines
lines-back : (over : List (List ℕ)) (last : List ℕ) → All IsLine over → IsLine last → split_lines (ended over ++ last) ≡ over ++ last ∷ []
lines-back [] last all is = slice_split_none (λ b. b == feed) last (no_feed last is)
lines-back (first ∷ over) last all is =
    ap (λ bytes. split_lines bytes)
    (append_assoc (first ++ feed ∷ []) (ended over) last ∙ append_assoc first (feed ∷ []) (ended over ++ last))
    ∙ slice_split_at (λ b. b == feed) first feed (ended over ++ last) (no_feed first (All-head IsLine first over all)) refl
    ∙ ap (λ (lines : List (List ℕ)). first ∷ lines) (lines-back over last (All-tail IsLine first over all) is)

-- the text in one row determines the content
pub flat_says_all : (x : Contents) → IsContents x → IsFlatOf x
flat_says_all x is = record {
  back = rw (all, front, row, column) refl;
  within = let cut = place-cut x is in
      let bytes = ap (λ (all : List ℕ). length all) (flat-cut x is) in
      omega (arith, bytes, length-append (bytes_before x) (back_of x));
}
  where
    last : ℕ
    last = length x.lines - 1

    parts : x.lines ≡ take (length x.lines - 1) x.lines ++ line_at x (length x.lines - 1) ∷ []
    parts =
        let r = is.row in
        let more : length x.lines ≡ length x.lines - 1 + 1 = omega arith in
        let within : length x.lines - 1 < length x.lines = omega arith in
        sym (take-length x.lines) ∙ ap (λ n. take n x.lines) more ∙ take_more x.lines (length x.lines - 1) [] within

    all : split_lines (flat x) ≡ x.lines
    all =
        let r = is.row in
        let over = take (length x.lines - 1) x.lines in
        let line = line_at x (length x.lines - 1) in
        ap (λ (lines : List (List ℕ)). split_lines (join_with_byte feed lines)) parts
        ∙ ap (λ bytes. split_lines bytes) (flat-over over line [] ∙ ap (λ b. ended over ++ b) (append-nil line))
        ∙ lines-back over line (All-take IsLine (length x.lines - 1) x.lines is.each)
        (All-get_or IsLine x.lines (length x.lines - 1) [] (omega arith) is.each)
        ∙ sym parts

    front : split_lines (take (place x) (flat x)) ≡ above x ++ before x ∷ []
    front =
        ap (λ (bytes : List ℕ). split_lines (take (place x) bytes)) (flat-cut x is)
        ∙ ap (λ bytes. split_lines bytes) (take_at (bytes_before x) (back_of x) (place x) (sym (place-cut x is)))
        ∙ lines-back (above x) (before x) (All-take IsLine x.row x.lines is.each)
        (part_taken x.column (line_of x) (All-get_or IsLine x.lines x.row [] is.row is.each))

    row : length (above x ++ before x ∷ []) - 1 ≡ x.row
    row = omega (arith, length-append (above x) (before x ∷ []), above-length x is)

    column : length (get_or (above x ++ before x ∷ []) x.row []) ≡ x.column
    column =
        ap (λ (line : List ℕ). length line) (get_or_at (above x) (before x) [] [] x.row (above-length x is))
        ∙ before-length x is

same_text : (t u : FlatText) → t.bytes ≡ u.bytes → t.place ≡ u.place → t.clip ≡ u.clip → t ≡ u
same_text t u bytes place clip = rw (← bytes, ← place, ← clip) refl

-- the effect of each effective command
flat-effect : (x : Contents) (cmd : EditorCmd) → IsContents x → acts x cmd ≡ true → flat_text (effect x cmd) ≡ flat_effect (flat_text x) cmd
flat-effect x (Insert text) is does = same_text _ _ (flat-inserted x text is) (place-inserted x text is) refl
flat-effect x Erase is does = by_column (x.column == 0) refl does
  where
    by_column : (b : Bool) → (x.column == 0) ≡ b → cond b (can_join x) true ≡ true →
        flat_text (cond b (joined_above x) (erased x)) ≡ flat_effect (flat_text x) Erase
    by_column true first can =
        let start : x.column ≡ 0 = eqb-true x.column 0 first in
        let some : 0 < x.row =
        ltb-true 0 x.row
        (and_parts (nat_lt 0 x.row) (nat_le (length (line_at x (x.row - 1)) + length (line_of x)) most_bytes) can).0 in
        let loses = joined-loses x is start some in
        same_text _ _ (flat-lost x (joined_above x) _ _ is loses) (place-lost x (joined_above x) _ _ is loses) refl
    by_column false later can =
        let some : 0 < x.column = let apart = eqb-false x.column 0 later in omega arith in
        let loses = erased-loses x is some in
        same_text _ _ (flat-lost x (erased x) _ _ is loses) (place-lost x (erased x) _ _ is loses) refl
flat-effect x Split is does = same_text _ _ (flat-broken x is) (place-broken x is) refl
flat-effect x (Goto row column) is does =
    same_text _ _ refl (ap (λ (y : Contents). place (caret_to y row column)) (sym (flat_says_all x is).back)) refl
flat-effect x (Copy from to) is does =
    same_text _ _ refl refl (ap (λ (y : Contents). (copied y from to).clip) (sym (flat_says_all x is).back))
flat-effect x Paste is does = same_text _ _ (flat-inserted x x.clip is) (place-inserted x x.clip is) refl

-- each command has its effect on the bytes
pub flat_steps : (x : Contents) (cmd : EditorCmd) → IsContents x → flat_text (editor_next x cmd) ≡ flat_next (flat_text x) cmd
flat_steps x cmd is =
    by_test (acts x cmd) refl
    ∙ ap (λ (y : Contents). cond (acts y cmd) (flat_effect (flat_text x) cmd) (flat_text x)) (sym (flat_says_all x is).back)
  where
    by_test : (b : Bool) → acts x cmd ≡ b → flat_text (cond b (effect x cmd) x) ≡ cond b (flat_effect (flat_text x) cmd) (flat_text x)
    by_test true does = flat-effect x cmd is does
    by_test false not = refl

-- commands in a row have their effects on the bytes
pub flat_runs : (x : Contents) (cmds : List EditorCmd) → IsContents x → AllByRecursion IsEditorCmd cmds →
    flat_text (editor_after x cmds) ≡ flat_after (flat_text x) cmds
flat_runs x [] is known = refl
flat_runs x (cmd ∷ cmds) is known =
    flat_runs (editor_next x cmd) cmds (editor_contents x cmd is known.0) known.1
    ∙ ap (λ (t : FlatText). flat_after t cmds) (flat_steps x cmd is)
