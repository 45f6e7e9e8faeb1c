-- A Lines obeys the laws of clients.
-- These proofs are in specs/ because an impl may cite nothing else of its crate. No contract cites them.
use Rattle.std.proofs.Common.{◌≡◌, ℕ, ◌+◌, ◌-◌, ◌<◌, ◌≤◌, ◌==◌, min, Bool, true, false, ◌&&◌, cond, List, [], ◌∷◌, ◌++◌, length, drop, Some, None, refl, sym, ap, subst, ◌∙◌, arith, eqb-true}
use Rattle.std.specs.Prelude.{nat_lt, nat_le, IfSome}
use Rattle.std.proofs.lemmas.Bool.Decides.{nat_tests}
use Rattle.std.proofs.lemmas.List.{length-append, length-drop, drop-drop, drop-append-le, drop_all}
use Rattle.std.proofs.lemmas.List.Elements.{All-nil, All-push, All-drop}
use borrow.Author.Tests.{ltb-true}
use Rattle.tr_base.specs.declared.Point.{Point}
use Rattle.tr_base.specs.declared.Size.{Size}
use Rattle.tr_base.specs.declared.Event.{Event}
use Rattle.tr_base.specs.declared.Event.TheVariants.{Key}
use Rattle.tr_base.specs.declared.Op.TheVariants.{Bg}
use Rattle.tr_base.specs.Ops.{IsPixel}
use Rattle.tr_base.specs.Rects.{Edges, before_shift, has_point, whole_of, empty_rect, meet_of}
use Rattle.tr_base.specs.Lines.{IsLine, is_printable}
use Rattle.tr_paint.specs.declared.Paint.{Paint}
use Rattle.tr_paint.specs.declared.Paint.TheVariants.{Tint, Text, Scroll}
use Rattle.tr_paint.specs.Paints.{cells_of}
use Rattle.tr_paint.specs.Traces.{Look, deed}
use Rattle.tr_paint.specs.Patches.{IsPatch}
use Rattle.tr_paint.specs.Paintings.{IsPainting}
use Rattle.tr_paint.proofs.PatchLemmas.{no_patch}
use Rattle.tr_paint.proofs.PaintingLemmas.{painting_is_patch}
use Rattle.tr_paint.proofs.RunLemmas.{run_one, run, patch_by_run, makes-left}
use Rattle.tr_client.specs.Laws.{IsWindowSize, is_flat, IsEvent, Survives}
use Rattle.tr_client.specs.Plain.{plain}
use Rattle.tr_client.specs.Texts.{room, strip_of, begin_of, colour_in, strips_between, upwards, cleared, most_lines}
use Rattle.tr_client.proofs.KeepingLemmas.{survives-meet, survives-nothing}
use Rattle.tr_client.proofs.FlatLemmas.{flat-whole, meet-nothing}
use Rattle.tr_client.proofs.StripLemmas.{rows-from, no_columns, scroll-left, cleared-left}
use Rattle.tr_client.proofs.LineLemmas.{colour-beyond, colour-moved, line-makes, cleared_painting, pixel-colour_in}
use Rattle.w_lines.specs.declared.commands.LinesCmd.{LinesCmd}
use Rattle.w_lines.specs.declared.commands.LinesCmd.TheVariants.{Line, Clear}
use Rattle.w_lines.specs.Lines.{IsLines, IsLinesCmd, newest_lines, most_shown, lines_pic, lines_next, written_below, moved_up, line_patch, lines_patch, lines_answer, lines_keeps}

-- writing a line below the others is a patch to the picture with one more line
written_patch : (look : Look) (size : Size) (lines : List (List ℕ)) (line : List ℕ) →
    IsPatch look size (written_below size (length lines) line) (colour_in look lines) (colour_in look (lines ++ line ∷ []))
written_patch look size lines line =
    let text : Paint = Text plain (whole_of size) (begin_of (length lines)) line in
    patch_by_run look size (text ∷ []) (colour_in look lines) (colour_in look (lines ++ line ∷ []))
    (λ q here. makes-left look.kind (deed look text q) (colour_in look lines) q _ _ refl
    (line-makes look (whole_of size) lines line q here))

-- a full window's lines, each one strip higher, and background in the last strip: the picture without the first line
raised_colour : (look : Look) (size : Size) (first : List ℕ) (lines : List (List ℕ)) (q : Point) → has_point (whole_of size) q ≡ true →
    (let count = length lines in
    cond (nat_le count (strip_of q) && nat_lt (strip_of q) (count + 1)) 0
    (cond (nat_le 0 (strip_of q) && nat_lt (strip_of q) count)
    (colour_in look (first ∷ lines) (before_shift q upwards)) (colour_in look (first ∷ lines) q))
    ≡ colour_in look lines q)
raised_colour look size first lines q here =
    by_tests (nat_le (length lines) (strip_of q) && nat_lt (strip_of q) (length lines + 1))
    (nat_le 0 (strip_of q) && nat_lt (strip_of q) (length lines)) refl refl
  where
    by_tests : (last above : Bool) → nat_le (length lines) (strip_of q) && nat_lt (strip_of q) (length lines + 1) ≡ last →
        nat_le 0 (strip_of q) && nat_lt (strip_of q) (length lines) ≡ above →
        cond last 0 (cond above (colour_in look (first ∷ lines) (before_shift q upwards)) (colour_in look (first ∷ lines) q))
        ≡ colour_in look lines q
    by_tests true above is other =
        let past : length lines ≤ strip_of q = grind (arith, nat_tests) in
        sym (colour-beyond look lines q past)
    by_tests false true is other = colour-moved look first lines q (rows-from size q here)
    by_tests false false is other =
        let past : length lines < strip_of q = grind (arith, nat_tests) in
        colour-beyond look (first ∷ lines) q (omega arith) ∙ sym (colour-beyond look lines q (omega arith))

-- if the lines of a full window move upwards, each gives its strip to the next, the last strip becomes background,
-- and a line is written there
moved_patch : (look : Look) (size : Size) (shown : List (List ℕ)) (line : List ℕ) (count : ℕ) → length shown ≡ count → 0 < count →
    IsPatch look size (moved_up size count line) (colour_in look shown) (colour_in look (drop 1 shown ++ line ∷ []))
moved_patch look size [] line count long some = absurd (omega arith)
moved_patch look size (first ∷ lines) line count long some =
    rw (last, all) (patch_by_run look size (scroll ∷ tint ∷ text ∷ []) old (colour_in look (lines ++ line ∷ [])) makes)
  where
    last : count - 1 ≡ length lines
    last = omega arith

    all : count ≡ length lines + 1
    all = omega arith

    scroll : Paint
    scroll = Scroll (strips_between size 0 (length lines)) upwards

    tint : Paint
    tint = Tint (strips_between size (length lines) (length lines + 1)) Bg

    text : Paint
    text = Text plain (whole_of size) (begin_of (length lines)) line

    old : Point → ℕ
    old = colour_in look (first ∷ lines)

    makes : (q : Point) → has_point (whole_of size) q ≡ true →
        run look (scroll ∷ tint ∷ text ∷ []) old q ≡ colour_in look (lines ++ line ∷ []) q
    makes q here =
        makes-left look.kind (deed look text q) (λ r. run_one look tint (λ s. run_one look scroll old s) r) q _ _
        (cleared-left look size (length lines) (length lines + 1) (λ s. run_one look scroll old s) q here
        ∙ ap (λ n. cond (nat_le (length lines) (strip_of q) && nat_lt (strip_of q) (length lines + 1)) 0 n)
        (scroll-left look size 0 (length lines) upwards old q here)
        ∙ raised_colour look size first lines q here)
        (line-makes look (whole_of size) lines line q here)

-- the last n of at most n lines are all of them
pub last_of-all : (n : ℕ) (lines : List (List ℕ)) → length lines ≤ n → newest_lines n lines ≡ lines
last_of-all n lines few = let none : length lines - n ≡ 0 = omega arith in ap (λ i. drop i lines) none

last_of-none : (n : ℕ) (lines : List (List ℕ)) → n ≡ 0 → newest_lines n lines ≡ []
last_of-none n lines none = drop_all (length lines - n) lines (omega arith)

-- a window with room for one more line shows it below the others
shown_more : (n : ℕ) (lines : List (List ℕ)) (line : List ℕ) → length lines < min n most_lines →
    newest_lines n (newest_lines most_lines (lines ++ line ∷ [])) ≡ lines ++ line ∷ []
shown_more n lines line fits =
    ap (λ (all : List (List ℕ)). newest_lines n all)
    (last_of-all most_lines (lines ++ line ∷ []) (omega (arith, length-append lines (line ∷ []))))
    ∙ last_of-all n (lines ++ line ∷ []) (omega (arith, length-append lines (line ∷ [])))

-- a window without room shows it below the others without the first
shown_full : (n : ℕ) (lines : List (List ℕ)) (line : List ℕ) → 0 < n → min n most_lines ≤ length lines →
    length lines ≤ most_lines →
    newest_lines n (newest_lines most_lines (lines ++ line ∷ [])) ≡ drop 1 (newest_lines n lines) ++ line ∷ []
shown_full n lines line some full few =
    let all = lines ++ line ∷ [] in
    let more = length-append lines (line ∷ []) in
    let rest = length-drop (length all - most_lines) all in
    let at : length all - most_lines + (length (newest_lines most_lines all) - n) ≡ length lines - n + 1
    = omega (arith, more, rest) in
    drop-drop (length (newest_lines most_lines all) - n) (length all - most_lines) all
    ∙ ap (λ i. drop i all) at
    ∙ drop-append-le (length lines - n + 1) lines (line ∷ []) (omega arith)
    ∙ ap (λ (front : List (List ℕ)). front ++ line ∷ []) (sym (drop-drop 1 (length lines - n) lines))

pub lines_answers : (x : List (List ℕ)) (event : Event) → IsLines x → IsEvent event → IfSome (lines_answer x event) (λ cmd. IsLinesCmd cmd)
lines_answers x (Key time code) valid known = by_test (is_printable code) refl
  where
    by_test : (b : Bool) → is_printable code ≡ b → IfSome (cond b (Some (Line (code ∷ []))) None) (λ cmd. IsLinesCmd cmd)
    by_test true printable = record {
      short = omega arith;
      printable = All-push (λ c. is_printable c ≡ true) [] code (All-nil (λ c. is_printable c ≡ true)) printable;
    }
    by_test false other = tt
lines_answers x event valid known = tt

pub lines_contents : (x : List (List ℕ)) (cmd : LinesCmd) → IsLines x → IsLinesCmd cmd → IsLines (lines_next x cmd)
lines_contents x (Line line) valid known = record {
  few = omega (arith, length-drop (length (x ++ line ∷ []) - most_lines) (x ++ line ∷ []));
  each = All-drop IsLine (length (x ++ line ∷ []) - most_lines) (x ++ line ∷ []) (All-push IsLine x line valid.each known);
}
lines_contents x Clear valid known = record { few = omega arith; each = All-nil IsLine }

-- the law of patches for one more line
line_patches : (look : Look) (size : Size) (x : List (List ℕ)) (line : List ℕ) → IsLines x →
    IsPatch look size (line_patch size x line) (lines_pic look size x) (lines_pic look size (newest_lines most_lines (x ++ line ∷ [])))
line_patches look size x line valid = by_tests (most_shown size == 0) (nat_lt (length x) (most_shown size)) refl refl
  where
    next : List (List ℕ)
    next = newest_lines most_lines (x ++ line ∷ [])

    by_tests : (none fits : Bool) → (most_shown size == 0) ≡ none → nat_lt (length x) (most_shown size) ≡ fits →
        IsPatch look size (cond none [] (cond fits (written_below size (length x) line) (moved_up size (most_shown size) line)))
        (colour_in look (newest_lines (room size) x))
        (colour_in look (newest_lines (room size) (newest_lines most_lines (x ++ line ∷ []))))
    by_tests true fits is fit =
        let zero : most_shown size ≡ 0 = eqb-true (most_shown size) 0 is in
        let no_room : room size ≡ 0 = omega arith in
        let same = last_of-none (room size) x no_room ∙ sym (last_of-none (room size) next no_room) in
        no_patch look size _ _ (λ q here. ap (λ (lines : List (List ℕ)). colour_in look lines q) same)
    by_tests false true is fit =
        let less : length x < most_shown size = ltb-true (length x) (most_shown size) fit in
        let P : List (List ℕ) → List (List ℕ) → Type 0 =
        λ old new. IsPatch look size (written_below size (length x) line) (colour_in look old) (colour_in look new) in
        subst (λ (old : List (List ℕ)). P old (newest_lines (room size) next)) (sym (last_of-all (room size) x (omega arith)))
        (subst (λ (new : List (List ℕ)). P x new) (sym (shown_more (room size) x line less)) (written_patch look size x line))
    by_tests false false is fit =
        let some : 0 < most_shown size = grind (arith, nat_tests) in
        let full : most_shown size ≤ length x = grind (arith, nat_tests) in
        let few = valid.few in
        let shown = newest_lines (room size) x in
        let long : length shown ≡ most_shown size = omega (arith, length-drop (length x - room size) x) in
        subst
        (λ (new : List (List ℕ)). IsPatch look size (moved_up size (most_shown size) line) (colour_in look shown) (colour_in look new))
        (sym (shown_full (room size) x line (omega arith) full few))
        (moved_patch look size shown line (most_shown size) long some)

pub lines_patches : (look : Look) (size : Size) (x : List (List ℕ)) (cmd : LinesCmd) → IsLines x → IsLinesCmd cmd → IsWindowSize size →
    IsPatch look size (lines_patch look size x cmd) (lines_pic look size x) (lines_pic look size (lines_next x cmd))
lines_patches look size x (Line line) valid known small = line_patches look size x line valid
lines_patches look size x Clear valid known small =
    let none = drop_all (0 - room size) [] (omega arith) in
    painting_is_patch look size (cleared (whole_of size)) (lines_pic look size x) (lines_pic look size [])
    (subst (λ (lines : List (List ℕ)). IsPainting look (whole_of size) (cleared (whole_of size)) (colour_in look lines)) (sym none)
    (cleared_painting look (whole_of size)))

nothing_written : (size : Size) (above : ℕ) (line : List ℕ) → is_flat size ≡ true → written_below size above line ≡ []
nothing_written size above line flat = rw (flat-whole size flat, meet-nothing (cells_of (begin_of above) (length line))) refl

nothing_moved : (size : Size) (count : ℕ) (line : List ℕ) → is_flat size ≡ true → size.wide ≡ 0 → moved_up size count line ≡ []
nothing_moved size count line flat none =
    rw (no_columns size 0 (count - 1) none, no_columns size (count - 1) count none) (nothing_written size (count - 1) line flat)

pub lines_empty_patches : (look : Look) (size : Size) (x : List (List ℕ)) (cmd : LinesCmd) → IsLines x → IsLinesCmd cmd →
    IsWindowSize size → is_flat size ≡ true → lines_patch look size x cmd ≡ []
lines_empty_patches look size x (Line line) valid known small flat =
    by_tests (most_shown size == 0) (nat_lt (length x) (most_shown size)) refl
  where
    by_tests : (none fits : Bool) → (most_shown size == 0) ≡ none →
        cond none [] (cond fits (written_below size (length x) line) (moved_up size (most_shown size) line)) ≡ []
    by_tests true fits is = refl
    by_tests false true is = nothing_written size (length x) line flat
    by_tests false false is =
        let some : 0 < most_shown size = grind (arith, nat_tests) in
        let high : 0 < size.high = omega arith in
        let no_column : size.wide ≡ 0 = grind (arith, nat_tests) in
        nothing_moved size (most_shown size) line flat no_column
lines_empty_patches look size x Clear valid known small flat = ap (λ (part : Edges). cleared part) (flat-whole size flat)

pub lines_keeping : (look : Look) (from to : Size) (x : List (List ℕ)) → IsLines x → IsWindowSize from → IsWindowSize to →
    Survives (lines_keeps x from to) from to (lines_pic look from x) (lines_pic look to x)
lines_keeping look from to x valid small small' = by_test (min (length x) (room from) == min (length x) (room to)) refl
  where
    by_test : (b : Bool) → (min (length x) (room from) == min (length x) (room to)) ≡ b →
        Survives (cond b (meet_of (whole_of from) (whole_of to)) empty_rect) from to (lines_pic look from x) (lines_pic look to x)
    by_test true same =
        let equal : min (length x) (room from) ≡ min (length x) (room to) =
        eqb-true (min (length x) (room from)) (min (length x) (room to)) same in
        let rest : length x - room from ≡ length x - room to = omega arith in
        survives-meet from to (lines_pic look from x) (lines_pic look to x) (λ q h k. ap (λ (i : ℕ). colour_in look (drop i x) q) rest)
    by_test false apart = survives-nothing from to (lines_pic look from x) (lines_pic look to x)

-- each colour is one of two
pub lines_kinds : (look : Look) (size : Size) (x : List (List ℕ)) (p : Point) → IsLines x → IsWindowSize size →
    IsPixel look.kind (lines_pic look size x p)
lines_kinds look size x p valid small = pixel-colour_in look (newest_lines (room size) x) p
