-- What is put together of lines, or of words, is cut into the same lines and words.
use Rattle.std.proofs.Common.{◌≡◌, ℕ, ◌-◌, ◌*◌, ◌≤◌, ◌<◌, Bool, true, false, cond, ◌&&◌, leb, eqb, List, [], ◌∷◌, ◌++◌, length, get_or, take, Some, All, refl, ap, ◌∙◌, append_assoc, length-append, leb-true, le-leb, ne_eqb, arith}
use Rattle.std.specs.Prelude.{codes, slice_get}
use Rattle.std.specs.List.{list_all, slice_split, join_with_byte}
use Rattle.std.proofs.lemmas.Bool.{and_parts, and_from}
use Rattle.std.proofs.lemmas.List.Folds.{list_all-append}
use Rattle.std.proofs.lemmas.List.Sums.{AllPass-from_list_all}
use Rattle.std.proofs.lemmas.List.Splits.{slice_split_none, slice_split_at}
use Rattle.std.proofs.Math.Seq.{take-append_seam}
use Rattle.tr_base.specs.Lines.{is_printable}
use Rattle.tr_gen.specs.Scripts.{text_of_lines}
use Rattle.tr_grammar.specs.Texts.{is_plain, lines_of, is_empty_piece, ends_empty, without_empty_end}
use Rattle.tr_grammar.specs.Words.{words_of}

-- ---- lines

printable_line : (t : List ℕ) → is_plain t ≡ true → list_all is_printable t ≡ true
unfolding is_plain
printable_line t e = (and_parts (leb (length t) 1024) (list_all is_printable t) e).1

short_line : (t : List ℕ) → is_plain t ≡ true → length t ≤ 1024
unfolding is_plain
short_line t e = leb-true (length t) 1024 (and_parts (leb (length t) 1024) (list_all is_printable t) e).0

no_line_feed : (t : List ℕ) → is_plain t ≡ true → All (λ b. eqb b 10 ≡ false) t
no_line_feed t e k d within =
    let b = get_or t k d in
    let p = and_parts (leb 32 b) (leb b 126) (AllPass-from_list_all is_printable t (printable_line t e) k d within) in
    let above = leb-true 32 b p.0 in
    ne_eqb b 10 (λ same. omega arith)

-- a text of lines is cut into them, and an empty piece is left
pieces_of_text : (ts : List (List ℕ)) → list_all is_plain ts ≡ true → slice_split (λ b. eqb b 10) (text_of_lines ts) ≡ ts ++ [] ∷ []
pieces_of_text [] plain = refl
pieces_of_text (t ∷ ts) plain =
    let p = and_parts (is_plain t) (list_all is_plain ts) plain in
    ap (slice_split (λ (b : ℕ). eqb b 10)) (append_assoc t (10 ∷ []) (text_of_lines ts))
    ∙ slice_split_at (λ b. eqb b 10) t 10 (text_of_lines ts) (no_line_feed t p.0) refl
    ∙ ap (λ pieces. t ∷ pieces) (pieces_of_text ts p.1)

slice_get_last : (xs : List (List ℕ)) (x : List ℕ) → slice_get (xs ++ x ∷ []) (length xs) ≡ Some x
slice_get_last [] x = refl
slice_get_last (y ∷ ys) x = slice_get_last ys x

-- that empty piece is no line
empty_end_left_out : (ts : List (List ℕ)) → without_empty_end (ts ++ [] ∷ []) ≡ ts
empty_end_left_out ts =
    let pieces = ts ++ [] ∷ [] in
    let last : length pieces - 1 ≡ length ts = omega (arith, length-append ts ([] ∷ [])) in
    let ends : ends_empty pieces ≡ true = ap (λ i. is_empty_piece (slice_get pieces i)) last ∙ ap is_empty_piece (slice_get_last ts []) in
    ap (λ (b : Bool). cond b (take (length pieces - 1) pieces) pieces) ends
    ∙ ap (λ i. take i pieces) last
    ∙ take-append_seam ts ([] ∷ [])

pub lines_of-text_of : (ts : List (List ℕ)) → list_all is_plain ts ≡ true → lines_of (text_of_lines ts) ≡ ts
unfolding lines_of
lines_of-text_of ts plain = ap without_empty_end (pieces_of_text ts plain) ∙ empty_end_left_out ts

pub length-text_of-le : (ts : List (List ℕ)) → list_all is_plain ts ≡ true → length (text_of_lines ts) ≤ 1025 * length ts
length-text_of-le [] plain = omega arith
length-text_of-le (t ∷ ts) plain =
    let p = and_parts (is_plain t) (list_all is_plain ts) plain in
    let line = length-append t (codes "\n") in
    omega (arith, line, length-append (t ++ codes "\n") (text_of_lines ts), short_line t p.0, length-text_of-le ts p.1)

-- ---- words

-- a byte that can stand in a word
abbrev pub is_word_byte : ℕ → Bool
is_word_byte b = leb 33 b && leb b 126

-- a word that isn't long; each that is drawn is one
abbrev pub is_word : List ℕ → Bool
is_word w = leb (length w) 100 && list_all is_word_byte w

bytes_of_word : (w : List ℕ) → is_word w ≡ true → list_all is_word_byte w ≡ true
bytes_of_word w e = (and_parts (leb (length w) 100) (list_all is_word_byte w) e).1

short_word : (w : List ℕ) → is_word w ≡ true → length w ≤ 100
short_word w e = leb-true (length w) 100 (and_parts (leb (length w) 100) (list_all is_word_byte w) e).0

printable_word : (w : List ℕ) → list_all is_word_byte w ≡ true → list_all is_printable w ≡ true
printable_word [] e = refl
printable_word (b ∷ bs) e =
    let p = and_parts (is_word_byte b) (list_all is_word_byte bs) e in
    let q = and_parts (leb 33 b) (leb b 126) p.0 in
    let above = leb-true 33 b q.0 in
    and_from _ _ (and_from _ _ (le-leb 32 b (omega arith)) q.1) (printable_word bs p.1)

no_space : (w : List ℕ) → is_word w ≡ true → All (λ b. eqb b 32 ≡ false) w
no_space w e k d within =
    let b = get_or w k d in
    let p = and_parts (leb 33 b) (leb b 126) (AllPass-from_list_all is_word_byte w (bytes_of_word w e) k d within) in
    let above = leb-true 33 b p.0 in
    ne_eqb b 32 (λ same. omega arith)

-- words with a space between each two are cut into them
pub words_of-join : (ws : List (List ℕ)) → list_all is_word ws ≡ true → 0 < length ws → words_of (join_with_byte 32 ws) ≡ ws
words_of-join [] e some = absurd (omega arith)
words_of-join (w ∷ []) e some = slice_split_none (λ b. eqb b 32) w (no_space w (and_parts (is_word w) true e).0)
words_of-join (w ∷ v ∷ vs) e some =
    let p = and_parts (is_word w) (list_all is_word (v ∷ vs)) e in
    slice_split_at (λ b. eqb b 32) w 32 (join_with_byte 32 (v ∷ vs)) (no_space w p.0) refl
    ∙ ap (λ rest. w ∷ rest) (words_of-join (v ∷ vs) p.1 (omega arith))

printable_words : (ws : List (List ℕ)) → list_all is_word ws ≡ true → list_all is_printable (join_with_byte 32 ws) ≡ true
printable_words [] e = refl
printable_words (w ∷ []) e = printable_word w (bytes_of_word w (and_parts (is_word w) true e).0)
printable_words (w ∷ v ∷ vs) e =
    let p = and_parts (is_word w) (list_all is_word (v ∷ vs)) e in
    list_all-append is_printable w (32 ∷ join_with_byte 32 (v ∷ vs))
    ∙ and_from _ _ (printable_word w (bytes_of_word w p.0)) (printable_words (v ∷ vs) p.1)

length-join-le : (ws : List (List ℕ)) → list_all is_word ws ≡ true → length (join_with_byte 32 ws) ≤ 101 * length ws
length-join-le [] e = omega arith
length-join-le (w ∷ []) e = omega (arith, short_word w (and_parts (is_word w) true e).0)
length-join-le (w ∷ v ∷ vs) e =
    let p = and_parts (is_word w) (list_all is_word (v ∷ vs)) e in
    omega (arith, length-append w (32 ∷ join_with_byte 32 (v ∷ vs)), short_word w p.0, length-join-le (v ∷ vs) p.1)

-- few words are a line
pub plain_words : (ws : List (List ℕ)) → list_all is_word ws ≡ true → length ws ≤ 10 → is_plain (join_with_byte 32 ws) ≡ true
unfolding is_plain
plain_words ws e few =
    and_from _ _ (le-leb (length (join_with_byte 32 ws)) 1024 (omega (arith, length-join-le ws e))) (printable_words ws e)
