-- Where a text is cut: its first piece, and the pieces behind it; its first line, and the lines behind it.
use Rattle.std.proofs.Common.{◌≡◌, ◌≢◌, ℕ, ◌+◌, ◌-◌, ◌<◌, ◌≤◌, zero, suc, Bool, true, false, cond, eqb, List, [], ◌∷◌, ◌++◌, All, length, get_or, take, drop, refl, ap, ◌∙◌, sym, ne_eqb, arith}
use Rattle.std.specs.Prelude.{slice_get, slice_index}
use Rattle.std.specs.List.{slice_split}
use Rattle.std.proofs.lemmas.Grind.{common_steps}
use Rattle.std.proofs.lemmas.List.Splits.{slice_split_at, slice_split_none, length-slice_split}
use Rattle.tr_grammar.specs.Texts.{lines_of, is_empty_piece, without_empty_end}

-- the test that a byte is e
abbrev pub is_just : ℕ → ℕ → Bool
is_just e b = eqb b e

onto_both : (b : Bool) (piece : List ℕ) (xs ys : List (List ℕ)) → cond b (piece ∷ xs) (piece ∷ ys) ≡ piece ∷ cond b xs ys
onto_both true piece xs ys = refl
onto_both false piece xs ys = refl

-- a piece in front of others isn't the last
behind_a_piece : (piece : List ℕ) (pieces : List (List ℕ)) → 0 < length pieces → without_empty_end (piece ∷ pieces) ≡ piece ∷ without_empty_end pieces
behind_a_piece piece [] some = absurd (omega (arith, some))
behind_a_piece piece (next ∷ pieces) some =
    let all = piece ∷ next ∷ pieces in
    let last : length all - 1 ≡ suc (length pieces) = omega arith in
    let before : length (next ∷ pieces) - 1 ≡ length pieces = omega arith in
    ap (λ i. cond (is_empty_piece (slice_get all i)) (take i all) all) last
    ∙ onto_both (is_empty_piece (slice_get (next ∷ pieces) (length pieces))) piece (take (length pieces) (next ∷ pieces)) (next ∷ pieces)
    ∙ ap (λ i. piece ∷ cond (is_empty_piece (slice_get (next ∷ pieces) i)) (take i (next ∷ pieces)) (next ∷ pieces)) (sym before)

split_at_place : (bytes : List ℕ) (at : ℕ) → at < length bytes → bytes ≡ take at bytes ++ slice_index bytes at ∷ drop (at + 1) bytes
split_at_place [] at within = absurd (omega (arith, within))
split_at_place (b ∷ bytes) zero within = refl
split_at_place (b ∷ bytes) (suc at) within =
    let next : suc (at + 1) ≡ suc at + 1 = omega arith in
    ap (λ rest. b ∷ rest) (split_at_place bytes at (omega (arith, within)))
    ∙ ap (λ n. b ∷ (take at bytes ++ slice_index bytes at ∷ drop n (b ∷ bytes))) next

is_false : (b : Bool) → b ≢ true → b ≡ false
is_false true isnt = absurd (isnt refl)
is_false false isnt = refl

none_before : (e : ℕ) (bytes : List ℕ) (at : ℕ) → ((k : ℕ) → k < at → is_just e (slice_index bytes k) ≢ true) →
    All (λ b. is_just e b ≡ false) (take at bytes)
none_before e bytes at none k d within =
    let most : length (take at bytes) ≤ at = grind (arith, common_steps) in
    let short : k < at = omega (arith, most, within) in
    let same : get_or (take at bytes) k d ≡ slice_index bytes k = grind (arith, common_steps) in
    ap (is_just e) same ∙ is_false (is_just e (slice_index bytes k)) (none k short)

-- a byte that is there, whatever stands for one that is not
pub same_byte : (bytes : List ℕ) (k d : ℕ) → k < length bytes → get_or bytes k d ≡ slice_index bytes k
same_byte bytes k d within = grind (arith, common_steps)

-- up to the first byte that cuts a text there is its first piece
pub cut_at : (e : ℕ) (bytes : List ℕ) (at : ℕ) → at < length bytes → is_just e (slice_index bytes at) ≡ true →
    ((k : ℕ) → k < at → is_just e (slice_index bytes k) ≢ true) →
    slice_split (is_just e) bytes ≡ take at bytes ∷ slice_split (is_just e) (drop (at + 1) bytes)
cut_at e bytes at within is none =
    ap (slice_split (is_just e)) (split_at_place bytes at within)
    ∙ slice_split_at (is_just e) (take at bytes) (slice_index bytes at) (drop (at + 1) bytes) (none_before e bytes at none) is

-- without such a byte there is one piece
pub uncut : (e : ℕ) (bytes : List ℕ) → ((k : ℕ) → k < length bytes → is_just e (slice_index bytes k) ≢ true) →
    slice_split (is_just e) bytes ≡ bytes ∷ []
uncut e bytes none =
    slice_split_none (is_just e) bytes (λ k d within.
    ap (is_just e) (same_byte bytes k d within) ∙ is_false (is_just e (slice_index bytes k)) (none k within))

-- up to the first line feed there is the first line
pub first_of_lines : (bytes : List ℕ) (at : ℕ) → at < length bytes → is_just 10 (slice_index bytes at) ≡ true →
    ((k : ℕ) → k < at → is_just 10 (slice_index bytes k) ≢ true) → lines_of bytes ≡ take at bytes ∷ lines_of (drop (at + 1) bytes)
unfolding lines_of
first_of_lines bytes at within is none =
    ap without_empty_end (cut_at 10 bytes at within is none)
    ∙ behind_a_piece (take at bytes) (slice_split (is_just 10) (drop (at + 1) bytes))
    (omega (arith, length-slice_split (is_just 10) (drop (at + 1) bytes)))

-- without a line feed there is one line
pub only_line : (bytes : List ℕ) → 0 < length bytes → ((k : ℕ) → k < length bytes → is_just 10 (slice_index bytes k) ≢ true) →
    lines_of bytes ≡ bytes ∷ lines_of []
unfolding lines_of
only_line bytes some none =
    let full : eqb (length bytes) 0 ≡ false = ne_eqb (length bytes) 0 (λ same. omega (arith, same, some)) in
    ap without_empty_end (uncut 10 bytes none) ∙ ap (λ b. cond b [] (bytes ∷ [])) full
