-- A script has 2,039 lines: each line has a line feed at its end, and no other.
use Rattle.std.proofs.Common.{◌≡◌, ℕ, zero, suc, ◌+◌, ◌/◌, ◌%◌, ◌<◌, ◌≤◌, ◌^◌, ◌==◌, Bool, true, false, cond, ℤ, pos, negsuc, ◌-ℤ◌, List, [], ◌∷◌, ◌++◌, refl, ◌∙◌, ap, subst, add-one, arith}
use Rattle.std.specs.Prelude.{count_by, codes, decimal, slice_index, unsigned_abs}
use Rattle.std.specs.Fmt.{signed_decimal}
use Rattle.std.proofs.lemmas.Bool.Decides.{nat_tests}
use Rattle.std.proofs.lemmas.Int.{ints}
use Rattle.std.proofs.lemmas.List.Sums.{sum_by-append}
use Rattle.std.proofs.lemmas.Fmt.{decimal_by_steps}
use Rattle.tr_gen.specs.Draws.{Drawing, number_below, next_state}
use Rattle.tr_gen.specs.Lines.{number_word, letters, text_line, drawn_edges, rect_line, swap_line, bar_line, undo_line, tint_line, coordinate_word, child_word, move_line, lift_line, drawn_line, round_line}
use Rattle.tr_gen.specs.Scripts.{opening_lines, round_lines, rounds_lines, script_of_number, sync_after, text_of_lines}
use Rattle.tr_gen.proofs.RoundLemmas.{text_of-append, rounds-none, rounds-more-text}

-- how many line feeds a text has
abbrev pub feeds : List ℕ → ℕ
feeds text = count_by (λ byte. byte == 10) text

-- each text that is made is of one line
abbrev IsOneLine : Drawing (List ℕ) → Type 0
IsOneLine line = (state : ℕ) → feeds (line state).value ≡ 0

feeds-append : (xs ys : List ℕ) → feeds (xs ++ ys) ≡ feeds xs + feeds ys
feeds-append xs ys = sum_by-append (λ byte. cond (byte == 10) 1 0) xs ys

both : (xs ys : List ℕ) → feeds xs ≡ 0 → feeds ys ≡ 0 → feeds (xs ++ ys) ≡ 0
both xs ys first last = omega (arith, feeds-append xs ys)

feeds-decimal : (n : ℕ) → n < 2 ^ 64 → feeds (decimal n) ≡ 0
feeds-decimal n small = decimal_by_steps (λ (n : ℕ) (ds : List ℕ). feeds ds ≡ 0) digit more n small
  where
    digit : (n : ℕ) → n < 10 → feeds ((48 + n) ∷ []) ≡ 0
    digit n h = grind (arith, nat_tests)

    more : (n : ℕ) (ds : List ℕ) → 10 ≤ n → feeds ds ≡ 0 → feeds (ds ++ (48 + n % 10) ∷ []) ≡ 0
    more n ds h none = both ds ((48 + n % 10) ∷ []) none (digit (n % 10) (omega arith))

feeds-number_word : (n : ℕ) → n < 2 ^ 64 → feeds (number_word n) ≡ 0
feeds-number_word n small = both (codes " ") (decimal n) refl (feeds-decimal n small)

feeds-signed : (z : ℤ) → unsigned_abs z < 2 ^ 64 → feeds (signed_decimal z) ≡ 0
feeds-signed (pos n) small = feeds-decimal n small
feeds-signed (negsuc n) small = both (45 ∷ []) (decimal (suc n)) refl (feeds-decimal (suc n) small)

-- a number that is drawn is below the given one
below : (k state : ℕ) → 0 < k → k ≤ 256 → number_below k state < 256
unfolding number_below
below k state some few = omega arith

feeds-drawn : (k state : ℕ) → 0 < k → k ≤ 256 → feeds (number_word (number_below k state)) ≡ 0
feeds-drawn k state some few = feeds-number_word (number_below k state) (omega (arith, below k state some few))

one-letter : (i : ℕ) → feeds (slice_index (codes "AB") i ∷ []) ≡ 0
one-letter zero = refl
one-letter (suc zero) = refl
one-letter (suc (suc i)) = refl

one-child : (i : ℕ) → feeds (slice_index (codes "bkms") i ∷ []) ≡ 0
one-child zero = refl
one-child (suc zero) = refl
one-child (suc (suc zero)) = refl
one-child (suc (suc (suc zero))) = refl
one-child (suc (suc (suc (suc i)))) = refl

letters-one : (n : ℕ) → IsOneLine (letters n)
letters-one zero state = refl
letters-one (suc n) state = both (letters n state).value _ (letters-one n state) (one-letter _)

text-one : IsOneLine text_line
text-one state = by_test (number_below 21 (next_state state) == 0)
  where
    text : List ℕ
    text = (letters (number_below 21 (next_state state)) (next_state state)).value

    by_test : (b : Bool) → feeds (cond b (codes "@t line") (codes "@t line " ++ text)) ≡ 0
    by_test true = refl
    by_test false = both (codes "@t line ") text refl (letters-one (number_below 21 (next_state state)) (next_state state))

three : (a b c : List ℕ) → feeds a ≡ 0 → feeds b ≡ 0 → feeds c ≡ 0 → feeds (a ++ b ++ c) ≡ 0
three a b c first second third = both (a ++ b) c (both a b first second) third

-- an edge, and one that lies some points after it
feeds-edges : (low wide : ℕ) →
    feeds (number_word (number_below 64 low)) ≡ 0
    × (feeds (number_word (number_below 64 low + number_below 32 wide)) ≡ 0)
feeds-edges low wide =
    let first = below 64 low (omega arith) (omega arith) in
    let second = below 32 wide (omega arith) (omega arith) in
    (feeds-number_word (number_below 64 low) (omega arith), feeds-number_word (number_below 64 low + number_below 32 wide) (omega arith))

edges-one : IsOneLine drawn_edges
edges-one x0 =
    let x1 = next_state x0 in
    let x2 = next_state x1 in
    let x3 = next_state x2 in
    let x4 = next_state x3 in
    let west = number_below 64 x1 in
    let east = west + number_below 32 x2 in
    let north = number_below 64 x3 in
    let south = north + number_below 32 x4 in
    let across = feeds-edges x1 x2 in
    let down = feeds-edges x3 x4 in
    both (number_word west ++ number_word east ++ number_word north) (number_word south)
    (three (number_word west) (number_word east) (number_word north) across.0 across.1 down.0) down.1

rect-one : IsOneLine rect_line
rect-one state =
    let area = drawn_edges state in
    three (codes "@k rect") area.value (number_word (number_below 256 (next_state area.state)))
    refl (edges-one state) (feeds-drawn 256 (next_state area.state) (omega arith) (omega arith))

swap-one : IsOneLine swap_line
swap-one state = both (codes "@k swap") (drawn_edges state).value refl (edges-one state)

bar-one : IsOneLine bar_line
bar-one state =
    let first = next_state state in
    let second = next_state first in
    three (codes "@m bar") (number_word (number_below 8 first)) (number_word (number_below 64 second))
    refl (feeds-drawn 8 first (omega arith) (omega arith)) (feeds-drawn 64 second (omega arith) (omega arith))

tint-one : IsOneLine tint_line
tint-one state =
    both (codes "@s tint") (number_word (number_below 256 (next_state state)))
    refl (feeds-drawn 256 (next_state state) (omega arith) (omega arith))

place-one : (k : ℕ) → 0 < k → k ≤ 256 → IsOneLine (coordinate_word k)
place-one k some few state =
    let n = number_below k (next_state state) in
    let small : n < 256 = below k (next_state state) some few in
    both (codes " ") (signed_decimal (pos n -ℤ pos 32)) refl (feeds-signed (pos n -ℤ pos 32) (omega (arith, ints)))

child-one : IsOneLine child_word
child-one state = one-child (number_below 4 (next_state state))

move-one : IsOneLine move_line
move-one state =
    let name = child_word state in
    let h = coordinate_word 256 name.state in
    let v = coordinate_word 192 h.state in
    both (codes "move" ++ name.value ++ h.value) v.value
    (three (codes "move") name.value h.value refl (child-one state) (place-one 256 (omega arith) (omega arith) name.state))
    (place-one 192 (omega arith) (omega arith) h.state)

lift-one : IsOneLine lift_line
lift-one state = both (codes "lift") (child_word state).value refl (child-one state)

undo-one : IsOneLine undo_line
undo-one state = refl

either : (b : Bool) (one other : Drawing (List ℕ)) → IsOneLine one → IsOneLine other → IsOneLine (cond b one other)
either true one other first last = first
either false one other first last = last

kinds-one : (kind : ℕ) → IsOneLine (drawn_line kind)
unfolding drawn_line
kinds-one kind =
    either (kind == 0) _ _ text-one
    (either (kind == 1) _ _ rect-one
    (either (kind == 2) _ _ swap-one
    (either (kind == 3) _ _ undo-one
    (either (kind == 4) _ _ bar-one
    (either (kind == 5) _ _ tint-one
    (either (kind == 6) _ _ move-one lift-one))))))

round-one : IsOneLine round_line
round-one state = kinds-one (number_below 8 (next_state state)) (next_state state)

feeds-line : (line : List ℕ) (rest : List (List ℕ)) → feeds line ≡ 0 → feeds (text_of_lines (line ∷ rest)) ≡ 1 + feeds (text_of_lines rest)
feeds-line line rest one =
    let ended : feeds (line ++ codes "\n") ≡ 1 = feeds-append line (codes "\n") ∙ ap (λ n. n + 1) one in
    feeds-append (line ++ codes "\n") (text_of_lines rest) ∙ ap (λ n. n + feeds (text_of_lines rest)) ended

feeds-sync : (round : ℕ) → feeds (text_of_lines (sync_after round)) ≡ cond (round % 100 == 0) 1 0
feeds-sync round = by_test (round % 100 == 0)
  where
    by_test : (b : Bool) → feeds (text_of_lines (cond b (codes "sync" ∷ []) [])) ≡ cond b 1 0
    by_test true = refl
    by_test false = refl

feeds-round : (round state : ℕ) → feeds (text_of_lines (round_lines round state).value) ≡ 1 + cond (round % 100 == 0) 1 0
feeds-round round state = feeds-line (round_line state).value (sync_after round) (round-one state) ∙ ap (λ n. 1 + n) (feeds-sync round)

-- a line for each round, and one more for every hundredth
feeds-rounds : (n state : ℕ) → feeds (text_of_lines (rounds_lines n state).value) ≡ n + n / 100
feeds-rounds zero state = rw rounds-none refl
feeds-rounds (suc n) state =
    subst (λ (m : ℕ). feeds (text_of_lines (rounds_lines m state).value) ≡ m + m / 100) (add-one n)
    (more (feeds-rounds n state) ∙ by_test ((n + 1) % 100 == 0) refl)
  where
    old : List ℕ
    old = text_of_lines (rounds_lines n state).value

    new : List ℕ
    new = text_of_lines (round_lines (n + 1) (rounds_lines n state).state).value

    more : feeds old ≡ n + n / 100 →
        feeds (text_of_lines (rounds_lines (n + 1) state).value) ≡ (n + n / 100) + (1 + cond ((n + 1) % 100 == 0) 1 0)
    more before =
        let round = feeds-round (n + 1) (rounds_lines n state).state in
        ap feeds (rounds-more-text n state) ∙ feeds-append old new ∙ ap (λ k. k + feeds new) before ∙ ap (λ k. (n + n / 100) + k) round

    by_test : (b : Bool) → ((n + 1) % 100 == 0) ≡ b → (n + n / 100) + (1 + cond b 1 0) ≡ (n + 1) + (n + 1) / 100
    by_test true is = grind (arith, nat_tests)
    by_test false is = grind (arith, nat_tests)

feeds-opening : feeds (text_of_lines opening_lines) ≡ 17
unfolding opening_lines
feeds-opening = refl

pub feeds-script : (number : ℕ) → feeds (script_of_number number) ≡ 2039
feeds-script number =
    let rounds = (rounds_lines 2000 number).value in
    let end = codes "dump" ∷ codes "end" ∷ [] in
    let cut : feeds (script_of_number number) ≡ feeds (text_of_lines (opening_lines ++ rounds)) + feeds (text_of_lines end) =
    ap feeds (text_of-append (opening_lines ++ rounds) end) ∙ feeds-append (text_of_lines (opening_lines ++ rounds)) (text_of_lines end) in
    let cut_again : feeds (text_of_lines (opening_lines ++ rounds)) ≡ feeds (text_of_lines opening_lines) + feeds (text_of_lines rounds) =
    ap feeds (text_of-append opening_lines rounds) ∙ feeds-append (text_of_lines opening_lines) (text_of_lines rounds) in
    omega (arith, feeds-opening, feeds-rounds 2000 number)
