-- The texts of rounds, one after another.
use Rattle.std.proofs.Common.{◌≡◌, ℕ, ◌+◌, List, [], ◌∷◌, ◌++◌, refl, ◌∙◌, ap, sym, add-one}
use Rattle.std.specs.Prelude.{codes}
use Rattle.std.proofs.lemmas.Grind.{flat_map-append}
use Rattle.std.proofs.lemmas.List.{append-nil, append_assoc}
use Rattle.tr_gen.specs.Draws.{DrawnValue, give}
use Rattle.tr_gen.specs.Scripts.{opening_lines, round_lines, rounds_lines, script_of_number, text_of_lines}
use Rattle.tr_gen.specs.Writing.{continued, drawn_text}

-- lines of two lists
pub text_of-append : (before after : List (List ℕ)) → text_of_lines (before ++ after) ≡ text_of_lines before ++ text_of_lines after
text_of-append before after = flat_map-append (λ line. line ++ codes "\n") before after

-- no round makes no line
pub rounds-none : (state : ℕ) → rounds_lines 0 state ≡ give [] state
unfolding rounds_lines
rounds-none state = refl

-- one round more
rounds-more : (n state : ℕ) → let before = rounds_lines n state in let round = round_lines (n + 1) before.state in
    rounds_lines (n + 1) state ≡ record { value = before.value ++ round.value; state = round.state }
unfolding rounds_lines
rounds-more n state = rw add-one refl

pub rounds-more-text : (n state : ℕ) → let before = rounds_lines n state in
    text_of_lines (rounds_lines (n + 1) state).value ≡ text_of_lines before.value ++ text_of_lines (round_lines (n + 1) before.state).value
rounds-more-text n state =
    let before = rounds_lines n state in
    ap (λ (made : DrawnValue (List (List ℕ))). text_of_lines made.value) (rounds-more n state)
    ∙ text_of-append before.value (round_lines (n + 1) before.state).value

-- a text that goes on with no round
pub continued_none : (text : DrawnValue (List ℕ)) → continued text (drawn_text (rounds_lines 0)) ≡ text
continued_none text = rw rounds-none (ap (λ value. record { value = value; state = text.state }) (append-nil text.value))

-- a text that goes on with one round more
pub continued_more : (text : DrawnValue (List ℕ)) (n : ℕ) →
    continued text (drawn_text (rounds_lines (n + 1)))
    ≡ continued (continued text (drawn_text (rounds_lines n))) (drawn_text (round_lines (n + 1)))
continued_more text n =
    let before = rounds_lines n text.state in
    let round = round_lines (n + 1) before.state in
    let joined : text.value ++ text_of_lines (before.value ++ round.value) ≡ (text.value ++ text_of_lines before.value) ++ text_of_lines round.value =
    ap (λ lines. text.value ++ lines) (text_of-append before.value round.value)
    ∙ sym (append_assoc text.value (text_of_lines before.value) (text_of_lines round.value)) in
    ap (λ (made : DrawnValue (List (List ℕ))). record { value = text.value ++ text_of_lines made.value; state = made.state }) (rounds-more n text.state)
    ∙ ap (λ value. record { value = value; state = round.state }) joined

-- a script has three parts
pub script-parts : (number : ℕ) →
    script_of_number number ≡ (text_of_lines opening_lines ++ text_of_lines (rounds_lines 2000 number).value) ++ codes "dump\nend\n"
script-parts number =
    let rounds = (rounds_lines 2000 number).value in
    let end = codes "dump" ∷ codes "end" ∷ [] in
    text_of-append (opening_lines ++ rounds) end ∙ ap (λ text. text ++ text_of_lines end) (text_of-append opening_lines rounds)
