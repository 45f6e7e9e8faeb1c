-- Worked examples, computed by the definitions. The lines are those of a program that was written apart.
use Rattle.std.proofs.Common.{◌≡◌, [], ◌∷◌, refl}
use Rattle.std.specs.Prelude.{codes}
use Rattle.std.specs.Fmt.{digits}
use Rattle.tr_gen.specs.Draws.{next_state, number_below}
use Rattle.tr_gen.specs.Lines.{drawn_line}
use Rattle.tr_gen.specs.Scripts.{round_lines, rounds_lines}

first_of_one : (rounds_lines 3 1).value ≡ codes "@t line ABAAAAAB" ∷ codes "@s tint 32" ∷ codes "lift k" ∷ []
unfolding next_state number_below drawn_line rounds_lines digits
first_of_one = refl

first_of_the_greatest : (rounds_lines 4 4294967295).value ≡ codes "@s tint 23" ∷ codes "@k undo" ∷ codes "lift k" ∷ codes "@m bar 5 16" ∷ []
unfolding next_state number_below drawn_line rounds_lines digits
first_of_the_greatest = refl

moved_and_swapped : (rounds_lines 2 120).value ≡ codes "move s -23 61" ∷ codes "@k swap 28 47 17 41" ∷ []
unfolding next_state number_below drawn_line rounds_lines digits
moved_and_swapped = refl

filled : (rounds_lines 1 2).value ≡ codes "@k rect 0 31 45 58 2" ∷ []
unfolding next_state number_below drawn_line rounds_lines digits
filled = refl

no_letters : (rounds_lines 1 344).value ≡ codes "@t line" ∷ []
unfolding next_state number_below drawn_line rounds_lines digits
no_letters = refl

hundredth : (round_lines 100 344).value ≡ codes "@t line" ∷ codes "sync" ∷ []
unfolding next_state number_below drawn_line digits
hundredth = refl
