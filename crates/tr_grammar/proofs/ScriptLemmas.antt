-- The script behind several lines.
use Rattle.std.proofs.Common.{◌≡◌, ℕ, List, [], ◌∷◌, ◌++◌, refl}
use Rattle.tr_grammar.specs.States.{SoFar}
use Rattle.tr_grammar.specs.Scripts.{after_all_lines, after_line}

-- lines behind lines
pub after_all_lines-append : (c : SoFar) (xs ys : List (List ℕ)) → after_all_lines c (xs ++ ys) ≡ after_all_lines (after_all_lines c xs) ys
after_all_lines-append c [] ys = refl
after_all_lines-append c (x ∷ xs) ys = after_all_lines-append (after_line c x) xs ys
