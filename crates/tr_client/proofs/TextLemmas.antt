-- Texts of digits, and texts in a row.
use Rattle.std.proofs.Common.{◌≡◌, ℕ, ◌+◌, ◌%◌, ◌<◌, ◌≤◌, ◌^◌, true, List, [], ◌∷◌, ◌++◌, length, refl, ◌∙◌, arith}
use Rattle.std.specs.Prelude.{decimal}
use Rattle.std.specs.List.{AllPass, list_all}
use Rattle.std.proofs.lemmas.Bool.Decides.{nat_tests}
use Rattle.std.proofs.lemmas.List.Sums.{AllPass-from_list_all}
use Rattle.std.proofs.lemmas.List.Folds.{list_all-append}
use Rattle.std.proofs.lemmas.Fmt.{decimal_by_steps}
use Rattle.std.proofs.lemmas.List.{length-append}
use Rattle.std.proofs.lemmas.List.Elements.{All-append}
use Rattle.tr_base.specs.Lines.{IsLine, is_printable}

-- the decimal text of a number can be printed
pub printable-decimal : (n : ℕ) → n < 2 ^ 64 → AllPass is_printable (decimal n)
printable-decimal n small = AllPass-from_list_all is_printable (decimal n) (decimal_by_steps Printable one more n small)
  where
    Printable : ℕ → List ℕ → Type 0
    Printable n ds = list_all is_printable ds ≡ true

    digit : (d : ℕ) → d < 10 → list_all is_printable ((48 + d) ∷ []) ≡ true
    digit d h = grind (arith, nat_tests)

    one : (n : ℕ) → n < 10 → list_all is_printable ((48 + n) ∷ []) ≡ true
    one n h = digit n h

    more : (n : ℕ) (ds : List ℕ) → 10 ≤ n → list_all is_printable ds ≡ true → list_all is_printable (ds ++ (48 + n % 10) ∷ []) ≡ true
    more n ds h all = list_all-append is_printable ds ((48 + n % 10) ∷ []) ∙ rw (all, digit (n % 10) (omega arith)) refl

-- two texts in a row are one where they are short enough together
pub line_in_a_row : (front back : List ℕ) → IsLine front → IsLine back → length front + length back ≤ 80 → IsLine (front ++ back)
line_in_a_row front back is rest fits = record {
  short = omega (arith, length-append front back);
  printable = All-append (λ c. is_printable c ≡ true) front back is.printable rest.printable;
}
