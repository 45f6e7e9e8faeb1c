-- The codes of faults.
use Rattle.std.specs.Prelude.{ℕ}
use Rattle.tr_grammar.specs.declared.codes.Code.{Code}
use Rattle.tr_grammar.specs.declared.codes.Code.TheVariants.{B1, B2, B3, B4, B5, B6, B7, B8, B9, B10}

-- the number of a code
abbrev pub number_of_code : Code → ℕ
number_of_code B1 = 1
number_of_code B2 = 2
number_of_code B3 = 3
number_of_code B4 = 4
number_of_code B5 = 5
number_of_code B6 = 6
number_of_code B7 = 7
number_of_code B8 = 8
number_of_code B9 = 9
number_of_code B10 = 10
