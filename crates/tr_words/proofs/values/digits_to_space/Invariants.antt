use Rattle.std.proofs.Common.{◌≡◌, ◌≤◌, take}
use Rattle.std.specs.Str.Parse.{AllDigits, digits_value}
use Rattle.tr_words.proofs.values.digits_to_space.Given as goal

-- the bytes so far are at most ten digits, and spell the number
abbrev pub invariant-loop-at : goal.invariant-loop-at
invariant-loop-at l = record {
  few : l.at ≤ 10;
  digits : AllDigits 10 (take l.at l.text);
  number : l.number ≡ digits_value 10 (take l.at l.text);
}
