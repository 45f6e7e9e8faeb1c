use Rattle.std.proofs.Common.{◌≡◌, take}
use Rattle.std.specs.Str.Parse.{AllDigits, digits_value}
use Rattle.tr_words.proofs.values.digits_number.Given as goal

-- the bytes so far are digits, and spell the number
abbrev pub invariant-loop-byte : goal.invariant-loop-byte
invariant-loop-byte l = record {
  digits : AllDigits 10 (take l.byte-index l.digits);
  number : l.number ≡ digits_value 10 (take l.byte-index l.digits);
}
