-- Hex digits can be printed.
use Rattle.std.proofs.Common.{◌≡◌, ℕ, suc, ◌/◌, ◌%◌, ◌<◌, true, List, [], ◌∷◌, refl, arith}
use Rattle.std.specs.Prelude.{slice_index}
use Rattle.std.specs.List.{AllPass, list_all}
use Rattle.std.proofs.lemmas.List.Sums.{AllPass-from_list_all}
use Rattle.hex.specs.Hex.{IsBytes, encode_with, encode_lower, lower_digits}
use Rattle.tr_base.specs.Lines.{is_printable}

printable-digit : (d : ℕ) → d < 16 → is_printable (slice_index lower_digits d) ≡ true
printable-digit d h = AllPass-from_list_all is_printable lower_digits refl d 0 h

printable-pairs : (bytes : List ℕ) → IsBytes bytes → list_all is_printable (encode_with lower_digits bytes) ≡ true
unfolding encode_with
printable-pairs [] are = refl
printable-pairs (b ∷ bytes) are =
    let small : b < 256 = are 0 in
    rw (printable-digit (b / 16) (omega arith), printable-digit (b % 16) (omega arith)) (printable-pairs bytes (λ i. are (suc i)))

pub printable-hex : (bytes : List ℕ) → IsBytes bytes → AllPass is_printable (encode_lower bytes)
printable-hex bytes are = AllPass-from_list_all is_printable (encode_lower bytes) (printable-pairs bytes are)
