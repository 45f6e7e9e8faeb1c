-- The 17 lines of the opening have no fault.
use Rattle.std.proofs.Common.{◌≡◌, ℕ, ◌+◌, true, List, ◌++◌, length, refl, sym, ap, ◌∙◌}
use Rattle.std.specs.Fmt.{digits}
use Rattle.std.specs.List.{list_all}
use Rattle.tr_gen.specs.Scripts.{opening_lines}
use Rattle.tr_grammar.specs.Texts.{is_plain}
use Rattle.tr_grammar.specs.Words.{nat_of, is_number, int_of, is_signed, is_hex, hex_of, is_glyph_byte, is_name}
use Rattle.tr_grammar.specs.States.{nothing_yet}
use Rattle.tr_grammar.specs.Faults.{fault_of}
use Rattle.tr_grammar.specs.Scripts.{after_line, first_bad_line}
use Rattle.tr_forest.specs.Families.{depth_within, height_within, is_under_within}
use Rattle.hex.specs.Hex.{decode_pairs}
use Rattle.tr_gen_valid.proofs.Passing.{Pass}
use Rattle.tr_gen_valid.proofs.Playing.{state, at_begin}

opening_plain : list_all is_plain opening_lines ≡ true
unfolding opening_lines is_plain
opening_plain = refl

opening_on : (more : List (List ℕ)) → first_bad_line nothing_yet 1 (opening_lines ++ more) ≡ first_bad_line (state at_begin) 18 more
unfolding opening_lines is_plain nat_of is_number int_of is_signed is_hex hex_of is_glyph_byte is_name fault_of after_line digits decode_pairs
    depth_within height_within is_under_within
opening_on more = refl

pub length_opening : length opening_lines ≡ 17
unfolding opening_lines
length_opening = refl

pub opening_passes : Pass nothing_yet 1 opening_lines (state at_begin)
opening_passes = record {
  plain = opening_plain;
  on = λ more. opening_on more ∙ ap (λ n. first_bad_line (state at_begin) (1 + n) more) (sym length_opening);
}
