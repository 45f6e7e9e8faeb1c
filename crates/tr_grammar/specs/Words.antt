-- The words of a line, and the numbers, names and bytes that they spell.
use Rattle.std.specs.Prelude.{ℕ, ℤ, pos, neg_ℤ, nat_le, int_le, ◌==◌, Bool, false, ◌&&◌, ◌||◌, List, [], ◌∷◌, length, drop, slice_index, slice_index_or, bytes_eq, decimal, is_ok}
use Rattle.std.specs.Result.{result_unwrap_or}
use Rattle.std.specs.List.{list_all, list_any, slice_split, join_with_byte}
use Rattle.std.specs.Fmt.{signed_decimal}
use Rattle.std.specs.Str.Parse.{digits_value, signed_digits_value}
use Rattle.hex.specs.Hex.{decode_sized}

-- the words of a text: the pieces between single spaces
abbrev pub words_of : List ℕ → List (List ℕ)
words_of text = slice_split (λ b. b == 32) text

-- word i, counted from 0
abbrev pub word_at : List (List ℕ) → ℕ → List ℕ
word_at ws i = slice_index_or ws i []

-- the rest of the line after i words
abbrev pub rest_after : List (List ℕ) → ℕ → List ℕ
rest_after ws i = join_with_byte 32 (drop i ws)

-- the word is one of these
abbrev pub is_one_of : List (List ℕ) → List ℕ → Bool
is_one_of ts w = list_any (λ t. bytes_eq w t) ts

-- the number that a word of digits spells
unfoldable pub nat_of : List ℕ → ℕ
nat_of w = digits_value 10 w

-- the word is the decimal text of a number in this range
unfoldable pub is_number : ℕ → ℕ → List ℕ → Bool
is_number low high w = bytes_eq w (decimal (nat_of w)) && (nat_le low (nat_of w) && nat_le (nat_of w) high)

-- the number that a word of digits spells, with or without a minus
unfoldable pub int_of : List ℕ → ℤ
int_of w = signed_digits_value 10 w

-- the word is the decimal text of a number from minus the one to the other
unfoldable pub is_signed : ℕ → ℕ → List ℕ → Bool
is_signed low high w =
    bytes_eq w (signed_decimal (int_of w)) && (int_le (neg_ℤ (pos low)) (int_of w) && int_le (int_of w) (pos high))

-- the words are numbers to 4096, and none is less than the one before it
abbrev pub is_shape : List ℕ → List ℕ → List ℕ → Bool
is_shape lo pref hi = is_number 0 4096 lo && (is_number (nat_of lo) 4096 pref && is_number (nat_of pref) 4096 hi)

-- the word has n bytes in hex digits, two for each byte
unfoldable pub is_hex : ℕ → List ℕ → Bool
is_hex n w = is_ok (decode_sized w n)

-- the n bytes that the word spells in hex digits
unfoldable pub hex_of : ℕ → List ℕ → List ℕ
hex_of n w = result_unwrap_or (decode_sized w n) []

-- the byte that two hex digits spell
abbrev pub byte_of : List ℕ → ℕ
byte_of w = slice_index (hex_of 1 w) 0

-- the word is two hex digits of a byte that has a glyph: 20 to 7e
unfoldable pub is_glyph_byte : List ℕ → Bool
is_glyph_byte w = is_hex 1 w && (nat_le 32 (byte_of w) && nat_le (byte_of w) 126)

-- a letter from a to z
abbrev pub is_letter : ℕ → Bool
is_letter b = nat_le 97 b && nat_le b 122

-- a lower-case letter, a digit or an underscore
abbrev pub is_name_byte : ℕ → Bool
is_name_byte b = is_letter b || (nat_le 48 b && nat_le b 57) || b == 95

-- a lower-case letter and at most 15 name bytes
unfoldable pub is_name : List ℕ → Bool
is_name [] = false
is_name (b ∷ bs) = is_letter b && (nat_le (length bs) 15 && list_all is_name_byte bs)
