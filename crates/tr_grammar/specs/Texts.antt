-- The lines of a text, and the bytes that a line may have.
use Rattle.std.specs.Prelude.{ℕ, ◌-◌, nat_le, ◌==◌, Bool, true, false, ◌&&◌, List, [], ◌∷◌, length, take, Option, Some, None, if◌then◌else◌}
use Rattle.std.specs.List.{list_all, slice_get, slice_split}
use Rattle.tr_base.specs.Lines.{is_printable}

-- there is a last piece, and it is empty
abbrev pub is_empty_piece : Option (List ℕ) → Bool
is_empty_piece None = false
is_empty_piece (Some piece) = length piece == 0

-- the last of the pieces is empty
abbrev pub ends_empty : List (List ℕ) → Bool
ends_empty pieces = is_empty_piece (slice_get pieces (length pieces - 1))

-- the pieces without an empty one at the end
abbrev pub without_empty_end : List (List ℕ) → List (List ℕ)
without_empty_end pieces = if ends_empty pieces then take (length pieces - 1) pieces else pieces

-- the lines of a text: the pieces between line feeds; an empty piece at the end is no line
unfoldable pub lines_of : List ℕ → List (List ℕ)
lines_of bytes = without_empty_end (slice_split (λ b. b == 10) bytes)

-- at most 1,024 bytes, each from 20 to 7e in hex
unfoldable pub is_plain : List ℕ → Bool
is_plain bytes = nat_le (length bytes) 1024 && list_all is_printable bytes

-- a line without a byte, or a comment: it has no meaning
abbrev pub is_silent : List ℕ → Bool
is_silent [] = true
is_silent (b ∷ bs) = b == 35
