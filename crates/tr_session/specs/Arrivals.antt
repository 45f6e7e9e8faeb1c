-- Lines that arrive in pieces.
use Rattle.std.specs.Prelude.{◌≡◌, ℕ, ◌-◌, ◌==◌, List, [], ◌∷◌, ◌++◌, length, take, Contains}
use Rattle.std.specs.List.{slice_split}

-- the first bytes of the line that has begun, at most 1,025, and the bytes that were read after them
pub record ArrivalsView : Type 0 where
  pub begun : List ℕ
  pub rest : List ℕ

-- the first 1,025 bytes of a line, which have its request and its fault
abbrev pub first_bytes : List ℕ → List ℕ
first_bytes line = take 1025 line

-- the pieces between line feeds
abbrev pub pieces_of : List ℕ → List (List ℕ)
pieces_of bytes = slice_split (λ b. b == 10) bytes

-- the whole lines: those with their line feed
abbrev pub whole_lines : List ℕ → List (List ℕ)
whole_lines bytes = take (length (pieces_of bytes) - 1) (pieces_of bytes)

-- the line that had begun is whole: its line feed came
pub record HasLine (old new : ArrivalsView) : Type 0 where
  pub more : List ℕ
  pub rest : old.rest ≡ more ++ 10 ∷ new.rest
  pub unbroken : Contains more 10 → ⊥
  pub begun : new.begun ≡ first_bytes (old.begun ++ more)

-- the line that has begun isn't whole yet
pub record IsWithoutLine (old new : ArrivalsView) : Type 0 where
  pub rest : new.rest ≡ []
  pub unbroken : Contains old.rest 10 → ⊥
  pub begun : new.begun ≡ first_bytes (old.begun ++ old.rest)
