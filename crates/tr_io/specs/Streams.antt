-- The bytes of a source and of a sink over time, if these tell them.
use Rattle.std.specs.Prelude.{◌≡◌, ℕ, List, take, drop, Option, None, Some}
use Rattle.std.specs.Option.{option_map}
use Rattle.std.specs.Io.KnownBytes.{append_known, prepend_known}

-- a text was taken from the front of a source's bytes
abbrev pub Fell : Option (List ℕ) → Option (List ℕ) → List ℕ → Type 0
Fell before after text = before ≡ prepend_known text after

-- a sink's bytes grew by a text
abbrev pub Grew : Option (List ℕ) → Option (List ℕ) → List ℕ → Type 0
Grew before after text = after ≡ append_known before text

-- a sink's bytes grew by a prefix of a text
abbrev pub GrewByPrefix : Option (List ℕ) → Option (List ℕ) → List ℕ → Type 0
GrewByPrefix before after text = (n : ℕ) × Grew before after (take n text)

-- a fact of the first bytes, at most `most`, that a source still has; if it doesn't tell them, of some
-- bytes
abbrev pub OfFirst : ℕ → Option (List ℕ) → (List ℕ → Type 0) → Type 0
OfFirst most None P = (bytes : List ℕ) × P bytes
OfFirst most (Some left) P = P (take most left)

-- a source was read until `most` bytes came, or to its end
abbrev pub IsReadUpTo : ℕ → Option (List ℕ) → Option (List ℕ) → Type 0
IsReadUpTo most before after = after ≡ option_map (λ left. drop most left) before
