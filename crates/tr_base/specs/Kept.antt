-- How a line's text is kept.
use Rattle.std.specs.Prelude.{◌≡◌, ℕ, ◌-◌, ◌≤◌, List, ◌++◌, length, take, replicate}
use Rattle.tr_base.specs.Lines.{IsLine}
use Rattle.tr_base.specs.declared.lines.Kept.{Kept}
use Rattle.tr_base.specs.declared.lines.Kept.TheVariants.{Short, Long}

-- the text: the first n bytes of a short one, all bytes of a long one
abbrev pub text_of : Kept → List ℕ
text_of (Short n bytes) = take n bytes
text_of (Long text) = text.items

-- a short text is of at most 46 bytes
abbrev pub CountFits : Kept → Type 0
CountFits (Short n bytes) = n ≤ 46
CountFits (Long text) = Unit {0}

-- what is kept is a text
pub record KeepsLine (kept : Kept) : Type 0 where
  pub line : IsLine (text_of kept)
  pub count : CountFits kept

-- the 46 bytes in which a short text is kept: its own bytes, and zeros after them
abbrev pub padded : List ℕ → List ℕ
padded text = text ++ replicate (46 - length text) 0

-- these bytes are kept
pub record Keeps (kept : Kept) (bytes : List ℕ) : Type 0 where
  pub text : text_of kept ≡ bytes
  pub count : CountFits kept
