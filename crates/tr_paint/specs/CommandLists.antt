-- Private contracts alone cite this file.
-- Commands as a batch keeps them: each has the place of a stored command, and a text also the place of its bytes and its point.
use Rattle.std.specs.Prelude.{◌≡◌, ⊤, ℕ, ◌<◌, pos, List, [], ◌++◌, length, slice_index_or, All}
use Rattle.tr_base.specs.Rects.{empty_rect}
use Rattle.tr_paint.specs.declared.paints.Paint.{Paint}
use Rattle.tr_paint.specs.declared.paints.Paint.TheVariants.{Text, Spoil}
use Rattle.tr_paint.specs.declared.places.TextAt.{TextAt}
use Rattle.tr_paint.specs.declared.places.Places.{Places}

-- a command with these bytes at this point, if it is a text
abbrev pub with_text_at : Paint → TextAt → Paint
with_text_at (Text ops clip at text) placed = Text ops clip placed.at placed.text
with_text_at c placed = c

-- two commands differ at most in the bytes and the point of a text
abbrev pub DiffersInTextAlone : Paint → Paint → Type 0
DiffersInTextAlone d c = (placed : TextAt) × (d ≡ with_text_at c placed)

-- a text without a byte
abbrev pub no_text : TextAt
no_text = record { at = record { h = pos 0; v = pos 0 }; text = [] }

-- the stored command at a place, and the text at one (each place of a command is within its list)
abbrev pub stored_at : List Paint → ℕ → Paint
stored_at stored k = slice_index_or stored k (Spoil empty_rect)

abbrev pub text_at : List TextAt → ℕ → TextAt
text_at texts k = slice_index_or texts k no_text

-- the command with these places: the stored one, with its own bytes and point if it is a text
abbrev pub command_at_places : List Paint → List TextAt → Places → Paint
command_at_places stored texts own = with_text_at (stored_at stored own.command) (text_at texts own.text)

-- a text's place is below n
abbrev pub HasText : Paint → ℕ → ℕ → Type 0
HasText (Text ops clip at text) k n = k < n
HasText c k n = ⊤

-- a command isn't a text
abbrev pub IsNoText : Paint → Type 0
IsNoText (Text ops clip at text) = ⊥
IsNoText c = ⊤

-- the places of a command are within the lists
pub record HasPlacesWithin (stored : List Paint) (texts : List TextAt) (own : Places) : Type 0 where
  pub command : own.command < length stored
  pub text : HasText (stored_at stored own.command) own.text (length texts)

-- so are those of each command
abbrev pub HaveParts : List Paint → List TextAt → List Places → Type 0
HaveParts stored texts places = All (HasPlacesWithin stored texts) places

-- the new list begins with the old one
abbrev pub ListGrew : {X : Type 0} → List X → List X → Type 0
ListGrew {X} old new = (more : List X) × (new ≡ old ++ more)

-- the new stored commands begin with the old ones, and the one at a place is like this command
pub record IsStoredAt (old new : List Paint) (c : Paint) (k : ℕ) : Type 0 where
  pub grew : ListGrew old new
  pub within : k < length new
  pub like : DiffersInTextAlone (stored_at new k) c
