-- Scripts: the first fault of a text, and the script of a text without a fault.
use Rattle.std.specs.Prelude.{◌≡◌, ℕ, ◌+◌, nat_lt, ⊤, true, false, List, All, [], ◌∷◌, ◌++◌, length, Option, Some, None, is_some, if◌then◌else◌}
use Rattle.tr_forest.specs.Nodes.{Nodes, leaf_count}
use Rattle.tr_journal.specs.declared.Actor.{Actor}
use Rattle.tr_journal.specs.declared.Step.{Step}
use Rattle.tr_journal.specs.declared.Item.{Item}
use Rattle.tr_journal.specs.declared.Item.TheVariants as items
use Rattle.tr_journal.specs.Actors.{is_maker}
use Rattle.tr_journal.specs.Openings.{tree_of}
use Rattle.tr_journal.specs.Reports.{is_report}
use Rattle.tr_journal.specs.Steps.{IsOwn, IsQuery}
use Rattle.tr_widget.specs.declared.Widget.{Widget}
use Rattle.tr_widget.specs.declared.WidgetCmd.{WidgetCmd}
use Rattle.tr_grammar.specs.declared.codes.Code.{Code}
use Rattle.tr_grammar.specs.declared.codes.Code.TheVariants.{B7, B8}
use Rattle.tr_grammar.specs.declared.codes.ReadRefused.{ReadRefused}
use Rattle.tr_grammar.specs.declared.codes.ReadRefused.TheVariants as refused
use Rattle.tr_grammar.specs.Codes.{number_of_code}
use Rattle.tr_grammar.specs.declared.places.Place.TheVariants as places
use Rattle.tr_grammar.specs.declared.meanings.Meaning.{Meaning}
use Rattle.tr_grammar.specs.declared.meanings.Meaning.TheVariants as meanings
use Rattle.tr_grammar.specs.Texts.{is_silent, lines_of}
use Rattle.tr_grammar.specs.Words.{words_of, word_at}
use Rattle.tr_journal.specs.Names.{Names}
use Rattle.tr_journal.specs.Parts.{Part}
use Rattle.tr_grammar.specs.Forms.{Form, form_of}
use Rattle.tr_grammar.specs.Meanings.{meaning_of}
use Rattle.tr_grammar.specs.States.{SoFar, empty_part, nothing_yet}
use Rattle.tr_grammar.specs.Faults.{has_ended, fault_of}

-- ---- the additions of a line

-- the names, and w as the name of the item's node or leaf
abbrev pub with_name : List ℕ → Item Widget → Names → Names
with_name w (items.Node kind tint) names = record names { nodes = names.nodes ++ w ∷ [] }
with_name w (items.Leaf shapes content) names =
    record { nodes = names.nodes ++ w ∷ []; leaves = names.leaves ++ w ∷ [] }
with_name w item names = names

-- the glyphs, and the glyph of the item
abbrev pub with_glyph : Item Widget → List ℕ → List ℕ
with_glyph (items.Glyph byte rows) glyphs = glyphs ++ byte ∷ []
with_glyph item glyphs = glyphs

-- the script after a line with this meaning and the second word w
abbrev pub after_meaning : SoFar → List ℕ → Meaning → SoFar
after_meaning c w (meanings.Version n) = record c { version = n; place = places.Head }
after_meaning c w (meanings.Item item) = record c {
  place = places.Opening;
  names = with_name w item c.names;
  items = c.items ++ item ∷ [];
  glyphs = with_glyph item c.glyphs;
}
after_meaning c w meanings.Begin = record c { place = places.Gap }
after_meaning c w (meanings.Step actor step) = record c {
  place = places.Steps;
  part = record c.part { steps = c.part.steps ++ (actor, step) ∷ [] };
}
after_meaning c w meanings.Sync = record c { place = places.Gap; ended = c.ended ++ c.part ∷ []; part = empty_part }
after_meaning c w (meanings.Report query) = record c {
  place = places.Gap;
  part = record c.part { reports = c.part.reports ++ query ∷ [] };
}
after_meaning c w meanings.End = record c { place = places.Ended }

-- the script after a line of this form with these words
abbrev pub after_as : SoFar → Option Form → List (List ℕ) → SoFar
after_as c None ws = c
after_as c (Some f) ws = after_meaning c (word_at ws 1) (meaning_of c.names ws f)

-- the script after a line
unfoldable pub after_line : SoFar → List ℕ → SoFar
after_line c bytes = if is_silent bytes then c else after_as c (form_of c.version (words_of bytes)) (words_of bytes)

-- ---- the whole text

-- the refusal of a text: a line, counted from 1, and the code of its first fault; line 0 means the whole text
pub record Refusal : Type 0 where
  pub line : ℕ
  pub code : ℕ

-- the refusal of line n for this code
abbrev pub refused_at : ℕ → Code → Refusal
refused_at n code = record { line = n; code = number_of_code code }

-- the fault of line n, if it has one, else the later refusal
abbrev pub or_later : Option Code → ℕ → Option Refusal → Option Refusal
or_later None n later = later
or_later (Some code) n later = Some (refused_at n code)

-- the first line with a fault, and its first fault; the lines are counted from n, and a missing end is a fault of the line after them
abbrev pub first_bad_line : SoFar → ℕ → List (List ℕ) → Option Refusal
first_bad_line c n [] = if has_ended c.place then None else Some (refused_at n B8)
first_bad_line c n (t ∷ ts) = or_later (fault_of c n t) n (first_bad_line (after_line c t) (n + 1) ts)

-- the script after these lines
abbrev pub after_all_lines : SoFar → List (List ℕ) → SoFar
after_all_lines c [] = c
after_all_lines c (t ∷ ts) = after_all_lines (after_line c t) ts

-- the greatest length of a text: 4 MiB
abbrev pub most_script_bytes : ℕ
most_script_bytes = 4194304

-- the refusal of a text, if it is no script
unfoldable pub refusal_of : List ℕ → Option Refusal
refusal_of bytes =
    if nat_lt most_script_bytes (length bytes) then Some (refused_at 0 B7) else first_bad_line nothing_yet 1 (lines_of bytes)

-- the model of a script: the items of its opening, the names, and the parts
pub record Script : Type 0 where
  pub opening : List (Item Widget)
  pub names : Names
  pub parts : List (Part WidgetCmd)

-- the script so far as a whole one: its last part ends here
abbrev pub whole : SoFar → Script
whole c = record { opening = c.items; names = c.names; parts = c.ended ++ c.part ∷ [] }

-- the script of a text without a fault
unfoldable pub script_of : List ℕ → Script
script_of bytes = whole (after_all_lines nothing_yet (lines_of bytes))

-- a step can be played: it is the desk's or a leaf's own, and no report
pub record IsPlayable (t : Nodes) (made : Actor × Step WidgetCmd) : Type 0 where
  pub maker : is_maker made.0 ≡ true
  pub own : IsOwn t made.0 made.1
  pub other : is_report made.1 ≡ false

-- all of a part can be reported and played
pub record IsPlayablePart (t : Nodes) (part : Part WidgetCmd) : Type 0 where
  pub reports : All (IsQuery t) part.reports
  pub steps : All (IsPlayable t) part.steps

-- a script can be played: there is a root, each node and each leaf has a name, and all parts can be played
pub record IsPlayableScript (s : Script) : Type 0 where
  pub root : is_some (tree_of s.opening).nodes.root ≡ true
  pub nodes : length s.names.nodes ≡ length (tree_of s.opening).nodes.entries
  pub leaves : length s.names.leaves ≡ leaf_count (tree_of s.opening).nodes
  pub parts : All (IsPlayablePart (tree_of s.opening).nodes) s.parts

-- the cause of a refusal: the text, or want of memory
abbrev pub IsReadCause : Option Refusal → ReadRefused → Type 0
IsReadCause refusal refused.NoMemory = ⊤
IsReadCause refusal (refused.Refused line code) = refusal ≡ Some (record { line = line; code = code })
