-- The faults of a line: a test for each code, in the order in which they are named.
use Rattle.std.specs.Prelude.{ℕ, ◌+◌, nat_le, ◌==◌, Bool, true, false, not, ◌&&◌, ◌||◌, List, [], ◌∷◌, ◌++◌, length, drop, slice_get, sum_by, Option, Some, None, is_some, is_none, if◌then◌else◌}
use Rattle.std.specs.List.{list_any, join_with_byte}
use Rattle.tr_base.specs.Lists.{first_true}
use Rattle.tr_forest.specs.declared.Edit.TheVariants as edits
use Rattle.tr_forest.specs.Nodes.{Nodes}
use Rattle.tr_forest.specs.Edits.{refusal}
use Rattle.tr_journal.specs.declared.Item.TheVariants as items
use Rattle.tr_journal.specs.declared.Step.TheVariants as steps
use Rattle.tr_journal.specs.Openings.{tree_of, contents_of, root_refusal}
use Rattle.tr_widget.specs.declared.Widget.{Widget}
use Rattle.tr_widget.specs.declared.Widget.TheVariants as widgets
use Rattle.tr_widget.specs.declared.WidgetCmd.{WidgetCmd}
use Rattle.tr_widget.specs.declared.WidgetCmd.TheVariants as commands
use Rattle.tr_grammar.specs.declared.codes.Code.{Code}
use Rattle.tr_grammar.specs.declared.codes.Code.TheVariants.{B1, B2, B3, B4, B5, B6, B7, B8, B9, B10}
use Rattle.tr_grammar.specs.declared.places.Place.{Place}
use Rattle.tr_grammar.specs.declared.places.Place.TheVariants as places
use Rattle.tr_grammar.specs.declared.meanings.Meaning.{Meaning}
use Rattle.tr_grammar.specs.declared.meanings.Meaning.TheVariants as meanings
use Rattle.tr_grammar.specs.Texts.{is_plain, is_silent}
use Rattle.tr_grammar.specs.Words.{words_of, word_at, is_number, is_signed, is_shape, is_hex, is_glyph_byte, is_name, byte_of}
use Rattle.tr_grammar.specs.Names.{number_of}
use Rattle.tr_grammar.specs.Forms.{Field, new_name, a_node, a_leaf, at_leaf, number, signed, shape, glyph, rows, text, Form, Version, Screen, Glyph, Split, Page, Border, Rigid, Translate, Pack, Solid, Board, Label, Lines, Canvas, Meter, Editor, Put, PutAt, Root, Begin, Dump, Peek, Journal, Where, Inbox, End, fields, field_words, form_of}
use Rattle.tr_grammar.specs.Meanings.{meaning_of}
use Rattle.tr_grammar.specs.States.{SoFar}

-- ---- the places of a line

-- the sorts of lines; all lines of a sort have the same places
pub data Sort : Type 0 where
  version_line : Sort
  screen_line : Sort
  opening_line : Sort
  step_line : Sort
  report_line : Sort

-- a sync may come wherever a step may, and the end wherever a report may
abbrev pub sort_of : Form → Sort
sort_of Version = version_line
sort_of Screen = screen_line
sort_of Glyph = opening_line
sort_of Split = opening_line
sort_of Page = opening_line
sort_of Border = opening_line
sort_of Rigid = opening_line
sort_of Translate = opening_line
sort_of Pack = opening_line
sort_of Solid = opening_line
sort_of Board = opening_line
sort_of Label = opening_line
sort_of Lines = opening_line
sort_of Canvas = opening_line
sort_of Meter = opening_line
sort_of Editor = opening_line
sort_of Put = opening_line
sort_of PutAt = opening_line
sort_of Root = opening_line
sort_of Begin = opening_line
sort_of Dump = report_line
sort_of Peek = report_line
sort_of Journal = report_line
sort_of Where = report_line
sort_of Inbox = report_line
sort_of End = report_line
sort_of f = step_line

-- a line of this sort may come at this place
abbrev pub allows : Place → Sort → Bool
allows places.Start version_line = true
allows places.Head screen_line = true
allows places.Opening opening_line = true
allows places.Gap step_line = true
allows places.Gap report_line = true
allows places.Steps step_line = true
allows p sort = false

-- the line comes after the end
abbrev pub has_ended : Place → Bool
has_ended places.Ended = true
has_ended p = false

-- ---- the words of a line

-- a value or a name that is declared is misspelled or out of range
abbrev pub is_misspelled : Field × List (List ℕ) → Bool
is_misspelled (number low high, ws) = not (is_number low high (word_at ws 0))
is_misspelled (signed low high, ws) = not (is_signed low high (word_at ws 0))
is_misspelled (shape, ws) = not (is_shape (word_at ws 0) (word_at ws 1) (word_at ws 2))
is_misspelled (glyph, ws) = not (is_glyph_byte (word_at ws 0))
is_misspelled (rows, ws) = not (is_hex 8 (word_at ws 0))
is_misspelled (text, ws) = not (nat_le (length (join_with_byte 32 ws)) 80)
is_misspelled (new_name, ws) = not (is_name (word_at ws 0))
is_misspelled (f, ws) = false

-- ---- the meaning of a line

-- the command is one of the widget
abbrev pub suits : WidgetCmd → Widget → Bool
suits (commands.Solid cmd) (widgets.Solid x) = true
suits (commands.Board cmd) (widgets.Board x) = true
suits (commands.Label cmd) (widgets.Label x) = true
suits (commands.Lines cmd) (widgets.Lines x) = true
suits (commands.Canvas cmd) (widgets.Canvas x) = true
suits (commands.Meter cmd) (widgets.Meter x) = true
suits (commands.Editor cmd) (widgets.Editor x) = true
suits cmd x = false

-- the same of the widget of a leaf
abbrev pub suits_leaf : WidgetCmd → Option Widget → Bool
suits_leaf cmd None = false
suits_leaf cmd (Some x) = suits cmd x

-- after the lines so far
module _ (c : SoFar) where
  -- a line of this form may not come here
  abbrev pub is_misplaced : Form → Bool
  is_misplaced f = not (allows c.place (sort_of f))

  -- the name, or the glyph, was declared before
  abbrev pub is_declared_again : Field × List (List ℕ) → Bool
  is_declared_again (new_name, ws) = is_some (number_of c.names.nodes (word_at ws 0))
  is_declared_again (glyph, ws) = list_any (λ b. b == byte_of (word_at ws 0)) c.glyphs
  is_declared_again (f, ws) = false

  -- the name wasn't declared, or isn't a leaf's
  abbrev pub is_undeclared : Field × List (List ℕ) → Bool
  is_undeclared (a_node, ws) = is_none (number_of c.names.nodes (word_at ws 0))
  is_undeclared (a_leaf, ws) = is_none (number_of c.names.leaves (word_at ws 0))
  is_undeclared (at_leaf, ws) = is_none (number_of c.names.leaves (drop 1 (word_at ws 0)))
  is_undeclared (f, ws) = false

  -- the command is for another widget than the leaf's
  abbrev pub is_foreign : Meaning → Bool
  is_foreign (meanings.Step actor (steps.Act leaf cmd)) = not (suits_leaf cmd (slice_get (contents_of c.items) leaf.0))
  is_foreign l = false

  -- the nodes so far
  abbrev pub nodes_so_far : Nodes
  nodes_so_far = (tree_of c.items).nodes

  -- the tree can't take the child or the root, or it has no root where it must
  abbrev pub is_refused : Meaning → Bool
  is_refused (meanings.Item (items.Put child parent at)) = is_some (refusal nodes_so_far (edits.Attach child parent at))
  is_refused (meanings.Item (items.Root node)) = is_some (root_refusal nodes_so_far node)
  is_refused meanings.Begin = is_none nodes_so_far.root
  is_refused l = false

  -- the number of reports
  abbrev pub reports_so_far : ℕ
  reports_so_far = sum_by (λ p. length p.reports) c.ended + length c.part.reports

  -- it would be the 257th node, the 33rd leaf, the 65th report or the 1,001st sync
  abbrev pub is_one_too_many : Meaning → Bool
  is_one_too_many (meanings.Item (items.Node kind tint)) = nat_le 256 (length c.names.nodes)
  is_one_too_many (meanings.Item (items.Leaf shapes content)) = nat_le 256 (length c.names.nodes) || nat_le 32 (length c.names.leaves)
  is_one_too_many (meanings.Report query) = nat_le 64 reports_so_far
  is_one_too_many meanings.Sync = nat_le 1000 (length c.ended)
  is_one_too_many l = false

  -- the faults that are tried before the line has a meaning, each with its test for a line of this form
  abbrev pub word_faults : Form → List (List ℕ) → List (Code × Bool)
  word_faults f ws =
      (B5, is_misplaced f)
      ∷ (B2, list_any is_misspelled (field_words (fields f) ws))
      ∷ (B4, list_any is_declared_again (field_words (fields f) ws))
      ∷ (B3, list_any is_undeclared (field_words (fields f) ws))
      ∷ []

  -- the faults that the line's meaning can have, each with its test for line n
  abbrev pub line_faults : ℕ → Meaning → List (Code × Bool)
  line_faults n l =
      (B10, is_foreign l)
      ∷ (B6, is_refused l)
      ∷ (B7, is_one_too_many l || nat_le 100001 n)
      ∷ []

  -- the first fault of line n, if it has this form and these words
  abbrev pub fault_as : ℕ → Option Form → List (List ℕ) → Option Code
  fault_as n None ws = Some B1
  fault_as n (Some f) ws = first_true (word_faults f ws ++ line_faults n (meaning_of c.names ws f))

  -- the first fault of line n, if it has one
  unfoldable pub fault_of : ℕ → List ℕ → Option Code
  fault_of n bytes =
      if not (is_plain bytes) then Some B9
      else if is_silent bytes then (if nat_le 100001 n && not (has_ended c.place) then Some B7 else None)
      else if has_ended c.place then Some B8
      else fault_as n (form_of c.version (words_of bytes)) (words_of bytes)
