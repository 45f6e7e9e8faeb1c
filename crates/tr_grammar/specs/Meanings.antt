-- The meaning of a line of each form, from its words, which are counted from 0.
use Rattle.std.specs.Prelude.{ℕ, ◌+◌, not, Bool, List, [], None, if◌then◌else◌, bytes_eq, codes, drop, replicate}
use Rattle.tr_base.specs.declared.Point.{Point}
use Rattle.tr_base.specs.declared.Size.{Size}
use Rattle.tr_base.specs.declared.Shapes.{Shapes as Lengthwise}
use Rattle.tr_base.specs.declared.Tile.{Tile as Pattern}
use Rattle.tr_base.specs.declared.NodeId.{NodeId}
use Rattle.tr_base.specs.declared.LeafId.{LeafId}
use Rattle.tr_base.specs.declared.Kind.{Kind}
use Rattle.tr_base.specs.declared.Kind.TheVariants as kinds
use Rattle.tr_base.specs.declared.Selection.{Selection}
use Rattle.tr_base.specs.declared.Selection.TheVariants as selections
use Rattle.tr_base.specs.Rects.{Edges, origin, rect_of}
use Rattle.tr_base.specs.Shapes.{Lengths}
use Rattle.tr_cage.specs.declared.Cage.TheVariants as cages
use Rattle.tr_forest.specs.declared.NodeKind.{NodeKind}
use Rattle.tr_forest.specs.declared.NodeKind.TheVariants as nodes
use Rattle.tr_forest.specs.declared.Edit.{Edit}
use Rattle.tr_forest.specs.declared.Edit.TheVariants as edits
use Rattle.tr_journal.specs.declared.Item.TheVariants as items
use Rattle.tr_journal.specs.declared.Actor.TheVariants as actors
use Rattle.tr_journal.specs.declared.Step.{Step}
use Rattle.tr_journal.specs.declared.Step.TheVariants as steps
use Rattle.tr_journal.specs.declared.Query.{Query}
use Rattle.tr_journal.specs.declared.Query.TheVariants as queries
use Rattle.tr_widget.specs.declared.Widget.{Widget}
use Rattle.tr_widget.specs.declared.Widget.TheVariants as widgets
use Rattle.tr_widget.specs.declared.WidgetCmd.{WidgetCmd}
use Rattle.tr_widget.specs.declared.WidgetCmd.TheVariants as commands
use Rattle.w_plain.specs.declared.SolidCmd.TheVariants as solid
use Rattle.w_plain.specs.declared.BoardCmd.TheVariants as board
use Rattle.w_plain.specs.declared.LabelCmd.TheVariants as label
use Rattle.w_lines.specs.declared.LinesCmd.TheVariants as lines
use Rattle.w_canvas.specs.declared.CanvasCmd.TheVariants as canvas
use Rattle.w_meter.specs.declared.MeterCmd.TheVariants as meter
use Rattle.w_edit.specs.declared.EditorCmd.TheVariants as editor
use Rattle.w_edit.specs.Contents.{empty_text}
use Rattle.tr_grammar.specs.declared.meanings.Meaning.{Meaning}
use Rattle.tr_grammar.specs.declared.meanings.Meaning.TheVariants as meanings
use Rattle.tr_grammar.specs.Words.{word_at, rest_after, nat_of, int_of, hex_of, byte_of}
use Rattle.tr_journal.specs.Names.{Names}
use Rattle.tr_grammar.specs.Names.{numbered}
use Rattle.tr_grammar.specs.Forms.{Form, Version, Screen, Glyph, Split, Page, Border, Rigid, Translate, Pack, Solid, Board, Label, Lines, Canvas, Meter, Editor, Put, PutAt, Root, Begin, Mouse, Motion, Key, Attach, AttachAt, Detach, Tint, Widen, Offset, Fix, Move, Lift, Show, Turn, Reshape, Resize, Rescreen, Mark, Flush, Force, Take, Enclose, Free, Own, Disown, Read, Sync, Dump, Peek, Journal, Where, Inbox, End, SetTint, SetTile, SetShift, SetText, AddLine, Clear, AddRect, AddSwap, AddExchange, Undo, SetBar, InsertText, EraseByte, SplitLine, GoTo, CopyText, PasteClip}

-- ---- values from one word or several words in a row; i is the number of words before the first of them

-- a number
abbrev pub nat : List (List ℕ) → ℕ → ℕ
nat ws i = nat_of (word_at ws i)

-- a point
abbrev pub point : List (List ℕ) → ℕ → Point
point ws i = record { h = int_of (word_at ws i); v = int_of (word_at ws (i + 1)) }

-- a width and a height
abbrev pub size : List (List ℕ) → ℕ → Size
size ws i = record { wide = nat ws i; high = nat ws (i + 1) }

-- the least, the preferred and the greatest length
abbrev pub lengths : List (List ℕ) → ℕ → Lengths
lengths ws i = record { lo = nat ws i; pref = nat ws (i + 1); hi = nat ws (i + 2) }

-- a shape: its lengths across, then its lengths down
abbrev pub shapes : List (List ℕ) → ℕ → Lengthwise
shapes ws i = record { across = lengths ws i; down = lengths ws (i + 3) }

-- a rectangle from its west, east, north and south edges
abbrev pub rect : List (List ℕ) → ℕ → Edges
rect ws i =
    rect_of (int_of (word_at ws i)) (int_of (word_at ws (i + 1))) (int_of (word_at ws (i + 2))) (int_of (word_at ws (i + 3)))

-- eight rows
abbrev pub eight_rows : List (List ℕ) → ℕ → List ℕ
eight_rows ws i = hex_of 8 (word_at ws i)

-- a tile from its rows
abbrev pub tile : List (List ℕ) → ℕ → Pattern
tile ws i = record { rows = eight_rows ws i }

-- the kind of pixels with this name
abbrev pub kind_by_name : List ℕ → Kind
kind_by_name w = if bytes_eq w (codes "mono") then kinds.Mono else if bytes_eq w (codes "map4") then kinds.Map4 else kinds.Map8

-- the selection with this name
abbrev pub selection_of : List ℕ → Selection
selection_of w =
    if bytes_eq w (codes "key") then selections.Key
    else if bytes_eq w (codes "source") then selections.Source
    else selections.Target

-- the split with this name; it has only a tint
abbrev pub split_of : List ℕ → NodeKind
split_of w =
    if bytes_eq w (codes "h") then nodes.H
    else if bytes_eq w (codes "v") then nodes.V
    else if bytes_eq w (codes "z") then nodes.Z
    else nodes.T None

-- a cage with this word holds a cursor that is here, and one that is gone
abbrev pub may_be_here : List ℕ → Bool
may_be_here w = not (bytes_eq w (codes "gone"))

abbrev pub may_be_gone : List ℕ → Bool
may_be_gone w = not (bytes_eq w (codes "here"))

-- ---- the item or the step of a line

-- a node of this kind, with the fourth word as its tint
abbrev pub a_node_of : NodeKind → List (List ℕ) → Meaning
a_node_of k ws = meanings.Item (items.Node k (nat ws 3))

-- a leaf with this content
abbrev pub a_leaf_with : Widget → List (List ℕ) → Meaning
a_leaf_with content ws = meanings.Item (items.Leaf (shapes ws 2) content)

-- an edit of the tree: a step of the desk
abbrev pub altering : Edit → Meaning
altering edit = meanings.Step actors.Desk (steps.Alter edit)

-- a report
abbrev pub on : Query → Meaning
on query = meanings.Report query

module _ (names : Names) (ws : List (List ℕ)) where
  -- the node that the word names
  abbrev pub node_at : ℕ → NodeId
  node_at i = record { 0 = numbered names.nodes (word_at ws i) }

  -- the leaf that the word names
  abbrev pub named_leaf : ℕ → LeafId
  named_leaf i = record { 0 = numbered names.leaves (word_at ws i) }

  -- the leaf that the first word names after its @
  abbrev pub addressed_leaf : LeafId
  addressed_leaf = record { 0 = numbered names.leaves (drop 1 (word_at ws 0)) }

  -- a step of that leaf's actor
  abbrev pub stepping : (LeafId → Step WidgetCmd) → Meaning
  stepping step = meanings.Step (actors.Leaf addressed_leaf) (step addressed_leaf)

  -- a command for that leaf's widget
  abbrev pub acting : WidgetCmd → Meaning
  acting cmd = stepping (λ leaf. steps.Act leaf cmd)

  -- the meaning of a line of this form with these words
  abbrev pub meaning_of : Form → Meaning
  meaning_of Version = meanings.Version (nat ws 1)
  meaning_of Screen = meanings.Item (items.Screen (size ws 1) (kind_by_name (word_at ws 3)))
  meaning_of Glyph = meanings.Item (items.Glyph (byte_of (word_at ws 1)) (eight_rows ws 2))
  meaning_of Split = a_node_of (split_of (word_at ws 2)) ws
  meaning_of Page = a_node_of (nodes.Page (nat ws 4) 0) ws
  meaning_of Border = a_node_of (nodes.Border (nat ws 4)) ws
  meaning_of Rigid = a_node_of (nodes.Rigid (size ws 4)) ws
  meaning_of Translate = a_node_of (nodes.Translate (point ws 4)) ws
  meaning_of Pack = a_node_of (nodes.Pack (bytes_eq (word_at ws 4) (codes "down")) (nat ws 5)) ws
  meaning_of Solid = a_leaf_with (widgets.Solid (record { tint = nat ws 9 })) ws
  meaning_of Board = a_leaf_with (widgets.Board (record { tile = tile ws 9; shift = point ws 10 })) ws
  meaning_of Label = a_leaf_with (widgets.Label (record { text = rest_after ws 9 })) ws
  meaning_of Lines = a_leaf_with (widgets.Lines []) ws
  meaning_of Canvas = a_leaf_with (widgets.Canvas []) ws
  meaning_of Meter = a_leaf_with (widgets.Meter (replicate (nat ws 9) 0)) ws
  meaning_of Editor = a_leaf_with (widgets.Editor empty_text) ws
  meaning_of Put = meanings.Item (items.Put (node_at 1) (node_at 2) origin)
  meaning_of PutAt = meanings.Item (items.Put (node_at 1) (node_at 2) (point ws 3))
  meaning_of Root = meanings.Item (items.Root (node_at 1))
  meaning_of Begin = meanings.Begin
  meaning_of Mouse = meanings.Step actors.Desk (steps.Mouse (nat ws 1) (nat ws 3) (bytes_eq (word_at ws 2) (codes "down")))
  meaning_of Motion = meanings.Step actors.Desk (steps.Motion (nat ws 1) (point ws 2))
  meaning_of Key = meanings.Step actors.Desk (steps.Key (nat ws 1) (nat ws 2))
  meaning_of Attach = altering (edits.Attach (node_at 1) (node_at 2) origin)
  meaning_of AttachAt = altering (edits.Attach (node_at 1) (node_at 2) (point ws 3))
  meaning_of Detach = altering (edits.Detach (node_at 1))
  meaning_of Tint = altering (edits.Tint (node_at 1) (nat ws 2))
  meaning_of Widen = altering (edits.Border (node_at 1) (nat ws 2))
  meaning_of Offset = altering (edits.Offset (node_at 1) (point ws 2))
  meaning_of Fix = altering (edits.Fix (node_at 1) (size ws 2))
  meaning_of Move = altering (edits.Move (node_at 1) (point ws 2))
  meaning_of Lift = altering (edits.Lift (node_at 1))
  meaning_of Show = altering (edits.Show (node_at 1) (node_at 2))
  meaning_of Turn = altering (edits.Turn (node_at 1) (nat ws 2))
  meaning_of Reshape = altering (edits.Shapes (node_at 1) (shapes ws 2))
  meaning_of Resize = altering (edits.Resize (size ws 1))
  meaning_of Rescreen = altering (edits.Rescreen (kind_by_name (word_at ws 1)))
  meaning_of Mark = stepping (λ leaf. steps.Mark leaf (rect ws 2))
  meaning_of Flush = stepping (λ leaf. steps.Flush leaf)
  meaning_of Force = stepping (λ leaf. steps.Repaint leaf)
  meaning_of Take = stepping (λ leaf. steps.Take leaf)
  meaning_of Enclose = stepping (λ leaf.
      steps.SetCage leaf (cages.Only (rect ws 2) (may_be_here (word_at ws 6)) (may_be_gone (word_at ws 6))))
  meaning_of Free = stepping (λ leaf. steps.SetCage leaf cages.Everywhere)
  meaning_of Own = stepping (λ leaf. steps.Own leaf (selection_of (word_at ws 2)) (nat ws 3))
  meaning_of Disown = stepping (λ leaf. steps.Disown leaf (selection_of (word_at ws 2)))
  meaning_of Read = stepping (λ leaf. steps.Read leaf (selection_of (word_at ws 2)))
  meaning_of Sync = meanings.Sync
  meaning_of Dump = on queries.Dump
  meaning_of Peek = on queries.Peek
  meaning_of Journal = on queries.Journal
  meaning_of Where = on (queries.Where (point ws 1))
  meaning_of Inbox = on (queries.Inbox (named_leaf 1))
  meaning_of End = meanings.End
  meaning_of SetTint = acting (commands.Solid (solid.Tint (nat ws 2)))
  meaning_of SetTile = acting (commands.Board (board.Tile (tile ws 2)))
  meaning_of SetShift = acting (commands.Board (board.Shift (point ws 2)))
  meaning_of SetText = acting (commands.Label (label.Text (rest_after ws 2)))
  meaning_of AddLine = acting (commands.Lines (lines.Line (rest_after ws 2)))
  meaning_of Clear = acting (commands.Lines lines.Clear)
  meaning_of AddRect = acting (commands.Canvas (canvas.Rect (rect ws 2) (nat ws 6)))
  meaning_of AddSwap = acting (commands.Canvas (canvas.Exchange (rect ws 2) 0 1))
  meaning_of AddExchange = acting (commands.Canvas (canvas.Exchange (rect ws 2) (nat ws 6) (nat ws 7)))
  meaning_of Undo = acting (commands.Canvas canvas.Undo)
  meaning_of SetBar = acting (commands.Meter (meter.Bar (nat ws 2) (nat ws 3)))
  meaning_of InsertText = acting (commands.Editor (editor.Insert (rest_after ws 2)))
  meaning_of EraseByte = acting (commands.Editor editor.Erase)
  meaning_of SplitLine = acting (commands.Editor editor.Split)
  meaning_of GoTo = acting (commands.Editor (editor.Goto (nat ws 2) (nat ws 3)))
  meaning_of CopyText = acting (commands.Editor (editor.Copy (nat ws 2) (nat ws 3)))
  meaning_of PasteClip = acting (commands.Editor editor.Paste)
