-- The lines that may follow those so far, and the script after them.
use Rattle.std.specs.Prelude.{◌≡◌, ◌≤◌, ℕ, ⊤, Bool, true, false, List, ◌++◌, Option, Some, None, is_some, Result, Ok, Err}
use Rattle.tr_base.specs.Rects.{IsScreenSize}
use Rattle.tr_forest.specs.declared.Edit.TheVariants as edits
use Rattle.tr_forest.specs.declared.NodeFault.{NodeFault}
use Rattle.tr_forest.specs.Nodes.{IsNode, IsNodeKind, is_leaf, shown_by}
use Rattle.tr_forest.specs.Edits.{IsEdit}
use Rattle.tr_journal.specs.declared.Item.{Item}
use Rattle.tr_journal.specs.declared.Item.TheVariants as items
use Rattle.tr_journal.specs.declared.Actor.{Actor}
use Rattle.tr_journal.specs.declared.Step.{Step}
use Rattle.tr_journal.specs.Steps.{IsQuery}
use Rattle.tr_widget.specs.declared.Widget.{Widget}
use Rattle.tr_widget.specs.declared.WidgetCmd.{WidgetCmd}
use Rattle.tr_grammar.specs.declared.Code.{Code}
use Rattle.tr_grammar.specs.declared.Code.TheVariants.{B6}
use Rattle.tr_grammar.specs.declared.LineRefused.{LineRefused}
use Rattle.tr_grammar.specs.declared.LineRefused.TheVariants as refused
use Rattle.tr_grammar.specs.declared.Place.{Place}
use Rattle.tr_grammar.specs.declared.Place.TheVariants as places
use Rattle.tr_grammar.specs.declared.Meaning.{Meaning}
use Rattle.tr_grammar.specs.declared.Meaning.TheVariants as meanings
use Rattle.tr_grammar.specs.Names.{number_of}
use Rattle.tr_grammar.specs.States.{SoFar}
use Rattle.tr_grammar.specs.Faults.{Sort, version_line, screen_line, opening_line, step_line, report_line, allows, is_refused, nodes_so_far, has_ended}
use Rattle.tr_grammar.specs.Scripts.{Script, after_meaning, whole, IsPlayable, IsPlayableScript}

-- the last line that wasn't silent made a step
abbrev pub is_at_steps : Place → Bool
is_at_steps places.Steps = true
is_at_steps p = false

-- the script so far with these steps added to the current part; if the last line made a step, this is the script so far after lines
-- that make these steps
abbrev pub with_steps : SoFar → List (Actor × Step WidgetCmd) → SoFar
with_steps c made = record c { part = record c.part { steps = c.part.steps ++ made } }

-- the sort of the places at which a line with this meaning may come
abbrev pub sort_of_meaning : Meaning → Sort
sort_of_meaning (meanings.Version n) = version_line
sort_of_meaning (meanings.Item (items.Screen size kind)) = screen_line
sort_of_meaning (meanings.Item item) = opening_line
sort_of_meaning meanings.Begin = opening_line
sort_of_meaning (meanings.Step actor step) = step_line
sort_of_meaning meanings.Sync = step_line
sort_of_meaning (meanings.Report query) = report_line
sort_of_meaning meanings.End = report_line

-- the values of an item are in range; w is the name of its node, which is a new one
abbrev pub IsSoundItem : SoFar → List ℕ → Item Widget → Type 0
IsSoundItem c w (items.Screen size kind) = IsScreenSize size
IsSoundItem c w (items.Glyph byte rows) = (32 ≤ byte) × (byte ≤ 126)
IsSoundItem c w (items.Node kind tint) =
    (number_of c.names.nodes w ≡ None) × IsNodeKind kind × (shown_by kind ≡ None) × (is_leaf kind ≡ false)
IsSoundItem c w (items.Leaf shapes content) = number_of c.names.nodes w ≡ None
IsSoundItem c w (items.Put child parent at) = IsEdit (nodes_so_far c) (edits.Attach child parent at)
IsSoundItem c w (items.Root node) = IsNode (nodes_so_far c) node

-- the values of a line's meaning are in range
abbrev pub IsSoundValue : SoFar → List ℕ → Meaning → Type 0
IsSoundValue c w (meanings.Item item) = IsSoundItem c w item
IsSoundValue c w (meanings.Step actor step) = IsPlayable (nodes_so_far c) (actor, step)
IsSoundValue c w (meanings.Report query) = IsQuery (nodes_so_far c) query
IsSoundValue c w m = ⊤

-- a line with this meaning, and with w as its second word, may come here, and its values are in range
pub record IsSoundMeaning (c : SoFar) (w : List ℕ) (m : Meaning) : Type 0 where
  pub place : allows c.place (sort_of_meaning m) ≡ true
  pub value : IsSoundValue c w m

-- a line with this meaning is added, or the tree refuses it: the script before the line, and after it
abbrev pub Adds : SoFar → List ℕ → Meaning → SoFar → Result Unit LineRefused → Type 0
Adds c w m new (Ok done) = (is_refused c m ≡ false) × (new ≡ after_meaning c w m)
Adds c w m new (Err refused.NoMemory) = ⊤
Adds c w m new (Err (refused.Fault code)) = (is_refused c m ≡ true) × (code ≡ B6)

-- the reason why the tree refuses a line, unless memory ran out
abbrev pub IsRefusal : Option NodeFault → LineRefused → Type 0
IsRefusal fault refused.NoMemory = ⊤
IsRefusal fault (refused.Fault code) = (is_some fault ≡ true) × (code ≡ B6)

-- the reason why a line is refused, unless memory ran out
abbrev pub IsFault : Option Code → LineRefused → Type 0
IsFault fault refused.NoMemory = ⊤
IsFault fault (refused.Fault code) = fault ≡ Some code

-- the script is the one so far and its end was read, or the end is missing
abbrev pub Finishes : SoFar → Option Script → Type 0
Finishes c None = has_ended c.place ≡ false
Finishes c (Some s) = (has_ended c.place ≡ true) × (s ≡ whole c) × IsPlayableScript s
