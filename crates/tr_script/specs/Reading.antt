-- Private contracts alone cite this file.
-- The results of the readers of lines.
use Rattle.std.specs.Prelude.{◌≡◌, ◌<◌, ◌⊎◌, OnOk, OnErr, IfErr, ℕ, List, [], ◌∷◌, ◌++◌, Bool, true, false, not, is_none, is_some, is_err, ◌||◌, if◌then◌else◌, codes, Option, Some, None, Result, Ok, Err, ⊤}
use Rattle.tr_grammar.specs.declared.Code.{Code}
use Rattle.tr_grammar.specs.declared.Code.TheVariants.{B1, B2, B3, B4, B5}
use Rattle.tr_grammar.specs.declared.LineRefused.{LineRefused}
use Rattle.tr_grammar.specs.declared.LineRefused.TheVariants as refused
use Rattle.tr_grammar.specs.declared.Meaning.{Meaning}
use Rattle.tr_grammar.specs.declared.Meaning.TheVariants as meanings
use Rattle.tr_grammar.specs.Words.{word_at, nat_of, int_of, is_name, is_number, is_shape, is_signed}
use Rattle.tr_grammar.specs.Forms.{Form, Version, Screen, Glyph, Put, PutAt, Root, Begin, Mouse, Motion, Key, Attach, AttachAt, Detach, Tint, Widen, Offset, Fix, Move, Lift, Show, Turn, Reshape, Resize, Rescreen, Sync, Dump, Peek, Journal, Where, Inbox, End, SetTint, SetTile, SetShift, SetText, AddLine, Clear, AddRect, AddSwap, AddExchange, Undo, SetBar, InsertText, EraseByte, SplitLine, GoTo, CopyText, PasteClip, among, form_of}
use Rattle.tr_grammar.specs.States.{SoFar}
use Rattle.tr_grammar.specs.Names.{number_of, numbered}
use Rattle.tr_grammar.specs.Faults.{Sort, opening_line, step_line, allows, nodes_so_far, word_faults, fault_as}
use Rattle.tr_grammar.specs.Scripts.{after_as}
use Rattle.tr_forest.specs.Nodes.{IsNode}
use Rattle.tr_journal.specs.Steps.{IsLeaf}
use Rattle.tr_journal.specs.declared.Actor.{Actor}
use Rattle.tr_journal.specs.declared.Step.{Step}
use Rattle.tr_journal.specs.declared.Step.TheVariants as steps
use Rattle.tr_widget.specs.declared.WidgetCmd.{WidgetCmd}
use Rattle.tr_base.specs.declared.LeafId.{LeafId}
use Rattle.tr_base.specs.declared.NodeId.{NodeId}
use Rattle.tr_base.specs.declared.Point.{Point}
use Rattle.tr_base.specs.declared.Shapes.{Shapes}
use Rattle.tr_base.specs.Shapes.{Lengths}
use Rattle.tr_base.specs.Rects.{Edges, rect_of}
use Rattle.tr_base.specs.Lists.{first_true}
use Rattle.tr_words.specs.Answers.{texts}
use Rattle.tr_words.specs.declared.LeafWords.{LeafWords}
use Rattle.tr_words.specs.declared.ShapeWords.{ShapeWords}
use Rattle.tr_script.specs.declared.act_lines.EdgeWords.{EdgeWords}
use Rattle.tr_script.specs.declared.act_lines.ActLine.{ActLine}
use Rattle.tr_script.specs.declared.desk_lines.Input.{Input}
use Rattle.tr_script.specs.declared.desk_lines.Input.TheVariants as inputs
use Rattle.tr_reader.specs.Adding.{IsFault, IsSoundMeaning}
use Rattle.tr_script.specs.Apart.{meaning_as}

-- the first fault of the words, given their form
abbrev pub word_fault : SoFar → Option Form → List (List ℕ) → Option Code
word_fault c None ws = Some B1
word_fault c (Some f) ws = first_true (word_faults c f ws)

-- the meaning of the words of this form, which is in range, or their first fault
abbrev pub ReadsAs : SoFar → Option Form → List (List ℕ) → Result Meaning LineRefused → Type 0
ReadsAs c form ws (Ok m) = (word_fault c form ws ≡ None) × (meaning_as c form ws ≡ Some m) × IsSoundMeaning c (word_at ws 1) m
ReadsAs c form ws (Err refused.NoMemory) = ⊤
ReadsAs c form ws (Err (refused.Fault e)) = word_fault c form ws ≡ Some e

-- the same, if the form of the words is the first of these forms that fits them
abbrev pub Reads : SoFar → List Form → List (List ℕ) → Result Meaning LineRefused → Type 0
Reads c fs ws answer = ReadsAs c (among c.version fs ws) ws answer

-- the first fault of line n with these words, after c
abbrev pub words_fault : SoFar → ℕ → List (List ℕ) → Option Code
words_fault c n ws = fault_as c n (form_of c.version ws) ws

-- the meaning of the lines of c and of one more with these words
abbrev pub after_words : SoFar → List (List ℕ) → SoFar
after_words c ws = after_as c (form_of c.version ws) ws

-- the reader has taken line n with these words, if they have no fault, and else it is unchanged; but after the 100,000th line it may
-- include the refused line
pub record TakesWords (c : SoFar) (n : ℕ) (ws : List (List ℕ)) (new : SoFar) (answer : Result Unit LineRefused) : Type 0 where
  pub none : OnOk answer (words_fault c n ws ≡ None)
  pub next : OnOk answer (new ≡ after_words c ws)
  pub fault : IfErr answer (IsFault (words_fault c n ws))
  pub err : OnErr answer ((new ≡ c) ⊎ ((100000 < n) × (new ≡ after_words c ws)))

-- all of these are false
abbrev pub AreFalse : List Bool → Type 0
AreFalse [] = ⊤
AreFalse (b ∷ bs) = (b ≡ false) × AreFalse bs

-- one of these is true, or the last one
abbrev pub any_or : List Bool → Bool → Bool
any_or [] last = last
any_or (b ∷ bs) last = b || any_or bs last

-- a value with this property if the line may come there and none of its first values is misspelled, and else the fault, whatever
-- values follow
abbrev pub ReadsFirstValues : {X : Type 0} → Bool → List Bool → (X → Type 0) → Result X Code → Type 0
ReadsFirstValues misplaced misspelled P (Ok x) = (misplaced ≡ false) × AreFalse misspelled × P x
ReadsFirstValues misplaced misspelled P (Err e) =
    (later : Bool) (others : Option Code) → (if misplaced then Some B5 else if any_or misspelled later then Some B2 else others) ≡ Some e

-- the same for a line without values; `undeclared` is true if its one name wasn't declared
abbrev pub BeginsPlain : {X : Type 0} → Bool → Bool → (X → Type 0) → Result X Code → Type 0
BeginsPlain misplaced undeclared P (Ok x) = (misplaced ≡ false) × (undeclared ≡ false) × P x
BeginsPlain misplaced undeclared P (Err e) =
    first_true ((B5, misplaced) ∷ (B2, false) ∷ (B4, false) ∷ (B3, undeclared || false) ∷ []) ≡ Some e

-- the forms of the desk's steps
abbrev pub desk_forms : List Form
desk_forms =
    Mouse ∷ Motion ∷ Key ∷ Attach ∷ AttachAt ∷ Detach ∷ Tint ∷ Widen ∷ Offset ∷ Fix ∷ Move ∷ Lift ∷ Show ∷ Turn ∷ Reshape ∷ Resize
    ∷ Rescreen ∷ []

-- the forms of lines that neither declare a node or a leaf nor begin with an @
abbrev pub plain_forms : List Form
plain_forms =
    (Version ∷ Screen ∷ Glyph ∷ Put ∷ PutAt ∷ Root ∷ Begin ∷ []) ++ desk_forms
    ++ (Sync ∷ Dump ∷ Peek ∷ Journal ∷ Where ∷ Inbox ∷ End ∷ [])

-- the forms of the commands for editors
abbrev pub editor_forms : List Form
editor_forms = InsertText ∷ EraseByte ∷ SplitLine ∷ GoTo ∷ CopyText ∷ PasteClip ∷ []

-- the forms of the commands for widgets
abbrev pub command_forms : List Form
command_forms =
    (SetTint ∷ SetTile ∷ SetShift ∷ SetText ∷ AddLine ∷ Clear ∷ AddRect ∷ AddSwap ∷ AddExchange ∷ Undo ∷ SetBar ∷ []) ++ editor_forms

-- the words of a line of a leaf's actor
abbrev pub act_line : ActLine → List (List ℕ)
act_line h = (64 ∷ h.leaf.now) ∷ h.act.now ∷ texts h.values.now

-- the words don't spell a shape
abbrev pub is_no_shape : ShapeWords → Bool
is_no_shape ws = not (is_shape ws.lo.now ws.pref.now ws.hi.now)

-- the faults of the words of a leaf: whether its name and each of its shapes is misspelled
abbrev pub head_faults : LeafWords → List Bool
head_faults h = not (is_name h.name.now) ∷ is_no_shape h.across ∷ is_no_shape h.down ∷ []

-- the lengths that the words of a shape spell
abbrev pub lengths_in : ShapeWords → Lengths
lengths_in ws = record { lo = nat_of ws.lo.now; pref = nat_of ws.pref.now; hi = nat_of ws.hi.now }

-- the shapes that the words of a leaf spell
abbrev pub shapes_in : LeafWords → Shapes
shapes_in h = record { across = lengths_in h.across; down = lengths_in h.down }

-- the words of a line that declares a leaf: those before the widget's, the widget's, and its values
abbrev pub leaf_line : LeafWords → List ℕ → List (List ℕ) → List (List ℕ)
leaf_line h widget values =
    codes "leaf" ∷ h.name.now
    ∷ h.across.lo.now ∷ h.across.pref.now ∷ h.across.hi.now
    ∷ h.down.lo.now ∷ h.down.pref.now ∷ h.down.hi.now
    ∷ widget ∷ values

-- the edges that the words spell
abbrev pub spelled_edges : EdgeWords → Edges
spelled_edges ws = rect_of (int_of ws.west.now) (int_of ws.east.now) (int_of ws.north.now) (int_of ws.south.now)

-- the words of two shapes
abbrev pub words_of_two_shapes : ShapeWords → ShapeWords → List (List ℕ)
words_of_two_shapes across down =
    across.lo.now ∷ across.pref.now ∷ across.hi.now ∷ down.lo.now ∷ down.pref.now ∷ down.hi.now ∷ []

-- the words of the edges, and those after them
abbrev pub edge_words_then : EdgeWords → List (List ℕ) → List (List ℕ)
edge_words_then ws rest = ws.west.now ∷ ws.east.now ∷ ws.north.now ∷ ws.south.now ∷ rest

-- the word isn't an edge of a rectangle that a client names
abbrev pub is_no_edge : List ℕ → Bool
is_no_edge w = not (is_signed 8192 8192 w)

-- one of the words isn't an edge, or `rest` holds, which is about the words after them
abbrev pub any_edge : EdgeWords → Bool → Bool
any_edge ws rest = is_no_edge ws.west.now || (is_no_edge ws.east.now || (is_no_edge ws.north.now || (is_no_edge ws.south.now || rest)))

-- a value with this property if all words are edges, and else B2, whatever values follow
abbrev pub ReadsEdges : {X : Type 0} → EdgeWords → (X → Type 0) → Result X Code → Type 0
ReadsEdges ws P (Ok x) =
    (is_no_edge ws.west.now ≡ false) × (is_no_edge ws.east.now ≡ false)
    × (is_no_edge ws.north.now ≡ false) × (is_no_edge ws.south.now ≡ false) × P x
ReadsEdges ws P (Err e) =
    ((rest : Bool) →
    is_no_edge ws.west.now || (is_no_edge ws.east.now || (is_no_edge ws.north.now || (is_no_edge ws.south.now || rest))) ≡ true)
    × (e ≡ B2)

-- the possible faults of a line with this sort of place: the line may not come there, its values are misspelled, it declares a name
-- again, or it has a name that wasn't declared
abbrev pub faults_at : SoFar → Sort → Bool → Bool → Bool → List (Code × Bool)
faults_at c sort misspelled again undeclared =
    (B5, not (allows c.place sort)) ∷ (B2, misspelled) ∷ (B4, again) ∷ (B3, undeclared) ∷ []

-- the faults of a line that declares a leaf, given whether its values are misspelled
abbrev pub leaf_faults : SoFar → LeafWords → Bool → List (Code × Bool)
leaf_faults c h misspelled =
    faults_at c opening_line (any_or (head_faults h) misspelled) (is_some (number_of c.names.nodes h.name.now) || false) false

-- the shapes of a leaf whose name is new, and the value of its line, or the first of these faults
abbrev pub ReadsHead : {V : Type 0} → SoFar → LeafWords → Result V Code → Result (Shapes × V) Code → Type 0
ReadsHead c h value (Ok (s, v)) =
    (first_true (leaf_faults c h (is_err value)) ≡ None) × (allows c.place opening_line ≡ true)
    × (number_of c.names.nodes h.name.now ≡ None) × (s ≡ shapes_in h) × (value ≡ Ok v)
ReadsHead c h value (Err e) = first_true (leaf_faults c h (is_err value)) ≡ Some e

-- the leaf of a step's line, and the value of the line, or its first fault
abbrev pub ReadsLeaf : {V : Type 0} → SoFar → List ℕ → Result V Code → Result (LeafId × V) Code → Type 0
ReadsLeaf c w value (Ok (l, v)) =
    (first_true (faults_at c step_line (is_err value) false (is_none (number_of c.names.leaves w) || false)) ≡ None)
    × (allows c.place step_line ≡ true) × IsLeaf (nodes_so_far c) l × (l ≡ record { 0 = numbered c.names.leaves w }) × (value ≡ Ok v)
ReadsLeaf c w value (Err e) =
    first_true (faults_at c step_line (is_err value) false (is_none (number_of c.names.leaves w) || false)) ≡ Some e

-- the node of an edit's line, and the value of the line, or its first fault
abbrev pub ReadsNode : {V : Type 0} → SoFar → List ℕ → Result V Code → Result (NodeId × V) Code → Type 0
ReadsNode c w value (Ok (n, v)) =
    (first_true (faults_at c step_line (is_err value) false (is_none (number_of c.names.nodes w) || false)) ≡ None)
    × (allows c.place step_line ≡ true) × IsNode (nodes_so_far c) n × (n ≡ record { 0 = numbered c.names.nodes w }) × (value ≡ Ok v)
ReadsNode c w value (Err e) =
    first_true (faults_at c step_line (is_err value) false (is_none (number_of c.names.nodes w) || false)) ≡ Some e

-- the value of a desk's line without names, or its first fault
abbrev pub ReadsPlain : {V : Type 0} → SoFar → Result V Code → Result V Code → Type 0
ReadsPlain c value (Ok v) =
    (first_true (faults_at c step_line (is_err value) false false) ≡ None) × (allows c.place step_line ≡ true) × (value ≡ Ok v)
ReadsPlain c value (Err e) = first_true (faults_at c step_line (is_err value) false false) ≡ Some e

-- the faults of a line's point and of the names of a child and its parent, given whether the point is misspelled
abbrev pub hanging_faults : SoFar → List ℕ → List ℕ → Bool → List (Code × Bool)
hanging_faults c child parent misspelled =
    (B2, misspelled) ∷ (B4, false)
    ∷ (B3, is_none (number_of c.names.nodes child) || (is_none (number_of c.names.nodes parent) || false)) ∷ []

-- the child, its parent, and its offset, or the first of these faults
abbrev pub ReadsHanging : SoFar → List ℕ → List ℕ → Result Point Code → Result (NodeId × NodeId × Point) Code → Type 0
ReadsHanging c child parent at (Ok (n, m, p)) =
    (first_true (hanging_faults c child parent (is_err at)) ≡ None)
    × (n ≡ record { 0 = numbered c.names.nodes child }) × (m ≡ record { 0 = numbered c.names.nodes parent })
    × IsNode (nodes_so_far c) n × IsNode (nodes_so_far c) m × (at ≡ Ok p)
ReadsHanging c child parent at (Err e) = first_true (hanging_faults c child parent (is_err at)) ≡ Some e

-- the faults of a line that declares a node other than a leaf, from its name and its tint, given whether its values are misspelled
abbrev pub node_faults : SoFar → List ℕ → List ℕ → Bool → List (Code × Bool)
node_faults c new tint misspelled =
    faults_at c opening_line (not (is_name new) || (not (is_number 0 255 tint) || misspelled))
    (is_some (number_of c.names.nodes new) || false) false

-- the tint of a node whose name is new, and the value of its line, or the first of these faults
abbrev pub ReadsTint : {V : Type 0} → SoFar → List ℕ → List ℕ → Result V Code → Result (ℕ × V) Code → Type 0
ReadsTint c new tint value (Ok (n, v)) =
    (first_true (node_faults c new tint (is_err value)) ≡ None) × (allows c.place opening_line ≡ true)
    × (number_of c.names.nodes new ≡ None) × (n ≡ nat_of tint) × (value ≡ Ok v)
ReadsTint c new tint value (Err e) = first_true (node_faults c new tint (is_err value)) ≡ Some e

-- the meaning is a step, which is appended to those before it; or it isn't one, and they stay unchanged
abbrev pub SaysStep : Meaning → List (Actor × Step WidgetCmd) → List (Actor × Step WidgetCmd) → Bool → Type 0
SaysStep (meanings.Step actor step) old new taken = (taken ≡ true) × (new ≡ old ++ (actor, step) ∷ [])
SaysStep m old new taken = (taken ≡ false) × (new ≡ old)

-- the step of the desk that an input device makes
abbrev pub step_of_input : Input → Step WidgetCmd
step_of_input (inputs.Motion time at) = steps.Motion time at
step_of_input (inputs.Mouse time button down) = steps.Mouse time button down
step_of_input (inputs.Key time code) = steps.Key time code
