-- The texts of steps and answers.
use Rattle.std.specs.Prelude.{ℕ, Bool, true, false, List, [], ◌∷◌, ◌++◌, if◌then◌else◌, codes, decimal}
use Rattle.std.specs.List.{join_by}
use Rattle.tr_base.specs.declared.ids.LeafId.{LeafId}
use Rattle.tr_cage.specs.declared.cages.Cage.{Cage}
use Rattle.tr_cage.specs.declared.cages.Cage.TheVariants as cages
use Rattle.tr_forest.specs.declared.edits.Edit.{Edit}
use Rattle.tr_forest.specs.declared.edits.Edit.TheVariants as edits
use Rattle.tr_forest.specs.declared.edits.NodeFault.{NodeFault}
use Rattle.tr_forest.specs.declared.edits.NodeFault.TheVariants.{WrongKind, Cycle, Occupied, Attached, TooDeep, NotChild}
use Rattle.tr_desk.specs.declared.desks.DeskFault.{DeskFault}
use Rattle.tr_desk.specs.declared.desks.DeskFault.TheVariants.{Earlier, Held, NotHeld, NotCurrent, NotOwner, Unowned}
use Rattle.tr_levels.specs.declared.levels.Level.{Level}
use Rattle.tr_levels.specs.declared.levels.Level.TheVariants as levels
use Rattle.tr_client.specs.Words.{with_text}
use Rattle.tr_journal.specs.declared.steps.Actor.{Actor}
use Rattle.tr_journal.specs.declared.steps.Actor.TheVariants as actors
use Rattle.tr_journal.specs.declared.steps.Query.{Query}
use Rattle.tr_journal.specs.declared.steps.Query.TheVariants as queries
use Rattle.tr_journal.specs.declared.steps.Step.{Step}
use Rattle.tr_journal.specs.declared.steps.Step.TheVariants as steps
use Rattle.tr_journal.specs.declared.answers.Answer.{Answer}
use Rattle.tr_journal.specs.declared.answers.Answer.TheVariants as answers
use Rattle.tr_journal.specs.declared.entries.Entry.{Entry}
use Rattle.tr_journal.specs.Steps.{is_leaf_actor}
use Rattle.tr_dump.specs.Values.{spaced, kind_word, selection_word, point_words, size_words, rect_words, shape_words, event_text}
use Rattle.tr_journal.specs.Names.{Names, node_name, leaf_name}

-- the actor of a step
abbrev pub actor_text : Names → Actor → List ℕ
actor_text names (actors.Leaf leaf) = codes "leaf:" ++ leaf_name names leaf
actor_text names actors.Desk = codes "desk"
actor_text names actors.Painter = codes "painter"
actor_text names actors.Player = codes "player"

-- a lock that is held
abbrev pub level_text : Names → Level → List ℕ
level_text names levels.Mu = codes "mu"
level_text names (levels.Share leaf) = codes "share:" ++ leaf_name names leaf
level_text names (levels.Win leaf) = codes "win:" ++ leaf_name names leaf

-- all locks that are held, with commas between
abbrev pub levels_text : Names → List Level → List ℕ
levels_text names levels = join_by (level_text names) (codes ",") levels

-- the cursors that a cage holds: over the window, gone, or both
abbrev pub cage_word : Bool → Bool → List ℕ
cage_word true true = codes "both"
cage_word true false = codes "here"
cage_word false gone = codes "gone"

-- the text of a step that sets a cage
abbrev pub cage_text : Cage → List ℕ
cage_text cages.Everywhere = codes "free"
cage_text (cages.Only rect here gone) = spaced (codes "cage" ∷ rect_words rect ++ cage_word here gone ∷ [])

-- the word for a button that goes down or up
abbrev pub button_word : Bool → List ℕ
button_word true = codes "down"
button_word false = codes "up"

-- the text of an edit
abbrev pub edit_text : Names → Edit → List ℕ
edit_text names (edits.Attach child parent at) =
    spaced (codes "attach" ∷ node_name names child ∷ node_name names parent ∷ point_words at)
edit_text names (edits.Detach child) = spaced (codes "detach" ∷ node_name names child ∷ [])
edit_text names (edits.Tint node tint) = spaced (codes "tint" ∷ node_name names node ∷ decimal tint ∷ [])
edit_text names (edits.Border node width) = spaced (codes "border" ∷ node_name names node ∷ decimal width ∷ [])
edit_text names (edits.Offset node by) = spaced (codes "offset" ∷ node_name names node ∷ point_words by)
edit_text names (edits.Fix node size) = spaced (codes "fix" ∷ node_name names node ∷ size_words size)
edit_text names (edits.Move child at) = spaced (codes "move" ∷ node_name names child ∷ point_words at)
edit_text names (edits.Lift child) = spaced (codes "lift" ∷ node_name names child ∷ [])
edit_text names (edits.Show node child) = spaced (codes "show" ∷ node_name names node ∷ node_name names child ∷ [])
edit_text names (edits.Turn node page) = spaced (codes "turn" ∷ node_name names node ∷ decimal page ∷ [])
edit_text names (edits.Shapes node shapes) =
    spaced (codes "shapes" ∷ node_name names node ∷ shape_words shapes.across ++ shape_words shapes.down)
edit_text names (edits.Resize size) = spaced (codes "resize" ∷ size_words size)
edit_text names (edits.Rescreen kind) = spaced (codes "rescreen" ∷ kind_word kind ∷ [])

-- the text of a report's step
abbrev pub query_text : Names → Query → List ℕ
query_text names queries.Dump = codes "dump"
query_text names queries.Peek = codes "peek"
query_text names queries.Journal = codes "journal"
query_text names (queries.Where at) = spaced (codes "where" ∷ point_words at)
query_text names (queries.Inbox leaf) = spaced (codes "inbox" ∷ leaf_name names leaf ∷ [])

-- the text of a flush: a leaf's own client doesn't name it
abbrev pub flush_text : Names → Actor → LeafId → List ℕ
flush_text names actor leaf = if is_leaf_actor leaf actor then codes "flush" else spaced (codes "flush" ∷ leaf_name names leaf ∷ [])

-- the text of a repaint: a leaf's own client doesn't name it
abbrev pub repaint_text : Names → Actor → LeafId → List ℕ
repaint_text names actor leaf = if is_leaf_actor leaf actor then codes "force" else spaced (codes "repaint" ∷ leaf_name names leaf ∷ [])

-- the text of a step, in the words of a script if scripts have such a step
abbrev pub step_text : {M : Type 0} → (M → List ℕ) → Names → Actor → Step M → List ℕ
step_text words names actor (steps.Act leaf cmd) = words cmd
step_text words names actor (steps.Mark leaf clip) = spaced (codes "mark" ∷ rect_words clip)
step_text words names actor (steps.Take leaf) = codes "take"
step_text words names actor (steps.SetCage leaf cage) = cage_text cage
step_text words names actor (steps.Own leaf selection time) =
    spaced (codes "own" ∷ selection_word selection ∷ decimal time ∷ [])
step_text words names actor (steps.Disown leaf selection) = spaced (codes "disown" ∷ selection_word selection ∷ [])
step_text words names actor (steps.Read leaf selection) = spaced (codes "read" ∷ selection_word selection ∷ [])
step_text words names actor (steps.Mouse time button down) =
    spaced (codes "mouse" ∷ decimal time ∷ button_word down ∷ decimal button ∷ [])
step_text words names actor (steps.Motion time at) = spaced (codes "motion" ∷ decimal time ∷ point_words at)
step_text words names actor (steps.Key time code) = spaced (codes "key" ∷ decimal time ∷ decimal code ∷ [])
step_text words names actor (steps.Alter edit) = edit_text names edit
step_text words names actor (steps.Flush leaf) = flush_text names actor leaf
step_text words names actor (steps.Repaint leaf) = repaint_text names actor leaf
step_text words names actor steps.PaintFrame = codes "frame"
step_text words names actor steps.Sync = codes "sync"
step_text words names actor (steps.Report query) = query_text names query

-- the code of an edit's fault
abbrev pub node_fault_text : NodeFault → List ℕ
node_fault_text WrongKind = codes "N1"
node_fault_text Cycle = codes "N2"
node_fault_text Occupied = codes "N3"
node_fault_text Attached = codes "N4"
node_fault_text TooDeep = codes "N5"
node_fault_text NotChild = codes "N6"

-- the code of a fault of the desk, and the times that it names
abbrev pub desk_fault_text : DeskFault → List ℕ
desk_fault_text (Earlier now) = spaced (codes "N7" ∷ decimal now ∷ [])
desk_fault_text Held = codes "N8"
desk_fault_text NotHeld = codes "N9"
desk_fault_text (NotCurrent now last) = spaced (codes "N10" ∷ decimal now ∷ decimal last ∷ [])
desk_fault_text NotOwner = codes "N11"
desk_fault_text Unowned = codes "N12"

-- the text of an answer
abbrev pub answer_text : Answer → List ℕ
answer_text answers.Done = codes "ok"
answer_text (answers.Taken event) = spaced (codes "took" ∷ event_text event ∷ [])
answer_text (answers.Value text) = with_text (codes "value") text
answer_text answers.Empty = codes "empty"
answer_text (answers.Tree fault) = node_fault_text fault
answer_text (answers.Desk fault) = desk_fault_text fault

-- the text of an entry: its actor, the held locks, the step, and the answer
abbrev pub entry_text : {M : Type 0} → (M → List ℕ) → Names → Entry M → List ℕ
entry_text words names entry =
    spaced (actor_text names entry.actor
    ∷ levels_text names entry.level
    ∷ step_text words names entry.actor entry.step
    ∷ codes "="
    ∷ answer_text entry.reply.answer
    ∷ [])
