-- The texts of reports.
use Rattle.std.specs.Prelude.{ℕ, Bool, true, false, List, [], ◌∷◌, ◌++◌, length, codes, decimal}
use Rattle.std.specs.List.{enumerate_from, flat_map}
use Rattle.tr_base.specs.declared.ids.LeafId.{LeafId}
use Rattle.tr_base.specs.declared.points.Point.{Point}
use Rattle.tr_base.specs.declared.events.Event.{Event}
use Rattle.tr_base.specs.declared.spots.Spot.{Spot}
use Rattle.tr_base.specs.declared.spots.Spot.TheVariants as spots
use Rattle.tr_screen.specs.Pictures.{Picture}
use Rattle.tr_output.specs.Texts.{row_text}
use Rattle.tr_inbox.specs.declared.deliveries.Delivery.{Delivery}
use Rattle.tr_inbox.specs.Inboxes.{InboxView}
use Rattle.tr_journal.specs.Journals.{JournalLine}
use Rattle.tr_journal.specs.declared.peeks.Peek3.{Peek3}
use Rattle.tr_dump.specs.Values.{spaced, line_text, kind_word, point_words, size_words, event_text}
use Rattle.tr_journal.specs.Names.{Names, node_name, leaf_name}
use Rattle.tr_dump.specs.Steps.{answer_text, entry_text}

-- the first line of a dump: the screen's size and kind
abbrev pub dump_head : Picture → List ℕ
dump_head p = line_text (codes "dump" ∷ size_words p.size ++ kind_word p.kind ∷ [])

-- a screen: its size and kind, and its rows from north to south
abbrev pub dump_text : Picture → List ℕ
dump_text p = dump_head p ++ flat_map row_text p.rows

-- the numbers of bad points, of waiting commands, and of good points that show an older content
abbrev pub peek_text : Peek3 → List ℕ
peek_text peek =
    line_text (codes "peek"
    ∷ codes "bad" ∷ decimal peek.bad
    ∷ codes "waiting" ∷ decimal peek.waiting
    ∷ codes "stale" ∷ decimal peek.stale
    ∷ [])

-- the owner of a point: a leaf, with the point in its coordinates, a node's frame, or nothing
abbrev pub place_text : Names → Point → Spot → List ℕ
place_text names p (spots.Leaf leaf at size kind) =
    line_text (codes "where" ∷ point_words p ++ codes "leaf" ∷ leaf_name names leaf ∷ point_words at)
place_text names p (spots.Frame node tint kind) =
    line_text (codes "where" ∷ point_words p ++ codes "frame" ∷ node_name names node ∷ [])
place_text names p spots.Off = line_text (codes "where" ∷ point_words p ++ codes "off" ∷ [])

-- an event, on a line
abbrev pub event_line : Event → List ℕ
event_line event = line_text (event_text event ∷ [])

-- the inbox of a leaf: its events, the oldest first, and the number of dropped ones
abbrev pub inbox_text : Names → LeafId → InboxView → List ℕ
inbox_text names leaf inbox =
    line_text (codes "inbox" ∷ leaf_name names leaf
    ∷ codes "waiting" ∷ decimal (length inbox.events)
    ∷ codes "dropped" ∷ decimal inbox.dropped
    ∷ [])
    ++ flat_map event_line inbox.events

-- the text between the name of a leaf and an event that was sent to it
abbrev pub fate_text : Bool → List ℕ
fate_text true = codes " dropped "
fate_text false = codes " "

-- the name of a delivery's leaf, its fate, and its event
abbrev pub sent_event : Names → Delivery → List ℕ
sent_event names delivery = leaf_name names delivery.leaf ++ fate_text delivery.dropped ++ event_text delivery.event

-- a delivery of a step; it follows the answer
abbrev pub delivery_text : Names → Delivery → List ℕ
delivery_text names delivery = codes "; " ++ sent_event names delivery

-- a delivery on a line of its own
abbrev pub sent_line : Names → Delivery → List ℕ
sent_line names delivery = sent_event names delivery ++ codes "\n"

-- the outcome of a step: its answer, and its deliveries, each on a line
abbrev pub outcome_text : {M : Type 0} → Names → JournalLine M → List ℕ
outcome_text names line = (answer_text line.entry.reply.answer ++ codes "\n") ++ flat_map (sent_line names) line.sent

-- an entry after its number, and the deliveries of its step
abbrev pub journal_line : {M : Type 0} → (M → List ℕ) → Names → ℕ × JournalLine M → List ℕ
journal_line words names (number, line) =
    spaced (decimal number ∷ entry_text words names line.entry ∷ []) ++ flat_map (delivery_text names) line.sent ++ codes "\n"

-- the entries so far, numbered from 1
abbrev pub journal_text : {M : Type 0} → (M → List ℕ) → Names → List (JournalLine M) → List ℕ
journal_text words names lines =
    line_text (codes "journal" ∷ decimal (length lines) ∷ [])
    ++ flat_map (journal_line words names) (enumerate_from 1 lines)
