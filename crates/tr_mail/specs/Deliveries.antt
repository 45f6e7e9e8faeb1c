-- The receivers of each event, by the tree of windows, the cages, the mouse focus and the owners of selections.
use Rattle.std.specs.Prelude.{ℕ, zero, suc, Bool, not, ◌&&◌, if◌then◌else◌, List, [], ◌∷◌, length, Option, Some, None}
use Rattle.tr_base.specs.declared.Point.{Point}
use Rattle.tr_base.specs.declared.LeafId.{LeafId}
use Rattle.tr_base.specs.declared.Selection.{Selection}
use Rattle.tr_base.specs.declared.Event.{Event}
use Rattle.tr_base.specs.declared.Event.TheVariants as events
use Rattle.tr_base.specs.Ops.{same_kind}
use Rattle.tr_cage.specs.declared.Cage.{Cage}
use Rattle.tr_cage.specs.declared.Cage.TheVariants.{Everywhere}
use Rattle.tr_cage.specs.Cages.{cage_holds}
use Rattle.tr_desk.specs.Desks.{Devices, state_of, with_state, click, receiver, after_mouse, selection_owner, owned_by, other_than}
use Rattle.tr_tree.specs.Trees.{Seen}
use Rattle.tr_spot.specs.Spots.{spot, is_in_leaf}
use Rattle.tr_spot.specs.Leaves.{leaf_size, in_leaf, same_size}
use Rattle.tr_mail.specs.Mails.{Mails, Sending, unsent, send, send_input, inbox_of, with_inbox}

-- a button goes down or up: its leaf is told the cursor's place
abbrev pub moused : Seen → ℕ → ℕ → Bool → Mails → Sending
moused t time button down m =
    let at = m.desk.cursor in
    let did = click m.desk button down in
    send_input (receiver did (spot t at) m.desk.focus) (λ leaf. events.Mouse time did button (in_leaf t leaf at)) time
    (unsent (record m { desk = after_mouse m.desk time button down (spot t at) }))

-- a key is struck: the owner of the selection Key is told
abbrev pub keyed : ℕ → ℕ → Mails → Sending
keyed time code m =
    send_input m.desk.key (λ leaf. events.Key time code) time (unsent (record m { desk = record m.desk { time = time } }))

-- the cursor is over no visible point of the leaf
abbrev pub is_gone : Seen → Point → LeafId → Bool
is_gone t cursor leaf = not (is_in_leaf leaf (spot t cursor))

-- the leaf's cage holds the cursor
abbrev pub is_caged : Seen → Devices → LeafId → Bool
is_caged t d leaf = cage_holds (state_of d leaf).cage (in_leaf t leaf d.cursor) (is_gone t d.cursor leaf)

-- a leaf gets another cage
abbrev pub with_cage : LeafId → Cage → Mails → Mails
with_cage leaf cage m = record m { desk = with_state leaf (record (state_of m.desk leaf) { cage = cage }) m.desk }

-- a leaf whose cage doesn't hold the cursor is told the cursor's place, and its cage becomes everywhere, so that it is told once
abbrev pub tell : Seen → LeafId → Sending → Sending
tell t leaf s =
    let d = s.mail.desk in
    if is_caged t d leaf then s
    else send leaf (events.Position d.time (in_leaf t leaf d.cursor) (is_gone t d.cursor leaf))
    (record s { mail = with_cage leaf Everywhere s.mail })

-- the first n leaves are told, in the order of their numbers
unfoldable pub tell_below : ℕ → Seen → Sending → Sending
tell_below zero t s = s
tell_below (suc n) t s = tell t (record { 0 = n }) (tell_below n t s)

-- each leaf whose cage doesn't hold the cursor is told the cursor's place
abbrev pub told : Seen → Sending → Sending
told t s = tell_below (length s.mail.inboxes) t s

-- the cursor moves
abbrev pub cursor_moved : Seen → ℕ → Point → Mails → Sending
cursor_moved t time at m = told t (unsent (record m { desk = record m.desk { cursor = at; time = time } }))

-- a leaf asks for another cage
abbrev pub caged : Seen → LeafId → Cage → Mails → Sending
caged t leaf cage m = told t (unsent (with_cage leaf cage m))

-- from one tree to the next the leaf's window has another size, or its pixels are of another kind
abbrev pub is_reshaped : Seen → Seen → LeafId → Bool
is_reshaped was is leaf = not (same_size (leaf_size was leaf) (leaf_size is leaf) && same_kind was.kind is.kind)

-- a leaf whose window is reshaped is told its size and kind
abbrev pub reshape : Seen → Seen → LeafId → Sending → Sending
reshape was is leaf s =
    if is_reshaped was is leaf then send leaf (events.Reshape (leaf_size is leaf) is.kind) s else s

-- each reshaped one of the first n leaves is told, in the order of their numbers
unfoldable pub reshape_below : ℕ → Seen → Seen → Sending → Sending
reshape_below zero was is s = s
reshape_below (suc n) was is s = reshape was is (record { 0 = n }) (reshape_below n was is s)

-- the tree was edited: first all reshapes, then all positions
abbrev pub tree_edited : Seen → Seen → Mails → Sending
tree_edited was is m = told is (reshape_below (length m.inboxes) was is (unsent m))

-- the previous owner of a selection, if it is another leaf, is told that it lost it
abbrev pub send_lost : Option LeafId → Selection → Sending → Sending
send_lost None selection s = s
send_lost (Some leaf) selection s = send leaf (events.Lost selection) s

-- a leaf takes a selection
abbrev pub owned : LeafId → Selection → Mails → Sending
owned leaf selection m =
    send_lost (other_than leaf (selection_owner m.desk selection)) selection
    (unsent (record m { desk = owned_by (Some leaf) selection m.desk }))

-- a leaf gives a selection up
abbrev pub disowned : Selection → Mails → Sending
disowned selection m = unsent (record m { desk = owned_by None selection m.desk })

-- the first of some events
abbrev pub first : List Event → Option Event
first [] = None
first (event ∷ later) = Some event

-- all events but the first
abbrev pub later : List Event → List Event
later [] = []
later (event ∷ events) = events

-- the event that has waited longest for a leaf
abbrev pub front_of : Mails → LeafId → Option Event
front_of m leaf = first (inbox_of m leaf).events

-- the event that has waited longest for a leaf is taken out
abbrev pub front_taken : LeafId → Mails → Mails
front_taken leaf m = with_inbox leaf (record (inbox_of m leaf) { events = later (inbox_of m leaf).events }) m
