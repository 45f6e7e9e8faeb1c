-- The waiting events of each window, and the effect of sending one more.
use Rattle.std.specs.Prelude.{◌≡◌, ℕ, ◌+◌, ◌-◌, ◌^◌, ◌≤◌, nat_le, min, Bool, if◌then◌else◌, List, [], ◌∷◌, ◌++◌, length, get_or, set, replicate, Option, Some, None}
use Rattle.tr_base.specs.declared.LeafId.{LeafId}
use Rattle.tr_base.specs.declared.Event.{Event}
use Rattle.tr_base.specs.Rects.{InReach}
use Rattle.tr_inbox.specs.declared.Delivery.{Delivery}
use Rattle.tr_inbox.specs.Inboxes.{InboxView}
use Rattle.tr_desk.specs.Desks.{Devices, idle, state_of, with_state}

-- the input devices, and the waiting events of each leaf
pub record Mails : Type 0 where
  pub desk : Devices
  pub inboxes : List InboxView

-- no event waits, and none was dropped
abbrev pub nothing : InboxView
nothing = record { events = []; dropped = 0 }

-- the first state with `count` leaves
abbrev pub no_mail : ℕ → Mails
no_mail count = record { desk = idle count; inboxes = replicate count nothing }

-- the waiting events of a leaf
abbrev pub inbox_of : Mails → LeafId → InboxView
inbox_of m leaf = get_or m.inboxes leaf.0 nothing

-- 64 events wait, so one more would be dropped
abbrev pub is_full : InboxView → Bool
is_full inbox = nat_le 64 (length inbox.events)

-- an inbox after an event came: it waits after the others, or is dropped and counted; the count stops at 2^32 - 1
abbrev pub put_into : Event → InboxView → InboxView
put_into event inbox =
    if is_full inbox then record inbox { dropped = min (inbox.dropped + 1) (2 ^ 32 - 1) }
    else record inbox { events = inbox.events ++ event ∷ [] }

-- the mail with another inbox of a leaf
abbrev pub with_inbox : LeafId → InboxView → Mails → Mails
with_inbox leaf inbox m = record m { inboxes = set m.inboxes leaf.0 inbox }

-- the mail, and the deliveries of one step so far
pub record Sending : Type 0 where
  pub mail : Mails
  pub sent : List Delivery

-- no delivery yet
abbrev pub unsent : Mails → Sending
unsent m = record { mail = m; sent = [] }

-- one more event is sent to a leaf
abbrev pub send : LeafId → Event → Sending → Sending
send leaf event s = record {
  mail = with_inbox leaf (put_into event (inbox_of s.mail leaf)) s.mail;
  sent = s.sent ++ record { leaf = leaf; event = event; dropped = is_full (inbox_of s.mail leaf) } ∷ [];
}

-- a mouse or key event that finds room becomes the last one that reached its leaf
abbrev pub dated : LeafId → ℕ → Mails → Mails
dated leaf time m =
    if is_full (inbox_of m leaf) then m
    else record m { desk = with_state leaf (record (state_of m.desk leaf) { last = time }) m.desk }

-- a mouse or key event is sent to a leaf, if there is one
abbrev pub send_input : Option LeafId → (LeafId → Event) → ℕ → Sending → Sending
send_input None event time s = s
send_input (Some leaf) event time s = send leaf (event leaf) (record s { mail = dated leaf time s.mail })

-- each leaf of the desk has an inbox, there are at most 32 leaves, and the cursor is within reach
pub record IsMail (m : Mails) : Type 0 where
  pub leaves : length m.inboxes ≡ length m.desk.leaves
  pub few : length m.inboxes ≤ 32
  pub across : InReach m.desk.cursor.h
  pub down : InReach m.desk.cursor.v
