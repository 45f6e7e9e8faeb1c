-- Whoever is sent an event is a leaf of the tree, and so is whoever has the mouse or owns a selection afterwards.
use Rattle.std.proofs.Common.{ℕ, zero, suc, ◌<◌, ◌≤◌, Bool, true, false, cond, ◌==◌, Option, Some, None, length, ◌∙◌, arith}
use Rattle.std.specs.Prelude.{All}
use Rattle.std.proofs.lemmas.List.{length-set}
use Rattle.std.proofs.lemmas.List.Elements.{All-nil, All-push}
use Rattle.tr_base.specs.declared.Point.{Point}
use Rattle.tr_base.specs.declared.LeafId.{LeafId}
use Rattle.tr_base.specs.declared.Selection.{Selection}
use Rattle.tr_base.specs.declared.Selection.TheVariants.{Key, Source, Target}
use Rattle.tr_base.specs.declared.Click.{Click}
use Rattle.tr_base.specs.declared.Click.TheVariants.{FirstDown, OtherDown, OtherUp, LastUp}
use Rattle.tr_base.specs.declared.Event.{Event}
use Rattle.tr_base.specs.declared.Event.TheVariants as events
use Rattle.tr_base.specs.declared.Spot.{Spot}
use Rattle.tr_base.specs.declared.Spot.TheVariants as spots
use Rattle.tr_cage.specs.declared.Cage.{Cage}
use Rattle.tr_cage.specs.declared.Cage.TheVariants.{Everywhere}
use Rattle.tr_desk.specs.Desks.{IsKnown, after_mouse, click, focus_after, leaf_at, other_than, owned_by, selection_owner, receiver, state_of, with_state}
use Rattle.tr_tree.specs.Trees.{Seen}
use Rattle.tr_spot.specs.Spots.{spot}
use Rattle.tr_spot.specs.Spots as below
use Rattle.tr_spot.specs.Leaves.{in_leaf, leaf_size}
use Rattle.tr_inbox.specs.declared.Delivery.{Delivery}
use Rattle.tr_inbox.specs.Inboxes.{InboxView}
use Rattle.tr_mail.specs.Mails.{Mails, Sending, dated, inbox_of, is_full, put_into, send, send_input, unsent, with_inbox}
use Rattle.tr_mail.specs.Deliveries.{caged, disowned, tree_edited, is_caged, is_gone, is_reshaped, keyed, later, moused, cursor_moved, owned}
use Rattle.tr_mail.specs.Deliveries.{reshape, reshape_below, send_lost, front_taken, tell, tell_below, told, with_cage}
use Rattle.tr_run.specs.Views.{IsKnowing}

-- the event was sent to one of so many leaves
abbrev pub IsBelow : ℕ → Delivery → Type 0
IsBelow count delivery = delivery.leaf.0 < count

-- of mail and of what was sent so far, the leaves are those of so many
pub record IsSending (count : ℕ) (s : Sending) : Type 0 where
  pub mail : IsKnowing count s.mail
  pub sent : All (IsBelow count) s.sent

-- ---- the mail

-- one of two mails
one_mail : (count : ℕ) (b : Bool) (m n : Mails) → IsKnowing count m → IsKnowing count n → IsKnowing count (cond b m n)
one_mail count true m n first second = first
one_mail count false m n first second = second

-- one of two sendings
one_sending : (count : ℕ) (b : Bool) (s t : Sending) → IsSending count s → IsSending count t → IsSending count (cond b s t)
one_sending count true s t first second = first
one_sending count false s t first second = second

-- another inbox for a leaf
with_inbox-knows : (count : ℕ) (leaf : LeafId) (inbox : InboxView) (m : Mails) → IsKnowing count m → IsKnowing count (with_inbox leaf inbox m)
with_inbox-knows count leaf inbox m is = record {
  inboxes = length-set m.inboxes leaf.0 inbox ∙ is.inboxes;
  focus = is.focus;
  key = is.key;
  source = is.source;
  target = is.target;
}

-- an event that is taken
pub taken-knows : (count : ℕ) (leaf : LeafId) (m : Mails) → IsKnowing count m → IsKnowing count (front_taken leaf m)
taken-knows count leaf m is = with_inbox-knows count leaf (record (inbox_of m leaf) { events = later (inbox_of m leaf).events }) m is

-- another cage of a leaf
with_cage-knows : (count : ℕ) (leaf : LeafId) (cage : Cage) (m : Mails) → IsKnowing count m → IsKnowing count (with_cage leaf cage m)
with_cage-knows count leaf cage m is = record { inboxes = is.inboxes; focus = is.focus; key = is.key; source = is.source; target = is.target }

-- the time of a mouse or key event
dated-knows : (count : ℕ) (leaf : LeafId) (time : ℕ) (m : Mails) → IsKnowing count m → IsKnowing count (dated leaf time m)
dated-knows count leaf time m is =
    one_mail count (is_full (inbox_of m leaf)) m
    (record m { desk = with_state leaf (record (state_of m.desk leaf) { last = time }) m.desk }) is
    (record { inboxes = is.inboxes; focus = is.focus; key = is.key; source = is.source; target = is.target })

-- ---- what is sent

-- nothing yet
unsent-knows : (count : ℕ) (m : Mails) → IsKnowing count m → IsSending count (unsent m)
unsent-knows count m is = record { mail = is; sent = All-nil (IsBelow count) }

-- an event more
send-knows : (count : ℕ) (leaf : LeafId) (event : Event) (s : Sending) → leaf.0 < count → IsSending count s → IsSending count (send leaf event s)
send-knows count leaf event s low is = record {
  mail = with_inbox-knows count leaf (put_into event (inbox_of s.mail leaf)) s.mail is.mail;
  sent = All-push (IsBelow count) s.sent (record { leaf = leaf; event = event; dropped = is_full (inbox_of s.mail leaf) }) is.sent low;
}

-- a mouse or key event
send_input-knows : (count : ℕ) (o : Option LeafId) (event : LeafId → Event) (time : ℕ) (s : Sending) → IsKnown count o → IsSending count s →
    IsSending count (send_input o event time s)
send_input-knows count None event time s known is = is
send_input-knows count (Some leaf) event time s known is =
    send-knows count leaf (event leaf) (record s { mail = dated leaf time s.mail }) known
    (record { mail = dated-knows count leaf time s.mail is.mail; sent = is.sent })

-- the leaf of a spot
leaf_at-known : (count : ℕ) (s : Spot) → below.IsLeafBelow count s → IsKnown count (leaf_at s)
leaf_at-known count (spots.Leaf leaf at size kind) low = low
leaf_at-known count (spots.Frame n tint kind) low = tt
leaf_at-known count spots.Off low = tt

-- who gets a mouse event
receiver-known : (count : ℕ) (click : Click) (s : Spot) (focus : Option LeafId) → below.IsLeafBelow count s → IsKnown count focus →
    IsKnown count (receiver click s focus)
receiver-known count FirstDown s focus low known = leaf_at-known count s low
receiver-known count OtherDown s focus low known = known
receiver-known count OtherUp s focus low known = known
receiver-known count LastUp s focus low known = known

-- who has the mouse after it
focus_after-known : (count : ℕ) (click : Click) (s : Spot) (focus : Option LeafId) → below.IsLeafBelow count s → IsKnown count focus →
    IsKnown count (focus_after click s focus)
focus_after-known count FirstDown s focus low known = leaf_at-known count s low
focus_after-known count OtherDown s focus low known = known
focus_after-known count OtherUp s focus low known = known
focus_after-known count LastUp s focus low known = tt

-- a button
pub moused-knows : (count : ℕ) (t : Seen) (time button : ℕ) (down : Bool) (m : Mails) → below.IsLeafBelow count (spot t m.desk.cursor) →
    IsKnowing count m → IsSending count (moused t time button down m)
moused-knows count t time button down m low is =
    let at : Point = m.desk.cursor in
    let did : Click = click m.desk button down in
    let pressed : Mails = record m { desk = after_mouse m.desk time button down (spot t at) } in
    send_input-knows count (receiver did (spot t at) m.desk.focus) (λ leaf. events.Mouse time did button (in_leaf t leaf at)) time (unsent pressed)
    (receiver-known count did (spot t at) m.desk.focus low is.focus)
    (unsent-knows count pressed (record {
      inboxes = is.inboxes;
      focus = focus_after-known count did (spot t at) m.desk.focus low is.focus;
      key = is.key;
      source = is.source;
      target = is.target;
    }))

-- a key
pub keyed-knows : (count time code : ℕ) (m : Mails) → IsKnowing count m → IsSending count (keyed time code m)
keyed-knows count time code m is =
    send_input-knows count m.desk.key (λ leaf. events.Key time code) time (unsent (record m { desk = record m.desk { time = time } })) is.key
    (unsent-knows count (record m { desk = record m.desk { time = time } })
    (record { inboxes = is.inboxes; focus = is.focus; key = is.key; source = is.source; target = is.target }))

-- a leaf that is told where the cursor is, if it must be
tell-knows : (count : ℕ) (t : Seen) (leaf : LeafId) (s : Sending) → leaf.0 < count → IsSending count s → IsSending count (tell t leaf s)
tell-knows count t leaf s low is =
    let event : Event = events.Position s.mail.desk.time (in_leaf t leaf s.mail.desk.cursor) (is_gone t s.mail.desk.cursor leaf) in
    let told : Sending = record s { mail = with_cage leaf Everywhere s.mail } in
    one_sending count (is_caged t s.mail.desk leaf) s (send leaf event told) is
    (send-knows count leaf event told low (record { mail = with_cage-knows count leaf Everywhere s.mail is.mail; sent = is.sent }))

-- the first n leaves
tell_below-knows : (count n : ℕ) (t : Seen) (s : Sending) → n ≤ count → IsSending count s → IsSending count (tell_below n t s)
unfolding tell_below
tell_below-knows count zero t s low is = is
tell_below-knows count (suc n) t s low is =
    tell-knows count t (record { 0 = n }) (tell_below n t s) (omega arith) (tell_below-knows count n t s (omega arith) is)

-- all leaves
told-knows : (count : ℕ) (t : Seen) (s : Sending) → IsSending count s → IsSending count (told t s)
told-knows count t s is = tell_below-knows count (length s.mail.inboxes) t s (omega (arith, is.mail.inboxes)) is

-- a move of the cursor
pub moved-knows : (count : ℕ) (t : Seen) (time : ℕ) (at : Point) (m : Mails) → IsKnowing count m → IsSending count (cursor_moved t time at m)
moved-knows count t time at m is =
    let there : Mails = record m { desk = record m.desk { cursor = at; time = time } } in
    told-knows count t (unsent there) (unsent-knows count there
    (record { inboxes = is.inboxes; focus = is.focus; key = is.key; source = is.source; target = is.target }))

-- another cage
pub caged-knows : (count : ℕ) (t : Seen) (leaf : LeafId) (cage : Cage) (m : Mails) → IsKnowing count m → IsSending count (caged t leaf cage m)
caged-knows count t leaf cage m is =
    told-knows count t (unsent (with_cage leaf cage m)) (unsent-knows count (with_cage leaf cage m) (with_cage-knows count leaf cage m is))

-- a leaf that is told its size and kind, if these have changed
reshape-knows : (count : ℕ) (was is : Seen) (leaf : LeafId) (s : Sending) → leaf.0 < count → IsSending count s →
    IsSending count (reshape was is leaf s)
reshape-knows count was is leaf s low sends =
    let event : Event = events.Reshape (leaf_size is leaf) is.kind in
    one_sending count (is_reshaped was is leaf) (send leaf event s) s (send-knows count leaf event s low sends) sends

-- the first n leaves
reshape_below-knows : (count n : ℕ) (was is : Seen) (s : Sending) → n ≤ count → IsSending count s → IsSending count (reshape_below n was is s)
unfolding reshape_below
reshape_below-knows count zero was is s low sends = sends
reshape_below-knows count (suc n) was is s low sends =
    reshape-knows count was is (record { 0 = n }) (reshape_below n was is s) (omega arith) (reshape_below-knows count n was is s (omega arith) sends)

-- an edit of the tree
pub edited-knows : (count : ℕ) (was is : Seen) (m : Mails) → IsKnowing count m → IsSending count (tree_edited was is m)
edited-knows count was is m knows =
    told-knows count is (reshape_below (length m.inboxes) was is (unsent m))
    (reshape_below-knows count (length m.inboxes) was is (unsent m) (omega (arith, knows.inboxes)) (unsent-knows count m knows))

-- the owner of a selection
owner-known : (count : ℕ) (selection : Selection) (m : Mails) → IsKnowing count m → IsKnown count (selection_owner m.desk selection)
owner-known count Key m is = is.key
owner-known count Source m is = is.source
owner-known count Target m is = is.target

-- the old one, where it is another leaf
other_than-known : (count : ℕ) (leaf : LeafId) (o : Option LeafId) → IsKnown count o → IsKnown count (other_than leaf o)
other_than-known count leaf None known = tt
other_than-known count leaf (Some old) known = by_test (old.0 == leaf.0)
  where
    by_test : (b : Bool) → IsKnown count (cond b None (Some old))
    by_test true = tt
    by_test false = known

-- another owner, or none
owned_by-knows : (count : ℕ) (o : Option LeafId) (selection : Selection) (m : Mails) → IsKnown count o → IsKnowing count m →
    IsKnowing count (record m { desk = owned_by o selection m.desk })
owned_by-knows count o Key m known is = record { inboxes = is.inboxes; focus = is.focus; key = known; source = is.source; target = is.target }
owned_by-knows count o Source m known is = record { inboxes = is.inboxes; focus = is.focus; key = is.key; source = known; target = is.target }
owned_by-knows count o Target m known is = record { inboxes = is.inboxes; focus = is.focus; key = is.key; source = is.source; target = known }

-- the old owner that is told, if there is one
send_lost-knows : (count : ℕ) (o : Option LeafId) (selection : Selection) (s : Sending) → IsKnown count o → IsSending count s →
    IsSending count (send_lost o selection s)
send_lost-knows count None selection s known is = is
send_lost-knows count (Some leaf) selection s known is = send-knows count leaf (events.Lost selection) s known is

-- a leaf takes a selection
pub owned-knows : (count : ℕ) (leaf : LeafId) (selection : Selection) (m : Mails) → leaf.0 < count → IsKnowing count m →
    IsSending count (owned leaf selection m)
owned-knows count leaf selection m low is =
    let taken : Mails = record m { desk = owned_by (Some leaf) selection m.desk } in
    send_lost-knows count (other_than leaf (selection_owner m.desk selection)) selection (unsent taken)
    (other_than-known count leaf (selection_owner m.desk selection) (owner-known count selection m is))
    (unsent-knows count taken (owned_by-knows count (Some leaf) selection m low is))

-- a leaf gives a selection up
pub disowned-knows : (count : ℕ) (selection : Selection) (m : Mails) → IsKnowing count m → IsSending count (disowned selection m)
disowned-knows count selection m is =
    unsent-knows count (record m { desk = owned_by None selection m.desk }) (owned_by-knows count None selection m tt is)
