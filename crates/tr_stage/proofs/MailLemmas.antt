-- No step of the mail adds an inbox, or takes one away.
use Rattle.std.proofs.Common.{◌≡◌, ℕ, zero, suc, Bool, true, false, Option, Some, None, length, refl, ◌∙◌}
use Rattle.std.proofs.lemmas.List.{length-set}
use Rattle.tr_base.specs.declared.Point.{Point}
use Rattle.tr_base.specs.declared.LeafId.{LeafId}
use Rattle.tr_base.specs.declared.Selection.{Selection}
use Rattle.tr_base.specs.declared.Event.{Event}
use Rattle.tr_base.specs.declared.Event.TheVariants as events
use Rattle.tr_cage.specs.declared.Cage.{Cage}
use Rattle.tr_cage.specs.declared.Cage.TheVariants.{Everywhere}
use Rattle.tr_desk.specs.Desks.{click, receiver, after_mouse, selection_owner, owned_by, other_than}
use Rattle.tr_tree.specs.Trees.{Seen}
use Rattle.tr_spot.specs.Spots.{spot}
use Rattle.tr_spot.specs.Leaves.{in_leaf, leaf_size}
use Rattle.tr_inbox.specs.Inboxes.{InboxView}
use Rattle.tr_mail.specs.Mails.{Mails, Sending, dated, inbox_of, is_full, put_into, send, send_input, unsent, with_inbox}
use Rattle.tr_mail.specs.Deliveries.{caged, disowned, tree_edited, is_caged, is_gone, is_reshaped, keyed, moused, cursor_moved, owned}
use Rattle.tr_mail.specs.Deliveries.{reshape, reshape_below, send_lost, tell, tell_below, told, with_cage}

-- another inbox for a leaf
with_inbox-count : (leaf : LeafId) (inbox : InboxView) (m : Mails) → length (with_inbox leaf inbox m).inboxes ≡ length m.inboxes
with_inbox-count leaf inbox m = length-set m.inboxes leaf.0 inbox

-- an event that is sent
send-count : (leaf : LeafId) (event : Event) (s : Sending) → length (send leaf event s).mail.inboxes ≡ length s.mail.inboxes
send-count leaf event s = with_inbox-count leaf (put_into event (inbox_of s.mail leaf)) s.mail

-- the time of a mouse or key event
dated-count : (leaf : LeafId) (time : ℕ) (m : Mails) → length (dated leaf time m).inboxes ≡ length m.inboxes
dated-count leaf time m = by_room (is_full (inbox_of m leaf)) refl
  where
    by_room : (b : Bool) → is_full (inbox_of m leaf) ≡ b → length (dated leaf time m).inboxes ≡ length m.inboxes
    by_room true e = rw e refl
    by_room false e = rw e refl

-- a mouse or key event
send_input-count : (o : Option LeafId) (event : LeafId → Event) (time : ℕ) (s : Sending) →
    length (send_input o event time s).mail.inboxes ≡ length s.mail.inboxes
send_input-count None event time s = refl
send_input-count (Some leaf) event time s =
    send-count leaf (event leaf) (record s { mail = dated leaf time s.mail }) ∙ dated-count leaf time s.mail

-- a button
pub moused-count : (t : Seen) (time button : ℕ) (down : Bool) (m : Mails) → length (moused t time button down m).mail.inboxes ≡ length m.inboxes
moused-count t time button down m =
    let at : Point = m.desk.cursor in
    send_input-count (receiver (click m.desk button down) (spot t at) m.desk.focus)
    (λ leaf. events.Mouse time (click m.desk button down) button (in_leaf t leaf at)) time
    (unsent (record m { desk = after_mouse m.desk time button down (spot t at) }))

-- a key
pub keyed-count : (time code : ℕ) (m : Mails) → length (keyed time code m).mail.inboxes ≡ length m.inboxes
keyed-count time code m =
    send_input-count m.desk.key (λ leaf. events.Key time code) time (unsent (record m { desk = record m.desk { time = time } }))

-- a leaf that is told where the cursor is, if it must be
tell-count : (t : Seen) (leaf : LeafId) (s : Sending) → length (tell t leaf s).mail.inboxes ≡ length s.mail.inboxes
tell-count t leaf s = by_cage (is_caged t s.mail.desk leaf) refl
  where
    by_cage : (b : Bool) → is_caged t s.mail.desk leaf ≡ b → length (tell t leaf s).mail.inboxes ≡ length s.mail.inboxes
    by_cage true e = rw e refl
    by_cage false e =
        rw e (send-count leaf (events.Position s.mail.desk.time (in_leaf t leaf s.mail.desk.cursor) (is_gone t s.mail.desk.cursor leaf))
        (record s { mail = with_cage leaf Everywhere s.mail }))

-- the first n leaves
tell_below-count : (n : ℕ) (t : Seen) (s : Sending) → length (tell_below n t s).mail.inboxes ≡ length s.mail.inboxes
unfolding tell_below
tell_below-count zero t s = refl
tell_below-count (suc n) t s = tell-count t (record { 0 = n }) (tell_below n t s) ∙ tell_below-count n t s

-- all leaves
told-count : (t : Seen) (s : Sending) → length (told t s).mail.inboxes ≡ length s.mail.inboxes
told-count t s = tell_below-count (length s.mail.inboxes) t s

-- a move of the cursor
pub moved-count : (t : Seen) (time : ℕ) (at : Point) (m : Mails) → length (cursor_moved t time at m).mail.inboxes ≡ length m.inboxes
moved-count t time at m = told-count t (unsent (record m { desk = record m.desk { cursor = at; time = time } }))

-- another cage
pub caged-count : (t : Seen) (leaf : LeafId) (cage : Cage) (m : Mails) → length (caged t leaf cage m).mail.inboxes ≡ length m.inboxes
caged-count t leaf cage m = told-count t (unsent (with_cage leaf cage m))

-- a leaf that is told its size and kind, if these have changed
reshape-count : (was is : Seen) (leaf : LeafId) (s : Sending) → length (reshape was is leaf s).mail.inboxes ≡ length s.mail.inboxes
reshape-count was is leaf s = by_shape (is_reshaped was is leaf) refl
  where
    by_shape : (b : Bool) → is_reshaped was is leaf ≡ b → length (reshape was is leaf s).mail.inboxes ≡ length s.mail.inboxes
    by_shape true e = rw e (send-count leaf (events.Reshape (leaf_size is leaf) is.kind) s)
    by_shape false e = rw e refl

-- the first n leaves
reshape_below-count : (n : ℕ) (was is : Seen) (s : Sending) → length (reshape_below n was is s).mail.inboxes ≡ length s.mail.inboxes
unfolding reshape_below
reshape_below-count zero was is s = refl
reshape_below-count (suc n) was is s =
    reshape-count was is (record { 0 = n }) (reshape_below n was is s) ∙ reshape_below-count n was is s

-- an edit of the tree
pub edited-count : (was is : Seen) (m : Mails) → length (tree_edited was is m).mail.inboxes ≡ length m.inboxes
edited-count was is m =
    told-count is (reshape_below (length m.inboxes) was is (unsent m)) ∙ reshape_below-count (length m.inboxes) was is (unsent m)

-- the old owner that is told, if there is one
send_lost-count : (o : Option LeafId) (selection : Selection) (s : Sending) →
    length (send_lost o selection s).mail.inboxes ≡ length s.mail.inboxes
send_lost-count None selection s = refl
send_lost-count (Some leaf) selection s = send-count leaf (events.Lost selection) s

-- another owner of a selection
pub owned-count : (leaf : LeafId) (selection : Selection) (m : Mails) → length (owned leaf selection m).mail.inboxes ≡ length m.inboxes
owned-count leaf selection m =
    send_lost-count (other_than leaf (selection_owner m.desk selection)) selection
    (unsent (record m { desk = owned_by (Some leaf) selection m.desk }))

-- no owner any more
pub disowned-count : (selection : Selection) (m : Mails) → length (disowned selection m).mail.inboxes ≡ length m.inboxes
disowned-count selection m = refl
