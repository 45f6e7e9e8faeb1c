-- The machine: the effect of each step on a state, its answer, and its deliveries.
use Rattle.std.specs.Prelude.{List, [], Option, Some, None}
use Rattle.tr_base.specs.declared.LeafId.{LeafId}
use Rattle.tr_base.specs.declared.Event.{Event}
use Rattle.tr_client.specs.declared.clients.Client.{Ghosts}
use Rattle.tr_forest.specs.declared.Edit.{Edit}
use Rattle.tr_forest.specs.declared.NodeFault.{NodeFault}
use Rattle.tr_forest.specs.Edits.{refusal}
use Rattle.tr_tree.specs.Trees.{edited_tree}
use Rattle.tr_inbox.specs.declared.Delivery.{Delivery}
use Rattle.tr_desk.specs.declared.desks.DeskFault.{DeskFault}
use Rattle.tr_desk.specs.declared.desks.DeskFault.TheVariants.{Unowned}
use Rattle.tr_desk.specs.Desks.{selection_owner}
use Rattle.tr_desk.specs.Faults.{time_fault, mouse_fault, own_fault, disown_fault}
use Rattle.tr_mail.specs.Mails.{Sending}
use Rattle.tr_mail.specs.Deliveries as mail
use Rattle.tr_journal.specs.declared.answers.Answer.{Answer}
use Rattle.tr_journal.specs.declared.answers.Answer.TheVariants as answers
use Rattle.tr_journal.specs.declared.steps.Step.{Step}
use Rattle.tr_journal.specs.declared.steps.Step.TheVariants as steps
use Rattle.tr_machine.specs.States.{State, content_of}
use Rattle.tr_machine.specs.Paintings.{acted, marked, flushed, repainted, framed}
use Rattle.tr_machine.specs.Edits.{altered}

-- the outcome of a step: the next state, the answer, and the deliveries
pub record Outcome (C M : Type 0) : Type 0 where
  pub state : State C M
  pub answer : Answer
  pub sent : List Delivery

-- the outcome of a step that sends nothing: this state, and this answer
abbrev pub answered : {C M : Type 0} → Answer → State C M → Outcome C M
answered answer m = record { state = m; answer = answer; sent = [] }

-- the step is done, and sends nothing
abbrev pub done : {C M : Type 0} → State C M → Outcome C M
done m = answered answers.Done m

-- the step is done, and sends these deliveries
abbrev pub delivered : {C M : Type 0} → State C M → Sending → Outcome C M
delivered m s = record { state = record m { mail = s.mail }; answer = answers.Done; sent = s.sent }

-- the desk refuses a step, or lets it be done
abbrev pub delivered_or_refused : {C M : Type 0} → Option DeskFault → State C M → Sending → Outcome C M
delivered_or_refused None m s = delivered m s
delivered_or_refused (Some fault) m s = answered (answers.Desk fault) m

module _ {C M : Type 0} (client : Ghosts C M) where
  -- a leaf obeys the command that an event asks for, if it asks for one
  abbrev pub obeyed : LeafId → Option M → State C M → State C M
  obeyed leaf None m = m
  obeyed leaf (Some cmd) m = acted leaf cmd m

  -- the command that the event asks for in a content, if there is a content
  abbrev pub asked_of : Option C → Event → Option M
  asked_of None event = None
  asked_of (Some content) event = client.answer content event

  -- the front event of a leaf is taken, and the leaf obeys it
  abbrev pub taken : LeafId → Option Event → State C M → Outcome C M
  taken leaf None m = answered answers.Empty m
  taken leaf (Some event) m =
      answered (answers.Taken event)
      (obeyed leaf (asked_of (content_of client m leaf) event) (record m { mail = mail.front_taken leaf m.mail }))

  -- the value of a content, if there is a content
  abbrev pub value_in : Option C → Answer
  value_in None = answers.Value []
  value_in (Some content) = answers.Value (client.value content)

  -- the value of the owner's content is read
  abbrev pub read : Option LeafId → State C M → Answer
  read None m = answers.Desk Unowned
  read (Some leaf) m = value_in (content_of client m leaf)

  -- the tree refuses an edit, or is edited
  abbrev pub edit_step : Option NodeFault → Edit → State C M → Outcome C M
  edit_step (Some fault) edit m = answered (answers.Tree fault) m
  edit_step None edit m = record {
    state = altered client edit m;
    answer = answers.Done;
    sent = (mail.tree_edited m.tree (edited_tree m.tree edit) m.mail).sent;
  }

  -- a step of the machine
  abbrev pub step : State C M → Step M → Outcome C M
  step m (steps.Act leaf cmd) = done (acted leaf cmd m)
  step m (steps.Mark leaf clip) = done (marked leaf clip m)
  step m (steps.Take leaf) = taken leaf (mail.front_of m.mail leaf) m
  step m (steps.SetCage leaf cage) = delivered m (mail.caged m.tree leaf cage m.mail)
  step m (steps.Own leaf selection time) =
      delivered_or_refused (own_fault m.mail.desk leaf time) m (mail.owned leaf selection m.mail)
  step m (steps.Disown leaf selection) =
      delivered_or_refused (disown_fault m.mail.desk leaf selection) m (mail.disowned selection m.mail)
  step m (steps.Read leaf selection) = answered (read (selection_owner m.mail.desk selection) m) m
  step m (steps.Mouse time button down) =
      delivered_or_refused (mouse_fault m.mail.desk time button down) m (mail.moused m.tree time button down m.mail)
  step m (steps.Motion time at) = delivered_or_refused (time_fault m.mail.desk time) m (mail.cursor_moved m.tree time at m.mail)
  step m (steps.Key time code) = delivered_or_refused (time_fault m.mail.desk time) m (mail.keyed time code m.mail)
  step m (steps.Alter edit) = edit_step (refusal m.tree.nodes edit) edit m
  step m (steps.Flush leaf) = done (flushed client leaf m)
  step m (steps.Repaint leaf) = done (repainted client leaf m)
  step m steps.PaintFrame = done (framed m)
  step m steps.Sync = done m
  step m (steps.Report query) = done m
