-- A stage after a step of its input devices: only the mail and the journal change, or the journal alone.
use Rattle.std.proofs.Common.{◌≡◌, ℕ, Bool, List, [], ◌∷◌, ◌++◌, Option, Some, None, length, refl, sym, ap, subst, ◌∙◌}
use Rattle.std.specs.Prelude.{Result, Ok, Err, IfErr, OnErr, OnOk}
use Rattle.tr_base.specs.declared.Point.{Point}
use Rattle.tr_base.specs.declared.LeafId.{LeafId}
use Rattle.tr_base.specs.declared.Selection.{Selection}
use Rattle.tr_cage.specs.declared.Cage.{Cage}
use Rattle.tr_client.specs.declared.clients.Client.{Ghosts}
use Rattle.tr_forest.specs.Forests.{IsForest}
use Rattle.tr_tree.specs.Trees.{Seen}
use Rattle.tr_surface.specs.Surfaces.{IsShown}
use Rattle.tr_desk.specs.declared.desks.DeskFault.{DeskFault}
use Rattle.tr_desk.specs.Faults.{time_fault, mouse_fault, own_fault, disown_fault}
use Rattle.tr_inbox.specs.declared.Delivery.{Delivery}
use Rattle.tr_mail.specs.Mails.{Mails, Sending}
use Rattle.tr_mail.specs.Deliveries as mail
use Rattle.tr_levels.specs.declared.Level.{Level}
use Rattle.tr_journal.specs.declared.items.Item.{Item}
use Rattle.tr_journal.specs.declared.answers.Answer.{Answer}
use Rattle.tr_journal.specs.declared.answers.Answer.TheVariants as answers
use Rattle.tr_journal.specs.declared.answers.Reply.{Reply}
use Rattle.tr_journal.specs.declared.steps.Actor.{Actor}
use Rattle.tr_journal.specs.declared.steps.Step.{Step}
use Rattle.tr_journal.specs.declared.steps.Step.TheVariants as steps
use Rattle.tr_journal.specs.Journals.{JournalLine}
use Rattle.tr_journal.specs.Openings.{tree_of}
use Rattle.tr_journal.specs.Steps.{IsFor}
use Rattle.tr_machine.specs.States.{State}
use Rattle.tr_machine.specs.Machines as machine
use Rattle.tr_machine.specs.Machines.{Outcome, answered, delivered, delivered_or_refused}
use Rattle.tr_machine.specs.Replays.{line_of_step, replay}
use Rattle.tr_machine.proofs.SoundLemmas.{IsObedient}
use Rattle.tr_machine.proofs.StillLemmas.{mail_shows}
use Rattle.tr_stage.specs.Making.{Makes, line_told, line_with}
use Rattle.tr_stage.specs.Stages.{IsStage, Parts, StageView, line}
use Rattle.tr_stage.proofs.StageLemmas.{IsHolding, holding, one_step}
use Rattle.tr_stage.proofs.MailLemmas.{caged-count, disowned-count, keyed-count, moused-count, moved-count, owned-count}

-- ---- making a step

-- a stage before a step: its opening, the lines of its journal and its parts, and who makes the step, with which levels held
pub record Before (C M : Type 0) : Type 0 where
  pub opening : List (Item C)
  pub lines : List (JournalLine M)
  pub parts : Parts C
  pub actor : Actor
  pub held : List Level

module _ {C M : Type 0} (client : Ghosts C M) where
  -- the state before the step
  abbrev pub state_before : Before C M → State C M
  state_before b = replay client b.opening b.lines

  -- the parts are those of the stage after the step, which answered this and sent that
  abbrev pub IsAfter : Before C M → Step M → Answer → List Delivery → Parts C → Type 0
  IsAfter b step answer sent new = IsStage client b.opening (b.lines ++ line_with b.actor b.held step answer sent ∷ []) new

  -- the step may be made on the stage, as a contract requires by its view of the stage, and the stage's surface is one
  pub record IsMaking (b : Before C M) (step : Step M) : Type 0 where
    pub is : IsStage client b.opening b.lines b.parts
    pub shown : IsShown b.parts.surface
    pub view : StageView C M
    pub same : b.opening ≡ view.opening
    pub allowed : IsFor (tree_of view.opening).nodes b.actor b.held step

  -- the step is for its actor
  pub for_actor : (b : Before C M) (step : Step M) → IsMaking b step → IsFor (tree_of b.opening).nodes b.actor b.held step
  for_actor b step making =
      subst (λ (items : List (Item C)). IsFor (tree_of items).nodes b.actor b.held step) (sym making.same) making.allowed

  -- the nodes of the state's tree are a forest
  pub forest_before : (b : Before C M) (step : Step M) → IsMaking b step → IsForest (state_before b).tree.nodes
  forest_before b step making = subst (λ (t : Seen). IsForest t.nodes) making.is.kept.tree making.shown.forest

  -- the line that the machine makes of a step, by what becomes of it
  line_is : (m : State C M) (actor : Actor) (held : List Level) (step : Step M) (out : Outcome C M) → machine.step client m step ≡ out →
      line_of_step client m actor held step ≡ line_with actor held step out.answer out.sent
  line_is m actor held step out is = ap (λ (o : Outcome C M). line_with actor held step o.answer o.sent) is

  -- what becomes of a step: the new parts hold the next state
  pub record IsOutcome (b : Before C M) (step : Step M) (new : Parts C) : Type 0 where
    pub obeys : IsObedient client (state_before b) step
    pub out : Outcome C M
    pub is : machine.step client (state_before b) step ≡ out
    pub inboxes : length out.state.mail.inboxes ≡ length (state_before b).mail.inboxes
    pub holds : IsHolding client out.state new

  -- one step more, by what becomes of it
  pub made_step : (b : Before C M) (step : Step M) (new : Parts C) → IsMaking b step → (x : IsOutcome b step new) →
      IsAfter b step x.out.answer x.out.sent new
  made_step b step new making x =
      subst (λ (l : JournalLine M). IsStage client b.opening (b.lines ++ l ∷ []) new) (line_is (state_before b) b.actor b.held step x.out x.is)
      (one_step client b.opening b.lines b.parts new b.actor b.held step making.is (for_actor b step making) (record {
        forest = forest_before b step making;
        obeys = x.obeys;
        inboxes = ap (λ (o : Outcome C M). length o.state.mail.inboxes) x.is ∙ x.inboxes;
        holds = subst (λ (o : Outcome C M). IsHolding client o.state new) (sym x.is) x.holds;
      }))

-- ---- the steps of the input devices

-- a step of the input devices: whether the desk refuses it, and what it makes of the mail
pub record Device : Type 0 where
  pub fault : Mails → Option DeskFault
  pub makes : Seen → Mails → Sending

-- the parts with other mail
abbrev pub with_mail : {C : Type 0} → Parts C → Mails → Parts C
with_mail parts mail = record { surface = parts.surface; windows = parts.windows; mail = mail }

-- the desk doesn't refuse the step, which makes this of the mail and sends that
pub record IsSent {C : Type 0} (old : Parts C) (d : Device) : Type 0 where
  pub tree : Seen
  pub mail : Mails
  pub sent : List Delivery
  pub same : tree ≡ old.surface.tree
  pub allowed : d.fault old.mail ≡ None
  pub makes : (let s : Sending = record { mail = mail; sent = sent } in s ≡ d.makes tree old.mail)

-- the desk refuses the step, which leaves the mail
pub record IsRefused {C : Type 0} (old : Parts C) (d : Device) : Type 0 where
  pub mail : Mails
  pub fault : DeskFault
  pub refused : d.fault old.mail ≡ Some fault
  pub same : mail ≡ old.mail

-- what the desk makes of a step, as it is told
pub record IsTold {C : Type 0} (old : Parts C) (d : Device) (tree : Seen) (after : Sending) (told : Result Unit DeskFault) : Type 0 where
  pub same : tree ≡ old.surface.tree
  pub ok : OnOk told (after ≡ d.makes tree old.mail)
  pub allowed : OnOk told (d.fault old.mail ≡ None)
  pub fault : IfErr told (λ fault. d.fault old.mail ≡ Some fault)
  pub err : OnErr told (after.mail ≡ old.mail)

module _ {C M : Type 0} (client : Ghosts C M) where
  -- the machine makes the step so, and it leaves as many inboxes
  pub record IsDevice (step : Step M) (d : Device) : Type 0 where
    pub made : (m : State C M) → machine.step client m step ≡ delivered_or_refused (d.fault m.mail) m (d.makes m.tree m.mail)
    pub obeys : (m : State C M) → IsObedient client m step
    pub inboxes : (t : Seen) (m : Mails) → length (d.makes t m).mail.inboxes ≡ length m.inboxes

  -- what the desk makes of the parts' mail it makes of the state's
  makes_now : (b : Before C M) (step : Step M) (d : Device) → IsMaking client b step → (x : IsSent b.parts d) →
      d.makes (state_before client b).tree (state_before client b).mail ≡ record { mail = x.mail; sent = x.sent }
  makes_now b step d making x =
      sym (x.makes ∙ ap (λ (t : Seen). d.makes t b.parts.mail) (x.same ∙ making.is.kept.tree)
      ∙ ap (λ (mails : Mails). d.makes (state_before client b).tree mails) making.is.kept.mail)

  -- what becomes of a step that the desk doesn't refuse
  sent_out : (b : Before C M) (step : Step M) (d : Device) → IsMaking client b step → IsDevice step d → (x : IsSent b.parts d) →
      machine.step client (state_before client b) step ≡ delivered (state_before client b) (record { mail = x.mail; sent = x.sent })
  sent_out b step d making is x =
      is.made m
      ∙ ap (λ (o : Option DeskFault). delivered_or_refused o m (d.makes m.tree m.mail)) (ap d.fault (sym making.is.kept.mail) ∙ x.allowed)
      ∙ ap (λ (s : Sending). delivered m s) (makes_now b step d making x)
    where
      m : State C M
      m = state_before client b

  -- what becomes of a step that it refuses
  refused_out : (b : Before C M) (step : Step M) (d : Device) → IsMaking client b step → IsDevice step d → (x : IsRefused b.parts d) →
      machine.step client (state_before client b) step ≡ answered (answers.Desk x.fault) (state_before client b)
  refused_out b step d making is x =
      is.made m ∙ ap (λ (o : Option DeskFault). delivered_or_refused o m (d.makes m.tree m.mail)) (ap d.fault (sym making.is.kept.mail) ∙ x.refused)
    where
      m : State C M
      m = state_before client b

  -- a step that the desk doesn't refuse
  pub device_sent : (b : Before C M) (step : Step M) (d : Device) → IsMaking client b step → IsDevice step d → (x : IsSent b.parts d) →
      IsAfter client b step answers.Done x.sent (with_mail b.parts x.mail)
  device_sent b step d making is x =
      made_step client b step (with_mail b.parts x.mail) making (record {
        obeys = is.obeys m;
        out = delivered m (record { mail = x.mail; sent = x.sent });
        is = sent_out b step d making is x;
        inboxes = ap (λ (s : Sending). length s.mail.inboxes) (sym (makes_now b step d making x)) ∙ is.inboxes m.tree m.mail;
        holds = record {
          shows = mail_shows client m b.parts.surface x.mail (holding client m b.parts making.is.kept).shows;
          windows = making.is.kept.windows;
          mail = refl;
        };
      })
    where
      m : State C M
      m = state_before client b

  -- a step that the desk refuses
  device_refused : (b : Before C M) (step : Step M) (d : Device) → IsMaking client b step → IsDevice step d → (x : IsRefused b.parts d) →
      IsAfter client b step (answers.Desk x.fault) [] (with_mail b.parts x.mail)
  device_refused b step d making is x =
      let m : State C M = state_before client b in
      made_step client b step (with_mail b.parts x.mail) making (record {
        obeys = is.obeys m;
        out = answered (answers.Desk x.fault) m;
        is = refused_out b step d making is x;
        inboxes = refl;
        holds = record {
          shows = (holding client m b.parts making.is.kept).shows;
          windows = making.is.kept.windows;
          mail = x.same ∙ making.is.kept.mail;
        };
      })

  -- a step of which the desk tells that it is done, or refused
  pub device_told : (b : Before C M) (step : Step M) (d : Device) (tree : Seen) (after : Sending) (told : Result Unit DeskFault) →
      IsMaking client b step → IsDevice step d → IsTold b.parts d tree after told →
      IsStage client b.opening (b.lines ++ line_told b.actor b.held step told after.sent ∷ []) (with_mail b.parts after.mail)
  device_told b step d tree after (Ok done) making is x =
      device_sent b step d making is (record { tree = tree; mail = after.mail; sent = after.sent; same = x.same; allowed = x.allowed; makes = x.ok })
  device_told b step d tree after (Err fault) making is x =
      device_refused b step d making is (record { mail = after.mail; fault = fault; refused = x.fault; same = x.err })

  -- the machine's line of it
  pub device_line : (b : Before C M) (step : Step M) (d : Device) (tree : Seen) (after : Sending) (told : Result Unit DeskFault) →
      IsMaking client b step → IsDevice step d → IsTold b.parts d tree after told →
      line_of_step client (state_before client b) b.actor b.held step ≡ line_told b.actor b.held step told after.sent
  device_line b step d tree after (Ok done) making is x =
      ap (λ (o : Outcome C M). line_with b.actor b.held step o.answer o.sent)
      (sent_out b step d making is (record { tree = tree; mail = after.mail; sent = after.sent; same = x.same; allowed = x.allowed; makes = x.ok }))
  device_line b step d tree after (Err fault) making is x =
      ap (λ (o : Outcome C M). line_with b.actor b.held step o.answer o.sent)
      (refused_out b step d making is (record { mail = after.mail; fault = fault; refused = x.fault; same = x.err }))

  -- a stage that has the machine's line more, and nothing else of what is seen but its spare room
  pub makes_line : {s v n : StageView C M} {actor : Actor} {held : List Level} {step : Step M} {r : Reply} (l : JournalLine M) → s ≡ v →
      line client s actor held step ≡ l → n.opening ≡ s.opening → n.journal ≡ s.journal ++ l ∷ [] → r ≡ l.entry.reply →
      Makes client v n actor held step (Ok r)
  makes_line {s} {v} {n} {actor} {held} {step} {r} l same is opening journal reply =
      subst (λ (u : StageView C M). Makes client u n actor held step (Ok r)) same (record {
        opening = opening;
        ok = journal ∙ ap (λ (k : JournalLine M). s.journal ++ k ∷ []) (sym is);
        reply = reply ∙ ap (λ (k : JournalLine M). k.entry.reply) (sym is);
        err_journal = tt;
        err_screen = tt;
      })

-- a button
abbrev pub mouse : ℕ → ℕ → Bool → Device
mouse time button down = record {
  fault = λ m. mouse_fault m.desk time button down;
  makes = λ t m. mail.moused t time button down m;
}

-- a move of the cursor
abbrev pub motion : ℕ → Point → Device
motion time at = record { fault = λ m. time_fault m.desk time; makes = λ t m. mail.cursor_moved t time at m }

-- a key
abbrev pub key : ℕ → ℕ → Device
key time code = record { fault = λ m. time_fault m.desk time; makes = λ t m. mail.keyed time code m }

-- another cage, which is never refused
abbrev pub cage_of : LeafId → Cage → Device
cage_of leaf cage = record { fault = λ m. None; makes = λ t m. mail.caged t leaf cage m }

-- a selection is taken
abbrev pub owning : LeafId → Selection → ℕ → Device
owning leaf selection time = record {
  fault = λ m. own_fault m.desk leaf time;
  makes = λ t m. mail.owned leaf selection m;
}

-- a selection is given up
abbrev pub disowning : LeafId → Selection → Device
disowning leaf selection = record {
  fault = λ m. disown_fault m.desk leaf selection;
  makes = λ t m. mail.disowned selection m;
}

-- the machine makes each of them so
module _ {C M : Type 0} (client : Ghosts C M) where
  -- a button
  pub is_mouse : (time button : ℕ) (down : Bool) → IsDevice client (steps.Mouse time button down) (mouse time button down)
  is_mouse time button down = record { made = λ m. refl; obeys = λ m. tt; inboxes = λ t m. moused-count t time button down m }

  -- a move of the cursor
  pub is_motion : (time : ℕ) (at : Point) → IsDevice client (steps.Motion time at) (motion time at)
  is_motion time at = record { made = λ m. refl; obeys = λ m. tt; inboxes = λ t m. moved-count t time at m }

  -- a key
  pub is_key : (time code : ℕ) → IsDevice client (steps.Key time code) (key time code)
  is_key time code = record { made = λ m. refl; obeys = λ m. tt; inboxes = λ t m. keyed-count time code m }

  -- another cage
  pub is_cage : (leaf : LeafId) (cage : Cage) → IsDevice client (steps.SetCage leaf cage) (cage_of leaf cage)
  is_cage leaf cage = record { made = λ m. refl; obeys = λ m. tt; inboxes = λ t m. caged-count t leaf cage m }

  -- a selection is taken
  pub is_owning : (leaf : LeafId) (selection : Selection) (time : ℕ) → IsDevice client (steps.Own leaf selection time) (owning leaf selection time)
  is_owning leaf selection time = record { made = λ m. refl; obeys = λ m. tt; inboxes = λ t m. owned-count leaf selection m }

  -- a selection is given up
  pub is_disowning : (leaf : LeafId) (selection : Selection) → IsDevice client (steps.Disown leaf selection) (disowning leaf selection)
  is_disowning leaf selection = record { made = λ m. refl; obeys = λ m. tt; inboxes = λ t m. disowned-count selection m }
