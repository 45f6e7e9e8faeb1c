-- The steps that change a leaf's content or nothing: commands, marks, events that are taken, values that are read, and notes.
use Rattle.std.proofs.Common.{◌≡◌, ℕ, true, List, [], ◌∷◌, ◌++◌, Option, Some, None, length, refl, sym, ap, subst, ◌∙◌}
use Rattle.std.specs.Prelude.{IfSome, slice_get}
use Rattle.std.proofs.Math.ListN.{length-set}
use Rattle.tr_base.specs.declared.Kind.{Kind}
use Rattle.tr_base.specs.declared.Size.{Size}
use Rattle.tr_base.specs.declared.LeafId.{LeafId}
use Rattle.tr_base.specs.declared.Event.{Event}
use Rattle.tr_base.specs.declared.Selection.{Selection}
use Rattle.tr_base.specs.Rects.{Edges}
use Rattle.tr_base.proofs.RectLemmas.{false-true}
use Rattle.tr_paint.specs.Traces.{Look, look_of}
use Rattle.tr_paint.specs.Patches.{IsPatch}
use Rattle.tr_client.specs.declared.clients.Client.{Ghosts}
use Rattle.tr_forest.specs.Forests.{IsForest}
use Rattle.tr_tree.specs.Trees.{Seen}
use Rattle.tr_spot.specs.Leaves.{leaf_size}
use Rattle.tr_desk.specs.Desks.{Devices, selection_owner}
use Rattle.tr_mail.specs.Mails.{Mails}
use Rattle.tr_mail.specs.Deliveries as mail
use Rattle.tr_levels.specs.declared.Level.{Level}
use Rattle.tr_journal.specs.declared.items.Item.{Item}
use Rattle.tr_journal.specs.declared.answers.Answer.{Answer}
use Rattle.tr_journal.specs.declared.answers.Answer.TheVariants as answers
use Rattle.tr_journal.specs.declared.steps.Actor.{Actor}
use Rattle.tr_journal.specs.declared.steps.Step.{Step}
use Rattle.tr_journal.specs.declared.steps.Step.TheVariants as steps
use Rattle.tr_journal.specs.Journals.{JournalLine}
use Rattle.tr_journal.specs.Openings.{font_of, tree_of}
use Rattle.tr_journal.specs.Steps.{IsFor}
use Rattle.tr_machine.specs.States.{State, changed_at, content_of, look}
use Rattle.tr_machine.specs.Paintings.{acted, marked}
use Rattle.tr_machine.specs.Machines.{asked_of, obeyed, taken}
use Rattle.tr_machine.specs.Machines as machine
use Rattle.tr_machine.specs.Replays.{line_of_step, next, replay}
use Rattle.tr_machine.proofs.SoundLemmas.{IsObeyed, sound_acted, sound_mail, sound_marked}
use Rattle.tr_machine.proofs.StillLemmas.{act_shows, mail_shows, mark_shows}
use Rattle.tr_windows.specs.Presents.{Present, act_on, content_at, mark_on, presents}
use Rattle.tr_windows.proofs.PresentLemmas.{presents-acted, presents-marked, presents-patch}
use Rattle.tr_stage.specs.Stages.{RepresentsState, IsStage, Parts, is_note}
use Rattle.tr_stage.proofs.StageLemmas.{IsMade, holding, one_line}
use Rattle.tr_stage.proofs.PartLemmas.{content_at_leaf, forest_at}

-- the line of a step that sends nothing
abbrev pub quiet : {M : Type 0} → Actor → List Level → Step M → Answer → JournalLine M
quiet actor held step answer = record {
  entry = record { actor = actor; level = held; step = step; reply = record { answer = answer; sent = 0 } };
  sent = [];
}

-- what a leaf's window is painted by, as the parts of a stage tell it: the kind of the pixels, the font and the window's size
pub record IsEnv {C : Type 0} (opening : List (Item C)) (tree : Seen) (leaf : LeafId) (kind : Kind) (font : List (List ℕ)) (size : Size) : Type 0 where
  pub kind_is : kind ≡ tree.kind
  pub font_is : font ≡ font_of opening
  pub size_is : size ≡ leaf_size tree leaf

-- it is told of by a tree that is the stage's
pub env_at : {C : Type 0} {opening : List (Item C)} {shown tree : Seen} {leaf : LeafId} {kind : Kind} {font : List (List ℕ)} {size : Size} →
    shown ≡ tree → kind ≡ shown.kind → font ≡ font_of opening → size ≡ leaf_size shown leaf → IsEnv opening tree leaf kind font size
env_at {leaf = leaf} same kind font size = record {
  kind_is = kind ∙ ap (λ (t : Seen). t.kind) same;
  font_is = font;
  size_is = size ∙ ap (λ (t : Seen). leaf_size t leaf) same;
}

module _ {C M : Type 0} (client : Ghosts C M) where
  -- the patch of a command leads from a window's picture to the next one
  abbrev pub IsLawful : List (Present C) → LeafId → Size → M → Type 0
  IsLawful windows leaf size cmd = (look : Look) (w : Present C) → slice_get windows leaf.0 ≡ Some w →
      IsPatch look size (client.patch look size w.content cmd) (client.pic look size w.content) (client.pic look size (client.next w.content cmd))

  -- a leaf's window obeyed a command, whose patch leads to the next picture
  pub record IsActed (leaf : LeafId) (look : Look) (size : Size) (cmd : M) (old new : List (Present C)) : Type 0 where
    pub made : new ≡ changed_at leaf.0 (act_on client look size cmd) old
    pub law : IsLawful old leaf size cmd

  -- a leaf's window obeyed the command that was asked for, if one was
  pub record IsHeeded (leaf : LeafId) (look : Look) (size : Size) (asked : Option M) (old new : List (Present C)) : Type 0 where
    pub none : asked ≡ None → new ≡ old
    pub some : IfSome asked (λ cmd. new ≡ changed_at leaf.0 (act_on client look size cmd) old)
    pub law : (look : Look) (w : Present C) → slice_get old leaf.0 ≡ Some w →
        IfSome asked (λ cmd. IsPatch look size (client.patch look size w.content cmd)
        (client.pic look size w.content) (client.pic look size (client.next w.content cmd)))

  -- ---- one state

  -- the state's own look
  look_is : {opening : List (Item C)} {leaf : LeafId} {kind : Kind} {font : List (List ℕ)} {size : Size} (m : State C M) (parts : Parts C) →
      RepresentsState client m parts → m.font ≡ font_of opening → IsEnv opening parts.surface.tree leaf kind font size → look_of kind font ≡ look m
  look_is {kind = kind} {font = font} m parts is same env =
      let kinds : kind ≡ m.tree.kind = env.kind_is ∙ ap (λ (t : Seen). t.kind) is.tree in
      let fonts : font ≡ m.font = env.font_is ∙ sym same in
      ap (λ (k : Kind). look_of k font) kinds ∙ ap (λ (f : List (List ℕ)). look_of m.tree.kind f) fonts

  -- the size of the leaf's window
  size_is : {opening : List (Item C)} {leaf : LeafId} {kind : Kind} {font : List (List ℕ)} {size : Size} (m : State C M) (parts : Parts C) →
      RepresentsState client m parts → IsEnv opening parts.surface.tree leaf kind font size → size ≡ leaf_size m.tree leaf
  size_is {leaf = leaf} m parts is env = env.size_is ∙ ap (λ (t : Seen). leaf_size t leaf) is.tree

  -- a state and its parts, of which a leaf's window is painted by its own look and size
  module _ (m : State C M) (parts : Parts C) (is : RepresentsState client m parts) (leaf : LeafId) where
    -- what becomes of the windows in a command
    windows_acted : (cmd : M) (new : List (Present C)) → new ≡ changed_at leaf.0 (act_on client (look m) (leaf_size m.tree leaf) cmd) parts.windows →
        new ≡ presents client (acted leaf cmd m)
    windows_acted cmd new made =
        made ∙ ap (λ (ws : List (Present C)). changed_at leaf.0 (act_on client (look m) (leaf_size m.tree leaf) cmd) ws) is.windows
        ∙ sym (presents-acted client m leaf cmd)

    -- the command's patch leads from the state's window to the next one
    obeys : (cmd : M) → IsLawful parts.windows leaf (leaf_size m.tree leaf) cmd → IsObeyed client m leaf cmd
    obeys cmd law = presents-patch client m leaf cmd (subst (λ (ws : List (Present C)). IsLawful ws leaf (leaf_size m.tree leaf) cmd) is.windows law)

    -- a command is made
    made_act : (cmd : M) (new : List (Present C)) → IsForest parts.surface.tree.nodes →
        IsActed leaf (look m) (leaf_size m.tree leaf) cmd parts.windows new → IsMade client m (acted leaf cmd m) (record parts { windows = new })
    made_act cmd new forest a = record {
      forest = forest_at client is forest;
      sound = sound_acted client m leaf cmd is.sound (obeys cmd a.law);
      inboxes = refl;
      holds = record {
        shows = act_shows client m parts.surface leaf cmd (holding client m parts is).shows;
        windows = windows_acted cmd new a.made;
        mail = is.mail;
      };
    }

    -- a mark is made
    made_mark : (clip : Edges) (new : List (Present C)) → IsForest parts.surface.tree.nodes →
        new ≡ changed_at leaf.0 (mark_on (leaf_size m.tree leaf) clip) parts.windows → IsMade client m (marked leaf clip m) (record parts { windows = new })
    made_mark clip new forest made = record {
      forest = forest_at client is forest;
      sound = sound_marked client m leaf clip is.sound;
      inboxes = refl;
      holds = record {
        shows = mark_shows client m parts.surface leaf clip (holding client m parts is).shows;
        windows =
            made ∙ ap (λ (ws : List (Present C)). changed_at leaf.0 (mark_on (leaf_size m.tree leaf) clip) ws) is.windows
            ∙ sym (presents-marked client m leaf clip);
        mail = is.mail;
      };
    }

    -- an event is taken, and the command that it asks for is obeyed, if it asks for one
    made_take : (asked : Option M) (new : List (Present C)) → IsForest parts.surface.tree.nodes →
        IsHeeded leaf (look m) (leaf_size m.tree leaf) asked parts.windows new →
        IsMade client m (obeyed client leaf asked (record m { mail = mail.front_taken leaf m.mail }))
        (record parts { windows = new; mail = mail.front_taken leaf parts.mail })
    made_take None new forest h = record {
      forest = forest_at client is forest;
      sound = sound_mail client m (mail.front_taken leaf m.mail) is.sound;
      inboxes = length-set m.mail.inboxes leaf.0 _;
      holds = record {
        shows = mail_shows client m parts.surface (mail.front_taken leaf m.mail) (holding client m parts is).shows;
        windows = h.none refl ∙ is.windows;
        mail = ap (λ (b : Mails). mail.front_taken leaf b) is.mail;
      };
    }
    made_take (Some cmd) new forest h =
        let without : State C M = record m { mail = mail.front_taken leaf m.mail } in
        record {
          forest = forest_at client is forest;
          sound = sound_acted client without leaf cmd (sound_mail client m (mail.front_taken leaf m.mail) is.sound) (obeys cmd h.law);
          inboxes = length-set m.mail.inboxes leaf.0 _;
          holds = record {
            shows =
                act_shows client without parts.surface leaf cmd
                (mail_shows client m parts.surface (mail.front_taken leaf m.mail) (holding client m parts is).shows);
            windows = windows_acted cmd new h.some;
            mail = ap (λ (b : Mails). mail.front_taken leaf b) is.mail;
          };
        }

  -- a step leaves the state as it is
  made_nothing : {m : State C M} {parts : Parts C} → RepresentsState client m parts → IsForest parts.surface.tree.nodes → IsMade client m m parts
  made_nothing {m = m} {parts = parts} is forest =
      record { forest = forest_at client is forest; sound = is.sound; inboxes = refl; holds = holding client m parts is }

  -- what is read of the owner of a selection
  pub value_read : {m : State C M} {parts : Parts C} {devices : Devices} {leaf : LeafId} {x : C} (selection : Selection) → RepresentsState client m parts →
      devices ≡ parts.mail.desk → Some leaf ≡ selection_owner devices selection → content_at parts.windows leaf ≡ Some x →
      answers.Value (client.value x) ≡ machine.read client (selection_owner m.mail.desk selection) m
  value_read {m = m} {parts = parts} {devices = devices} {leaf = leaf} {x = x} selection is same owns content =
      sym (ap (λ (o : Option LeafId). machine.read client o m) owned ∙ ap (λ (o : Option C). machine.value_in client o) present)
    where
      owned : selection_owner m.mail.desk selection ≡ Some leaf
      owned =
          ap (λ (b : Mails). selection_owner b.desk selection) (sym is.mail)
          ∙ ap (λ (d : Devices). selection_owner d selection) (sym same) ∙ sym owns

      present : content_of client m leaf ≡ Some x
      present = sym (content_at_leaf client leaf is) ∙ content

  -- the line of a leaf that takes an event, if one waits
  abbrev take_by : State C M → Actor → List Level → LeafId → Option Event → JournalLine M
  take_by m actor held leaf o = let out = taken client leaf o m in record {
    entry = record { actor = actor; level = held; step = steps.Take leaf; reply = record { answer = out.answer; sent = length out.sent } };
    sent = out.sent;
  }

  -- ---- a stage

  module _ (opening : List (Item C)) (lines : List (JournalLine M)) (old : Parts C) (is : IsStage client opening lines old) where
    -- the state of the stage
    abbrev m : State C M
    m = replay client opening lines

    -- the event that has waited longest for a leaf
    front_is : (leaf : LeafId) (o : Option Event) → mail.front_of old.mail leaf ≡ o → mail.front_of m.mail leaf ≡ o
    front_is leaf o front = ap (λ (b : Mails). mail.front_of b leaf) (sym is.kept.mail) ∙ front

    -- the line of a leaf for which no event waits
    empty_line : (actor : Actor) (held : List Level) (leaf : LeafId) → mail.front_of old.mail leaf ≡ None →
        line_of_step client m actor held (steps.Take leaf) ≡ quiet actor held (steps.Take leaf) answers.Empty
    empty_line actor held leaf front = ap (λ (o : Option Event). take_by m actor held leaf o) (front_is leaf None front)

    -- the line of a leaf for which an event waits
    taken_line : (actor : Actor) (held : List Level) (leaf : LeafId) (event : Event) → mail.front_of old.mail leaf ≡ Some event →
        line_of_step client m actor held (steps.Take leaf) ≡ quiet actor held (steps.Take leaf) (answers.Taken event)
    taken_line actor held leaf event front = ap (λ (o : Option Event). take_by m actor held leaf o) (front_is leaf (Some event) front)

    -- nothing becomes of the stage but one line more
    stays : {actor : Actor} {held : List Level} {step : Step M} → IsFor (tree_of opening).nodes actor held step → IsForest old.surface.tree.nodes →
        next client m step ≡ m → IsStage client opening (lines ++ line_of_step client m actor held step ∷ []) old
    stays for forest same =
        one_line client is for (subst (λ (n : State C M). IsMade client m n old) (sym same) (made_nothing is.kept forest))

  -- a command
  pub acts : {opening : List (Item C)} {lines : List (JournalLine M)} {old : Parts C} {actor : Actor} {held : List Level} {leaf : LeafId} {cmd : M}
      {kind : Kind} {font : List (List ℕ)} {size : Size} {new : List (Present C)} →
      IsStage client opening lines old → IsFor (tree_of opening).nodes actor held (steps.Act leaf cmd) → IsForest old.surface.tree.nodes →
      IsEnv opening old.surface.tree leaf kind font size → IsActed leaf (look_of kind font) size cmd old.windows new →
      IsStage client opening (lines ++ quiet actor held (steps.Act leaf cmd) answers.Done ∷ []) (record old { windows = new })
  acts {opening = opening} {lines = lines} {old = old} {leaf = leaf} {cmd = cmd} {kind = kind} {font = font} {size = size} {new = new} is for forest env a =
      one_line client is for (made_act n old is.kept leaf cmd new forest own)
    where
      n : State C M
      n = replay client opening lines

      own : IsActed leaf (look n) (leaf_size n.tree leaf) cmd old.windows new
      own =
          subst (λ (l : Look). IsActed leaf l (leaf_size n.tree leaf) cmd old.windows new) (look_is n old is.kept is.like.font env)
          (subst (λ (s : Size). IsActed leaf (look_of kind font) s cmd old.windows new) (size_is n old is.kept env) a)

  -- a mark
  pub marks : {opening : List (Item C)} {lines : List (JournalLine M)} {old : Parts C} {actor : Actor} {held : List Level} {leaf : LeafId} {clip : Edges}
      {shown : Seen} {size : Size} {new : List (Present C)} →
      IsStage client opening lines old → IsFor {M = M} (tree_of opening).nodes actor held (steps.Mark leaf clip) → IsForest old.surface.tree.nodes →
      shown ≡ old.surface.tree → size ≡ leaf_size shown leaf → new ≡ changed_at leaf.0 (mark_on size clip) old.windows →
      IsStage client opening (lines ++ quiet actor held (steps.Mark leaf clip) answers.Done ∷ []) (record old { windows = new })
  marks {opening = opening} {lines = lines} {old = old} {leaf = leaf} {clip = clip} {new = new} is for forest same sized made =
      one_line client is for (made_mark (replay client opening lines) old is.kept leaf clip new forest
      (made ∙ ap (λ (s : Size). changed_at leaf.0 (mark_on s clip) old.windows) (sized ∙ ap (λ (t : Seen). leaf_size t leaf) (same ∙ is.kept.tree))))

  -- a leaf for which no event waits
  pub takes_nothing : {opening : List (Item C)} {lines : List (JournalLine M)} {old : Parts C} {actor : Actor} {held : List Level} {leaf : LeafId} →
      IsStage client opening lines old → IsFor {M = M} (tree_of opening).nodes actor held (steps.Take leaf) → IsForest old.surface.tree.nodes →
      mail.front_of old.mail leaf ≡ None → IsStage client opening (lines ++ quiet actor held (steps.Take leaf) answers.Empty ∷ []) old
  takes_nothing {opening = opening} {lines = lines} {old = old} {actor = actor} {held = held} {leaf = leaf} is for forest front =
      subst (λ (l : JournalLine M). IsStage client opening (lines ++ l ∷ []) old) (empty_line opening lines old is actor held leaf front)
      (stays opening lines old is for forest same)
    where
      n : State C M
      n = replay client opening lines

      same : next client n (steps.Take leaf) ≡ n
      same = ap (λ (o : Option Event). (taken client leaf o n).state) (front_is opening lines old is leaf None front)

  -- a leaf takes an event, and obeys the command that it asks for, if it asks for one
  pub takes : {opening : List (Item C)} {lines : List (JournalLine M)} {old : Parts C} {actor : Actor} {held : List Level} {leaf : LeafId} {event : Event}
      {asked : Option M} {kind : Kind} {font : List (List ℕ)} {size : Size} {new : List (Present C)} →
      IsStage client opening lines old → IsFor {M = M} (tree_of opening).nodes actor held (steps.Take leaf) → IsForest old.surface.tree.nodes →
      mail.front_of old.mail leaf ≡ Some event → asked ≡ asked_of client (content_at old.windows leaf) event →
      IsEnv opening old.surface.tree leaf kind font size → IsHeeded leaf (look_of kind font) size asked old.windows new →
      IsStage client opening (lines ++ quiet actor held (steps.Take leaf) (answers.Taken event) ∷ [])
      (record old { windows = new; mail = mail.front_taken leaf old.mail })
  takes {opening = opening} {lines = lines} {old = old} {actor = actor} {held = held} {leaf = leaf} {event = event} {asked = asked}
      {kind = kind} {font = font} {size = size} {new = new} is for forest front reacts env h =
      subst (λ (l : JournalLine M). IsStage client opening (lines ++ l ∷ []) after) (taken_line opening lines old is actor held leaf event front)
      (one_line client is for (subst (λ (s : State C M). IsMade client n s after) (sym state) (made_take n old is.kept leaf asked new forest own)))
    where
      n : State C M
      n = replay client opening lines

      after : Parts C
      after = record old { windows = new; mail = mail.front_taken leaf old.mail }

      without : State C M
      without = record n { mail = mail.front_taken leaf n.mail }

      own : IsHeeded leaf (look n) (leaf_size n.tree leaf) asked old.windows new
      own =
          subst (λ (l : Look). IsHeeded leaf l (leaf_size n.tree leaf) asked old.windows new) (look_is n old is.kept is.like.font env)
          (subst (λ (s : Size). IsHeeded leaf (look_of kind font) s asked old.windows new) (size_is n old is.kept env) h)

      command : asked ≡ asked_of client (content_of client n leaf) event
      command = reacts ∙ ap (λ (o : Option C). asked_of client o event) (content_at_leaf client leaf is.kept)

      state : next client n (steps.Take leaf) ≡ obeyed client leaf asked without
      state =
          ap (λ (o : Option Event). (taken client leaf o n).state) (front_is opening lines old is leaf (Some event) front)
          ∙ ap (λ (o : Option M). obeyed client leaf o without) (sym command)

  -- a value is read
  pub reads : {opening : List (Item C)} {lines : List (JournalLine M)} {old : Parts C} {actor : Actor} {held : List Level} {leaf : LeafId}
      {selection : Selection} {answer : Answer} →
      IsStage client opening lines old → IsFor {M = M} (tree_of opening).nodes actor held (steps.Read leaf selection) → IsForest old.surface.tree.nodes →
      (let n = replay client opening lines in answer ≡ machine.read client (selection_owner n.mail.desk selection) n) →
      IsStage client opening (lines ++ quiet actor held (steps.Read leaf selection) answer ∷ []) old
  reads {opening = opening} {lines = lines} {old = old} {actor = actor} {held = held} {leaf = leaf} {selection = selection} is for forest answers =
      subst (λ (a : Answer). IsStage client opening (lines ++ quiet actor held (steps.Read leaf selection) a ∷ []) old) (sym answers)
      (stays opening lines old is for forest refl)

  -- something is written down
  pub notes : {opening : List (Item C)} {lines : List (JournalLine M)} {old : Parts C} {actor : Actor} {held : List Level} {step : Step M} →
      IsStage client opening lines old → IsFor (tree_of opening).nodes actor held step → IsForest old.surface.tree.nodes → is_note step ≡ true →
      IsStage client opening (lines ++ quiet actor held step answers.Done ∷ []) old
  notes {opening = opening} {lines = lines} {old = old} {actor = actor} {held = held} {step = step} is for forest note =
      subst (λ (l : JournalLine M). IsStage client opening (lines ++ l ∷ []) old) (line step note) (stays opening lines old is for forest (same step note))
    where
      n : State C M
      n = replay client opening lines

      line : (s : Step M) → is_note s ≡ true → line_of_step client n actor held s ≡ quiet actor held s answers.Done
      line steps.Sync h = refl
      line (steps.Report query) h = refl
      line s h = absurd (false-true h)

      same : (s : Step M) → is_note s ≡ true → next client n s ≡ n
      same steps.Sync h = refl
      same (steps.Report query) h = refl
      same s h = absurd (false-true h)
