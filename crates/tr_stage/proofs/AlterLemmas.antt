-- How an edit of the tree takes a stage along.
use Rattle.std.proofs.Common.{◌≡◌, true, List, [], ◌∷◌, ◌++◌, Option, Some, None, length, refl, sym, ap, subst, ◌∙◌}
use Rattle.std.specs.Prelude.{slice_get}
use Rattle.tr_base.specs.declared.Point.{Point}
use Rattle.tr_base.specs.declared.LeafId.{LeafId}
use Rattle.tr_region.specs.Points.{holds}
use Rattle.tr_screen.specs.Pictures.{pixel_of}
use Rattle.tr_paint.specs.Traces.{Look}
use Rattle.tr_client.specs.declared.clients.Client.{Ghosts}
use Rattle.tr_client.specs.Laws.{IsWindowSize}
use Rattle.tr_forest.specs.declared.Edit.{Edit}
use Rattle.tr_forest.specs.declared.NodeFault.{NodeFault}
use Rattle.tr_forest.specs.Nodes.{leaf_count}
use Rattle.tr_forest.specs.Edits.{IsEdit, refusal}
use Rattle.tr_forest.specs.Forests.{IsForest}
use Rattle.tr_forest.proofs.Editing.{follows_edited}
use Rattle.tr_tree.specs.Trees.{Seen, edited_tree}
use Rattle.tr_spot.specs.Leaves.{leaf_size}
use Rattle.tr_surface.specs.Surfaces.{IsShown, is_bad}
use Rattle.tr_surface.specs.TreeSteps.{bad_after_edit, good_after, source}
use Rattle.tr_inbox.specs.declared.Delivery.{Delivery}
use Rattle.tr_mail.specs.Mails.{Mails, Sending}
use Rattle.tr_mail.specs.Deliveries as mail
use Rattle.tr_levels.specs.declared.Level.{Level}
use Rattle.tr_journal.specs.declared.items.Item.{Item}
use Rattle.tr_journal.specs.declared.answers.Answer.{Answer}
use Rattle.tr_journal.specs.declared.answers.Answer.TheVariants as answers
use Rattle.tr_journal.specs.declared.steps.Actor.{Actor}
use Rattle.tr_journal.specs.declared.steps.Step.TheVariants as steps
use Rattle.tr_journal.specs.Journals.{JournalLine}
use Rattle.tr_journal.specs.Openings.{tree_of}
use Rattle.tr_journal.specs.Steps.{IsFor}
use Rattle.tr_machine.specs.States.{State, look}
use Rattle.tr_machine.specs.Edits.{altered}
use Rattle.tr_machine.specs.Machines.{edit_step}
use Rattle.tr_machine.specs.Replays.{line_of_step, next, replay}
use Rattle.tr_machine.proofs.SoundLemmas.{fits}
use Rattle.tr_machine.proofs.AlterLemmas.{IsAlter, KeepsColours, alter_shows}
use Rattle.tr_windows.specs.Presents.{Present, cleared_from, kept_by, presents}
use Rattle.tr_windows.specs.Promises.{KeepsPoints}
use Rattle.tr_windows.proofs.PresentLemmas.{presents-altered, presents-keeping, presents-survive}
use Rattle.tr_stage.specs.Stages.{RepresentsState, IsStage, Parts}
use Rattle.tr_stage.proofs.MailLemmas.{edited-count}
use Rattle.tr_stage.proofs.PartLemmas.{forest_at, leaves_count}
use Rattle.tr_stage.proofs.StageLemmas.{IsHolding, IsNext, holding, one_step, values_now}

-- the line of an edit that was made or refused
abbrev pub alter_line : {M : Type 0} → Actor → List Level → Edit → Answer → List Delivery → JournalLine M
alter_line actor held edit answer sent = record {
  entry = record {
    actor = actor;
    level = held;
    step = steps.Alter edit;
    reply = record { answer = answer; sent = length sent };
  };
  sent = sent;
}

module _ {C M : Type 0} (client : Ghosts C M) where
  -- an edit of the opening's nodes is one of the present ones
  pub edit_now : {opening : List (Item C)} {lines : List (JournalLine M)} {parts : Parts C} (edit : Edit) →
      IsStage client opening lines parts → IsEdit (tree_of opening).nodes edit → IsEdit parts.surface.tree.nodes edit
  edit_now {opening} {lines} {parts} edit stage is =
      subst (λ (t : Seen). IsEdit t.nodes edit) (sym stage.kept.tree) (values_now client opening lines parts (steps.Alter edit) stage is)

  -- the tree has as many leaves still after the edit of a step that isn't refused
  pub leaves_after : {opening : List (Item C)} {lines : List (JournalLine M)} {parts : Parts C} {after : Seen} (edit : Edit) →
      IsStage client opening lines parts → IsForest parts.surface.tree.nodes → IsEdit (tree_of opening).nodes edit →
      refusal parts.surface.tree.nodes edit ≡ None → after ≡ edited_tree parts.surface.tree edit → leaf_count after.nodes ≡ leaf_count (tree_of opening).nodes
  leaves_after {opening} {lines} {parts} edit stage forest is allowed after_is =
      ap (λ (t : Seen). leaf_count t.nodes) after_is
      ∙ (follows_edited parts.surface.tree.nodes edit forest (edit_now edit stage is) allowed).values.leaf_count
      ∙ leaves_count client stage

  -- what is told of the parts of a stage of a state over an edit of the tree that isn't refused
  pub record IsEdited (m : State C M) (edit : Edit) (old new : Parts C) : Type 0 where
    pub was : IsShown old.surface
    pub is : IsShown new.surface
    pub keeps : (look : Look) (leaf : LeafId) (w : Present C) → slice_get old.windows leaf.0 ≡ Some w → KeepsPoints client look w
    pub allowed : refusal old.surface.tree.nodes edit ≡ None
    pub tree : new.surface.tree ≡ edited_tree old.surface.tree edit
    pub bad : (p : Point) →
        is_bad new.surface p ≡ bad_after_edit (kept_by client old.windows) old.surface.tree new.surface.tree edit (is_bad old.surface) p
    pub pixels : (p : Point) →
        good_after (kept_by client old.windows) old.surface.tree new.surface.tree edit (is_bad old.surface) p ≡ true →
        pixel_of new.surface.screen p ≡ pixel_of old.surface.screen (source old.surface.tree new.surface.tree edit p)
    pub before : Seen
    pub after : Seen
    pub before_is : before ≡ old.surface.tree
    pub after_is : after ≡ new.surface.tree
    pub old_sizes : (leaf : LeafId) → IsWindowSize (leaf_size before leaf)
    pub new_sizes : (leaf : LeafId) → IsWindowSize (leaf_size after leaf)
    pub windows : new.windows ≡ cleared_from 0 before after old.windows
    pub sent : List Delivery
    pub sending : record { mail = new.mail; sent = sent } ≡ mail.tree_edited before after old.mail

  module _ {opening : List (Item C)} {lines : List (JournalLine M)} {edit : Edit} {old new : Parts C}
      (stage : IsStage client opening lines old) (e : IsEdited (replay client opening lines) edit old new) where
    -- the state before
    abbrev m : State C M
    m = replay client opening lines

    -- what is known of it
    at : RepresentsState client m old
    at = stage.kept

    -- its nodes are a forest
    forest : IsForest m.tree.nodes
    forest = forest_at client at e.was.forest

    -- the edit isn't refused
    allowed : refusal m.tree.nodes edit ≡ None
    allowed = subst (λ (t : Seen). refusal t.nodes edit ≡ None) at.tree e.allowed

    -- so the next state is the altered one
    altered_next : next client m (steps.Alter edit) ≡ altered client edit m
    altered_next = ap (λ (o : Option NodeFault). (edit_step client o edit m).state) allowed

    -- the new tree is the altered state's
    new_tree : new.surface.tree ≡ edited_tree m.tree edit
    new_tree = e.tree ∙ ap (λ (t : Seen). edited_tree t edit) at.tree

    -- and the old one is the state's
    old_tree : e.before ≡ m.tree
    old_tree = e.before_is ∙ at.tree

    -- the windows keep the colours of what they keep
    keeps_colours : KeepsColours client m
    keeps_colours = record {
      each = λ leaf w is from to small small'.
          presents-survive client m (subst Keep at.windows e.keeps) leaf w is (look m) from to small small';
    }
      where
        Keep : List (Present C) → Type 0
        Keep ws = (look : Look) (leaf : LeafId) (w : Present C) → slice_get ws leaf.0 ≡ Some w → KeepsPoints client look w

    -- the surface before and after
    surfaces : IsAlter client m edit old.surface new.surface
    surfaces = record {
      was = e.was;
      is = e.is;
      showing = (holding client m old at).shows;
      fits = fits client m forest at.sound;
      keeps = keeps_colours;
      tree = e.tree;
      kept = kept_by client old.windows;
      kept_is = ap (kept_by client) at.windows ∙ presents-keeping client m;
      bad = e.bad;
      pixels = e.pixels;
      old_sizes = subst (λ (t : Seen). (leaf : LeafId) → IsWindowSize (leaf_size t leaf)) e.before_is e.old_sizes;
      new_sizes = subst (λ (t : Seen). (leaf : LeafId) → IsWindowSize (leaf_size t leaf)) e.after_is e.new_sizes;
    }

    -- the windows after it are those of the altered state
    new_windows : new.windows ≡ presents client (altered client edit m)
    new_windows =
        e.windows
        ∙ ap (λ (t : Seen). cleared_from 0 t e.after old.windows) old_tree
        ∙ ap (λ (t : Seen). cleared_from 0 m.tree t old.windows) (e.after_is ∙ new_tree)
        ∙ ap (λ (ws : List (Present C)). cleared_from 0 m.tree (edited_tree m.tree edit) ws) at.windows
        ∙ sym (presents-altered client m edit)

    -- and so is what was sent, with the mail
    new_sending : record { mail = new.mail; sent = e.sent } ≡ mail.tree_edited m.tree (edited_tree m.tree edit) m.mail
    new_sending =
        e.sending
        ∙ ap (λ (t : Seen). mail.tree_edited t e.after old.mail) old_tree
        ∙ ap (λ (t : Seen). mail.tree_edited m.tree t old.mail) (e.after_is ∙ new_tree)
        ∙ ap (λ (x : Mails). mail.tree_edited m.tree (edited_tree m.tree edit) x) at.mail

    -- after an edit that isn't refused the parts are those of the next state
    pub edited_next : IsNext client opening lines (steps.Alter edit) new
    edited_next = record {
      forest = forest;
      obeys = tt;
      inboxes = subst (λ (n : State C M). length n.mail.inboxes ≡ length m.mail.inboxes) (sym altered_next)
          (edited-count m.tree (edited_tree m.tree edit) m.mail);
      holds = subst (λ (n : State C M). IsHolding client n new) (sym altered_next) (record {
        shows = alter_shows client m edit old.surface new.surface surfaces;
        windows = new_windows;
        mail = ap (λ (x : Sending). x.mail) new_sending;
      });
    }

    -- its line says that it is done, and has what was sent
    pub edited_line : (actor : Actor) (held : List Level) →
        line_of_step client m actor held (steps.Alter edit) ≡ alter_line actor held edit answers.Done e.sent
    edited_line actor held = rw (allowed, ← ap (λ (x : Sending). x.sent) new_sending) refl

  module _ {opening : List (Item C)} {lines : List (JournalLine M)} {old : Parts C} {fault : NodeFault} (edit : Edit)
      (stage : IsStage client opening lines old) (refused : refusal old.surface.tree.nodes edit ≡ Some fault) where
    -- the machine refuses it too
    refused_there : refusal (replay client opening lines).tree.nodes edit ≡ Some fault
    refused_there = subst (λ (t : Seen). refusal t.nodes edit ≡ Some fault) stage.kept.tree refused

    -- after an edit that is refused the parts are what they were
    pub refused_next : IsShown old.surface → IsNext client opening lines (steps.Alter edit) old
    refused_next was = record {
      forest = forest_at client stage.kept was.forest;
      obeys = tt;
      inboxes = subst (λ (n : State C M). length n.mail.inboxes ≡ length (replay client opening lines).mail.inboxes) (sym same) refl;
      holds = subst (λ (n : State C M). IsHolding client n old) (sym same) (holding client (replay client opening lines) old stage.kept);
    }
      where
        same : next client (replay client opening lines) (steps.Alter edit) ≡ replay client opening lines
        same = ap (λ (o : Option NodeFault). (edit_step client o edit (replay client opening lines)).state) refused_there

    -- its line has the fault
    pub refused_line : (actor : Actor) (held : List Level) →
        line_of_step client (replay client opening lines) actor held (steps.Alter edit) ≡ alter_line actor held edit (answers.Tree fault) []
    refused_line actor held = rw refused_there refl

  -- a stage with the line of an edit, made or refused, more
  pub altered_stage : {opening : List (Item C)} {lines : List (JournalLine M)} {edit : Edit} {old new : Parts C} {actor : Actor} {held : List Level} →
      {line : JournalLine M} → IsStage client opening lines old → IsFor {M = M} (tree_of opening).nodes actor held (steps.Alter edit) →
      IsNext client opening lines (steps.Alter edit) new → line_of_step client (replay client opening lines) actor held (steps.Alter edit) ≡ line →
      IsStage client opening (lines ++ line ∷ []) new
  altered_stage {opening} {lines} {edit} {old} {new} {actor} {held} stage is_for n line_is =
      subst (λ (l : JournalLine M). IsStage client opening (lines ++ l ∷ []) new) line_is
      (one_step client opening lines old new actor held (steps.Alter edit) stage is_for n)
