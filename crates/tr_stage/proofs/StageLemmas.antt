-- A stage after one step more.
use Rattle.std.proofs.Common.{◌≡◌, List, [], ◌∷◌, ◌++◌, sym, subst, ◌∙◌}
use Rattle.std.specs.Prelude.{length}
use Rattle.tr_client.specs.declared.clients.Client.{Ghosts}
use Rattle.tr_forest.specs.Forests.{IsForest}
use Rattle.tr_levels.specs.declared.Level.{Level}
use Rattle.tr_journal.specs.declared.items.Item.{Item}
use Rattle.tr_journal.specs.declared.steps.Actor.{Actor}
use Rattle.tr_journal.specs.declared.steps.Step.{Step}
use Rattle.tr_journal.specs.Journals.{JournalLine}
use Rattle.tr_journal.specs.Openings.{tree_of}
use Rattle.tr_journal.specs.Steps.{IsStep, IsFor}
use Rattle.tr_machine.specs.States.{State}
use Rattle.tr_machine.specs.Promises.{IsSound}
use Rattle.tr_machine.specs.Replays.{line_of_step, next, replay}
use Rattle.tr_machine.proofs.JournalLemmas.{legal_line, one_more, replay-more}
use Rattle.tr_machine.proofs.KeptLemmas.{IsKept, kept_next, step_along}
use Rattle.tr_machine.proofs.SoundLemmas.{IsObedient, sound_next}
use Rattle.tr_machine.proofs.ShownLemmas.{IsShowing}
use Rattle.tr_windows.specs.Presents.{presents}
use Rattle.tr_stage.specs.Stages.{RepresentsState, IsOf, IsStage, Parts}

module _ {C M : Type 0} (client : Ghosts C M) where
  -- the parts are those of a state: the surface shows it, and the windows and the mail are its own
  pub record IsHolding (m : State C M) (parts : Parts C) : Type 0 where
    pub shows : IsShowing client m parts.surface
    pub windows : parts.windows ≡ presents client m
    pub mail : parts.mail ≡ m.mail

  -- the parts of a stage are those of its state
  pub holding : (m : State C M) (parts : Parts C) → RepresentsState client m parts → IsHolding m parts
  holding m parts is = record {
    shows = record { tree = is.tree; bad = is.bad; agrees = is.agrees };
    windows = is.windows;
    mail = is.mail;
  }

  -- the numbers of a step that is made are those of the present tree
  pub values_now : (opening : List (Item C)) (lines : List (JournalLine M)) (parts : Parts C) (step : Step M) →
      IsStage client opening lines parts → IsStep (tree_of opening).nodes step → IsStep (replay client opening lines).tree.nodes step
  values_now opening lines parts step is values =
      step_along (tree_of opening).nodes (replay client opening lines).tree.nodes (record { nodes = is.like.nodes; leaves = is.like.leaves }) step values

  -- what becomes of a state and of the parts in a step: the next state is sound, with as many inboxes, and the parts are its own
  pub record IsMade (m next : State C M) (parts : Parts C) : Type 0 where
    pub forest : IsForest m.tree.nodes
    pub sound : IsSound client next
    pub inboxes : length next.mail.inboxes ≡ length m.mail.inboxes
    pub holds : IsHolding next parts

  -- one line more: a stage whose parts were made by a step has the step's line more
  pub one_line : {opening : List (Item C)} {lines : List (JournalLine M)} {old new : Parts C} {actor : Actor} {held : List Level} {step : Step M} →
      IsStage client opening lines old → IsFor (tree_of opening).nodes actor held step →
      IsMade (replay client opening lines) (next client (replay client opening lines) step) new →
      IsStage client opening (lines ++ line_of_step client (replay client opening lines) actor held step ∷ []) new
  one_line {opening = opening} {lines = lines} {old = old} {new = new} {actor = actor} {held = held} {step = step} is for n = record {
    kept = subst (λ (m : State C M). RepresentsState client m new) (sym after) at;
    like = subst (λ (m : State C M). IsOf opening m) (sym after) like;
    legal =
        one_more client opening lines (line_of_step client before actor held step) is.legal
        (legal_line client (tree_of opening).nodes before actor held step for);
  }
    where
      before : State C M
      before = replay client opening lines

      after : replay client opening (lines ++ line_of_step client before actor held step ∷ []) ≡ next client before step
      after = replay-more client opening lines (line_of_step client before actor held step)

      kept : IsKept client before (next client before step)
      kept = kept_next client before step n.forest (values_now opening lines old step is for.own.values)

      at : RepresentsState client (next client before step) new
      at = record {
        tree = n.holds.shows.tree;
        bad = n.holds.shows.bad;
        windows = n.holds.windows;
        mail = n.holds.mail;
        sound = n.sound;
        agrees = n.holds.shows.agrees;
      }

      like : IsOf opening (next client before step)
      like = record {
        font = kept.font ∙ is.like.font;
        nodes = kept.nodes ∙ is.like.nodes;
        leaves = kept.leaves ∙ is.like.leaves;
        inboxes = n.inboxes ∙ is.like.inboxes;
      }

  -- what the next parts hold, over a step of the stage
  pub record IsNext (opening : List (Item C)) (lines : List (JournalLine M)) (step : Step M) (parts : Parts C) : Type 0 where
    pub forest : IsForest (replay client opening lines).tree.nodes
    pub obeys : IsObedient client (replay client opening lines) step
    pub inboxes : length (next client (replay client opening lines) step).mail.inboxes ≡ length (replay client opening lines).mail.inboxes
    pub holds : IsHolding (next client (replay client opening lines) step) parts

  -- one step more: a stage whose parts are those of the next state has the step's line more
  pub one_step : (opening : List (Item C)) (lines : List (JournalLine M)) (old new : Parts C) (actor : Actor) (held : List Level) (step : Step M) →
      IsStage client opening lines old → IsFor (tree_of opening).nodes actor held step → IsNext opening lines step new →
      IsStage client opening (lines ++ line_of_step client (replay client opening lines) actor held step ∷ []) new
  one_step opening lines old new actor held step is for n = one_line is for (record {
    forest = n.forest;
    sound = sound_next client m step n.forest (values_now opening lines old step is for.own.values) is.kept.sound n.obeys;
    inboxes = n.inboxes;
    holds = n.holds;
  })
    where
      m : State C M
      m = replay client opening lines
