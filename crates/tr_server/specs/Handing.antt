-- A stage after a window's waiting commands are handed over.
use Rattle.std.specs.Prelude.{◌≡◌, List, [], ◌∷◌, ◌++◌}
use Rattle.tr_base.specs.declared.LeafId.{LeafId}
use Rattle.tr_client.specs.declared.clients.Client.{Ghosts}
use Rattle.tr_levels.specs.declared.Level.{Level}
use Rattle.tr_levels.specs.Levels.{HaveLevels}
use Rattle.tr_journal.specs.declared.answers.Reply.{Reply}
use Rattle.tr_journal.specs.declared.steps.Actor.TheVariants.{Leaf}
use Rattle.tr_journal.specs.declared.steps.Step.{Step}
use Rattle.tr_machine.specs.CommandSteps.{act_steps}
use Rattle.tr_machine.specs.Replays.{lines_by}
use Rattle.tr_stage.specs.Stages.{StageView, line, state}
use Rattle.tr_server.specs.Passes.{both_locks}

module _ {C M : Type 0} (client : Ghosts C M) where
  -- the stage after commands of a leaf's client are handed over: it makes each of them, in their order, at the command's level and
  -- the window's
  abbrev pub with_acts : StageView C M → LeafId → List M → List (List Level) → StageView C M
  with_acts s leaf commands levels =
      record s { journal = s.journal ++ lines_by client (Leaf leaf) (state client s) (act_steps leaf commands levels) }

  -- commands of a leaf's client were handed over, and no other step was made
  pub record HandedOver (leaf : LeafId) (old new : StageView C M) : Type 0 where
    pub commands : List M
    pub levels : List (List Level)
    pub have_levels : HaveLevels commands levels
    pub journal : new.journal ≡ (with_acts old leaf commands levels).journal

  -- commands of a leaf's client were handed over, and then it made a step, with this reply
  pub record HandedAndStepped (leaf : LeafId) (step : Step M) (reply : Reply) (old new : StageView C M) : Type 0 where
    pub commands : List M
    pub levels : List (List Level)
    pub have_levels : HaveLevels commands levels
    pub journal : let mid = with_acts old leaf commands levels in
        new.journal ≡ mid.journal ++ line client mid (Leaf leaf) (both_locks leaf) step ∷ []
    pub replied : let mid = with_acts old leaf commands levels in
        reply ≡ (line client mid (Leaf leaf) (both_locks leaf) step).entry.reply
