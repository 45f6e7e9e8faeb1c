-- Private contracts alone cite this file.
-- The effect on a stage of many actors that take turns.
use Rattle.std.specs.Prelude.{◌≡◌, true, List, [], ◌++◌}
use Rattle.tr_forest.specs.Nodes.{Nodes}
use Rattle.tr_journal.specs.declared.steps.Actor.{Actor}
use Rattle.tr_journal.specs.declared.steps.Actor.TheVariants.{Player}
use Rattle.tr_journal.specs.declared.steps.Step.{Step}
use Rattle.tr_journal.specs.Actors.{is_maker, steps_of}
use Rattle.tr_journal.specs.Journals.{JournalLine}
use Rattle.tr_journal.specs.Steps.{IsOwn}
use Rattle.tr_interleaves.specs.Interleaves.{steps_in}
use Rattle.tr_stage.specs.Stages.{StageView}

-- a step of a part: it is the desk's or a leaf's own
pub record IsPartStep {M : Type 0} (t : Nodes) (made : Actor × Step M) : Type 0 where
  pub maker : is_maker made.0 ≡ true
  pub own : IsOwn t made.0 made.1

-- From one stage to the next the steps of each leaf and of the desk were made, each once and in its actor's order, and none by the player.
-- The painter may have made some, too.
pub record HasRun {C M : Type 0} (s n : StageView C M) (steps : List (Actor × Step M)) : Type 0 where
  pub lines : List (JournalLine M)
  pub opening : n.opening ≡ s.opening
  pub journal : n.journal ≡ s.journal ++ lines
  pub made : (actor : Actor) → is_maker actor ≡ true → steps_in actor lines ≡ steps_of actor steps
  pub player : steps_in Player lines ≡ []
