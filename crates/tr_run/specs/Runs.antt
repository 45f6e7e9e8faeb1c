-- The cues of a run, and the lines of the journal that they make.
use Rattle.std.specs.Prelude.{List, [], ◌∷◌, ◌++◌}
use Rattle.tr_client.specs.declared.clients.Client.{Ghosts}
use Rattle.tr_journal.specs.declared.steps.Actor.{Actor}
use Rattle.tr_journal.specs.declared.steps.Actor.TheVariants.{Player}
use Rattle.tr_journal.specs.declared.steps.Query.{Query}
use Rattle.tr_journal.specs.declared.steps.Query.TheVariants as queries
use Rattle.tr_journal.specs.declared.steps.Step.{Step}
use Rattle.tr_journal.specs.declared.steps.Step.TheVariants as steps
use Rattle.tr_journal.specs.Journals.{JournalLine}
use Rattle.tr_journal.specs.Steps.{stated}
use Rattle.tr_machine.specs.States.{State}
use Rattle.tr_machine.specs.Replays.{line_of_step, replay_from}
use Rattle.tr_machine.specs.SettleSteps.{settling_lines}

-- a cue of a run: an actor makes a step, holding exactly the step's levels, or the painter settles the stage
pub data Cue (M : Type 0) : Type 0 where
  makes : Actor → Step M → Cue M
  settles : Cue M

-- a report is the player's step; the screen is settled before it is dumped
abbrev pub reporting : {M : Type 0} → Query → List (Cue M)
reporting queries.Dump = settles ∷ makes Player (steps.Report queries.Dump) ∷ []
reporting query = makes Player (steps.Report query) ∷ []

module _ {C M : Type 0} (client : Ghosts C M) where
  -- the lines that a cue makes
  abbrev pub cue_lines : State C M → Cue M → List (JournalLine M)
  cue_lines m (makes actor step) = line_of_step client m actor (stated step) step ∷ []
  cue_lines m settles = settling_lines client m

  -- the lines that cues in a row make
  abbrev pub run_lines : State C M → List (Cue M) → List (JournalLine M)
  run_lines m [] = []
  run_lines m (cue ∷ cues) =
      let lines = cue_lines m cue in
      lines ++ run_lines (replay_from client m lines) cues
