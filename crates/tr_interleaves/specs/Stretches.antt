-- Lines of a journal while the parts of a script are played one after another.
use Rattle.std.specs.Prelude.{◌≡◌, ⊤, false, List, [], ◌∷◌, map}
use Rattle.tr_client.specs.declared.clients.Client.{Ghosts}
use Rattle.tr_journal.specs.declared.steps.Actor.TheVariants.{Player}
use Rattle.tr_journal.specs.declared.steps.Query.{Query}
use Rattle.tr_journal.specs.declared.steps.Step.TheVariants.{Report}
use Rattle.tr_journal.specs.Actors.{is_maker}
use Rattle.tr_journal.specs.Journals.{JournalLine}
use Rattle.tr_journal.specs.Parts.{Part}
use Rattle.tr_machine.specs.States.{State}
use Rattle.tr_interleaves.specs.Interleaves.{steps_in, is_sync, stretches, IsStretch, AreStretches, AreDumpsSettled}

-- no line is a leaf's or the desk's
abbrev pub HasNoMaker : {M : Type 0} → List (JournalLine M) → Type 0
HasNoMaker [] = ⊤
HasNoMaker (line ∷ lines) = (is_maker line.entry.actor ≡ false) × HasNoMaker lines

-- no line is a sync
abbrev pub HasNoSync : {M : Type 0} → List (JournalLine M) → Type 0
HasNoSync [] = ⊤
HasNoSync (line ∷ lines) = (is_sync line.entry.step ≡ false) × HasNoSync lines

module _ {C M : Type 0} (client : Ghosts C M) where
  -- the lines are the player's reports and the painter's, and end no part
  pub record AreReports (m : State C M) (queries : List Query) (lines : List (JournalLine M)) : Type 0 where
    pub makers : HasNoMaker lines
    pub syncs : HasNoSync lines
    pub player : steps_in Player lines ≡ map Report queries
    pub dumps : AreDumpsSettled client m lines

  -- the lines are those of a part, without the sync before it
  pub record IsPart (m : State C M) (part : Part M) (lines : List (JournalLine M)) : Type 0 where
    pub stretch : IsStretch part lines
    pub syncs : HasNoSync lines
    pub dumps : AreDumpsSettled client m lines

  -- the lines are those of parts in a row
  pub record AreParts (m : State C M) (parts : List (Part M)) (lines : List (JournalLine M)) : Type 0 where
    pub stretches : AreStretches parts (stretches lines)
    pub dumps : AreDumpsSettled client m lines
