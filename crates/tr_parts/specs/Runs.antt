-- The effect of parts on a run.
use Rattle.std.specs.Prelude.{◌≡◌, ℕ, Bool, if◌then◌else◌, List, [], ◌∷◌}
use Rattle.tr_client.specs.declared.clients.Client.{Ghosts}
use Rattle.tr_journal.specs.declared.steps.Actor.TheVariants.{Player}
use Rattle.tr_journal.specs.declared.steps.Query.{Query}
use Rattle.tr_journal.specs.declared.steps.Step.TheVariants.{Sync}
use Rattle.tr_journal.specs.Journals.{JournalLine}
use Rattle.tr_journal.specs.Parts.{Part}
use Rattle.tr_interleaves.specs.Stretches.{AreReports, AreParts, IsPart}
use Rattle.tr_stage.specs.Stages.{state}
use Rattle.tr_run.specs.declared.modes.Mode.TheVariants.{Serial}
use Rattle.tr_run.specs.Runs.{makes}
use Rattle.tr_run.specs.Views.{AddsLines, Does, RunView}

-- a run before its first step
pub record IsNewRun {C M : Type 0} (a : RunView C M) : Type 0 where
  pub journal : a.stage.journal ≡ []
  pub mode : a.mode ≡ Serial
  pub text : a.text ≡ []

module _ {C M : Type 0} (client : Ghosts C M) (words : M → List ℕ) where
  -- reports were made
  pub record HasReported (old new : RunView C M) (queries : List Query) : Type 0 where
    pub lines : List (JournalLine M)
    pub adds : AddsLines client words old new lines
    pub are : AreReports client (state client old.stage) queries lines

  -- a part was begun, a later one with a sync, and its reports were made
  pub record HasBegunPart (old new : RunView C M) (is_later : Bool) (queries : List Query) : Type 0 where
    pub begun : RunView C M
    pub sync : Does client words old begun (if is_later then makes Player Sync ∷ [] else [])
    pub reported : HasReported begun new queries

  -- a part was played
  pub record HasPlayedPart (old new : RunView C M) (part : Part M) : Type 0 where
    pub lines : List (JournalLine M)
    pub adds : AddsLines client words old new lines
    pub is : IsPart client (state client old.stage) part lines

  -- the next part was played, and before a later one a sync was made
  pub record HasPlayedNext (old new : RunView C M) (is_later : Bool) (part : Part M) : Type 0 where
    pub begun : RunView C M
    pub sync : Does client words old begun (if is_later then makes Player Sync ∷ [] else [])
    pub rest : HasPlayedPart begun new part

  -- one part or more were played
  pub record HasPlayedSome (old new : RunView C M) (parts : List (Part M)) : Type 0 where
    pub lines : List (JournalLine M)
    pub adds : AddsLines client words old new lines
    pub are : AreParts client (state client old.stage) parts lines

  -- parts were played, or nothing was done yet
  abbrev pub HasPlayedParts : RunView C M → RunView C M → List (Part M) → Type 0
  HasPlayedParts old new [] = AddsLines client words old new []
  HasPlayedParts old new (part ∷ parts) = HasPlayedSome old new (part ∷ parts)
