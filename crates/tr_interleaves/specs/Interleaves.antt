-- The journals that the parts of a script may lead to while many actors take turns.
use Rattle.std.specs.Prelude.{◌≡◌, ⊤, Bool, true, false, if◌then◌else◌, List, [], ◌∷◌, ◌++◌, map}
use Rattle.tr_base.specs.declared.Point.{Point}
use Rattle.tr_base.specs.declared.LeafId.{LeafId}
use Rattle.tr_client.specs.declared.clients.Client.{Ghosts}
use Rattle.tr_journal.specs.declared.items.Item.{Item}
use Rattle.tr_journal.specs.declared.steps.Actor.{Actor}
use Rattle.tr_journal.specs.declared.steps.Actor.TheVariants as actors
use Rattle.tr_journal.specs.declared.steps.Query.TheVariants.{Dump}
use Rattle.tr_journal.specs.declared.steps.Step.{Step}
use Rattle.tr_journal.specs.declared.steps.Step.TheVariants.{Sync, Report}
use Rattle.tr_journal.specs.Actors.{entries_of, is_maker, steps_by, steps_of}
use Rattle.tr_journal.specs.Journals.{JournalLine}
use Rattle.tr_journal.specs.Parts.{Part}
use Rattle.tr_machine.specs.States.{State, leaf_batch, start}
use Rattle.tr_machine.specs.Replays.{next}

-- the steps that an actor made in some lines of a journal, in their order
abbrev pub steps_in : {M : Type 0} → Actor → List (JournalLine M) → List (Step M)
steps_in actor lines = steps_by actor (entries_of lines)

-- ---- stretches

-- the step ends a part of a script
abbrev pub is_sync : {M : Type 0} → Step M → Bool
is_sync Sync = true
is_sync step = false

-- lines cut at each sync; the first piece begins with the lines `before`
abbrev pub stretches_from : {M : Type 0} → List (JournalLine M) → List (JournalLine M) → List (List (JournalLine M))
stretches_from before [] = before ∷ []
stretches_from before (line ∷ lines) =
    if is_sync line.entry.step then before ∷ stretches_from [] lines else stretches_from (before ++ line ∷ []) lines

-- the stretches of a journal: its lines, cut at each sync, which is in none of them
abbrev pub stretches : {M : Type 0} → List (JournalLine M) → List (List (JournalLine M))
stretches lines = stretches_from [] lines

-- no line of the player comes after a line of a leaf or of the desk
abbrev pub IsPlayerFirst : {M : Type 0} → List (JournalLine M) → Type 0
IsPlayerFirst [] = ⊤
IsPlayerFirst (line ∷ lines) =
    (is_maker line.entry.actor ≡ true → steps_in actors.Player lines ≡ []) × IsPlayerFirst lines

-- A stretch of a journal is one of a part: the steps of each leaf and of the desk are those of the part, each once and in their order; the
-- player's are the part's reports, in their order, and come before all of those. The painter's may come anywhere.
pub record IsStretch {M : Type 0} (part : Part M) (lines : List (JournalLine M)) : Type 0 where
  pub steps : (actor : Actor) → is_maker actor ≡ true → steps_in actor lines ≡ steps_of actor part.steps
  pub reports : steps_in actors.Player lines ≡ map Report part.reports
  pub first : IsPlayerFirst lines

-- there are as many stretches as parts, and each is one of its part
abbrev pub AreStretches : {M : Type 0} → List (Part M) → List (List (JournalLine M)) → Type 0
AreStretches [] [] = ⊤
AreStretches (part ∷ parts) (lines ∷ more) = IsStretch part lines × AreStretches parts more
AreStretches parts more = ⊥

-- ---- dumps

module _ {C M : Type 0} (client : Ghosts C M) where
  -- no point of the screen is bad, and no paint command waits
  pub record IsSettled (m : State C M) : Type 0 where
    pub good : (p : Point) → m.bad p ≡ false
    pub batches : (leaf : LeafId) → leaf_batch client m leaf ≡ []

  -- from a state on, the screen is settled at each dump
  abbrev pub AreDumpsSettled : State C M → List (JournalLine M) → Type 0
  AreDumpsSettled m [] = ⊤
  AreDumpsSettled m (line ∷ lines) =
      (line.entry.step ≡ Report Dump → IsSettled m) × AreDumpsSettled (next client m line.entry.step) lines

  -- A journal interleaves the parts of a script: its stretches are theirs, one by one, and the screen is settled at each dump.
  pub record Interleaves (items : List (Item C)) (parts : List (Part M)) (lines : List (JournalLine M)) : Type 0 where
    pub stretches : AreStretches parts (stretches lines)
    pub dumps : AreDumpsSettled (start items) lines
