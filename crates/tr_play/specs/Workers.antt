-- Private contracts alone cite this file.
-- The work of a worker with its pass.
use Rattle.std.specs.Prelude.{◌≡◌, ℕ, ◌<◌, ⊤, Bool, true, false, All, List, [], ◌∷◌, ◌++◌, length, slice_index_or, take, Result, OnOk, OnErr}
use Rattle.tr_base.specs.declared.errors.NoMemory.{NoMemory}
use Rattle.tr_forest.specs.Nodes.{Nodes}
use Rattle.tr_journal.specs.declared.steps.Actor.{Actor}
use Rattle.tr_journal.specs.declared.steps.Actor.TheVariants as actors
use Rattle.tr_journal.specs.declared.steps.Step.{Step}
use Rattle.tr_journal.specs.declared.steps.Step.TheVariants as steps
use Rattle.tr_journal.specs.Actors.{is_maker}
use Rattle.tr_journal.specs.Lists.{ListsView, list_of}
use Rattle.tr_parts.specs.Turns.{IsPartStep}
use Rattle.tr_server.specs.Passes.{PassView}

-- the actor is a worker, in a part with this number of leaves
abbrev pub IsWorker : ℕ → Actor → Type 0
IsWorker leaves (actors.Leaf leaf) = leaf.0 < leaves
IsWorker leaves actors.Desk = ⊤
IsWorker leaves actors.Painter = ⊤
IsWorker leaves actors.Player = ⊥

-- a step is a command of a client
abbrev pub is_command : {M : Type 0} → Step M → Bool
is_command (steps.Act leaf cmd) = true
is_command step = false

-- none of these steps is a command
abbrev pub AreNoCommands : {M : Type 0} → List (Step M) → Type 0
AreNoCommands list = All (λ step. is_command step ≡ false) list

-- a step is made with a pass, whose actor stays: the pass has the step after its others; if memory runs out, it has the same steps
pub record AddsStep {M A : Type 0} (before after : PassView M) (step : Step M) (answered : Result A NoMemory) : Type 0 where
  pub actor : after.actor ≡ before.actor
  pub mine : OnOk answered (after.mine ≡ before.mine ++ step ∷ [])
  pub err : OnErr answered (after.mine ≡ before.mine)

-- some first steps of a list were made with a pass
pub record HasWorked {M : Type 0} (before after : PassView M) (list : List (Step M)) : Type 0 where
  pub steps : ℕ
  pub actor : after.actor ≡ before.actor
  pub mine : after.mine ≡ before.mine ++ take steps list

-- some first steps of the actor's list were made with its pass, if the pass is a leaf's or the desk's
pub record HasTaken {M : Type 0} (lists : ListsView M) (before after : PassView M) : Type 0 where
  pub actor : after.actor ≡ before.actor
  pub worked : is_maker before.actor ≡ true → HasWorked before after (list_of lists before.actor)

-- the steps of each list can be made by its actor
abbrev pub AreReady : {M : Type 0} → Nodes → ListsView M → Type 0
AreReady t lists = (actor : Actor) → is_maker actor ≡ true → All (λ step. IsPartStep t (actor, step)) (list_of lists actor)

-- these are the passes of workers, at least one, and the steps of each list can be made by its actor
abbrev pub CanWork : {M : Type 0} → Nodes → ListsView M → List (PassView M) → Type 0
CanWork t lists passes = (0 < length passes) × All (λ pass. IsWorker (length lists.leaves) pass.actor) passes × AreReady t lists

-- each of some passes made its actor's steps, or some first ones of them
abbrev pub HaveTaken : {M : Type 0} → ListsView M → List (PassView M) → List (PassView M) → Type 0
HaveTaken {M} lists before after = (length after ≡ length before)
    × ((i : ℕ) (d : PassView M) → i < length before → HasTaken lists (slice_index_or before i d) (slice_index_or after i d))
