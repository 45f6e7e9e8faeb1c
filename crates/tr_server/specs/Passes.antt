-- The model of a pass, and the actor of each pass of a session.
use Rattle.std.specs.Prelude.{◌≡◌, ℕ, ◌+◌, ◌<◌, ◌==◌, Bool, true, false, if◌then◌else◌, nat_lt, List, [], ◌∷◌, ◌++◌, length, slice_index_or, Result, OnOk, OnErr}
use Rattle.tr_base.specs.declared.LeafId.{LeafId}
use Rattle.tr_base.specs.declared.errors.NoMemory.{NoMemory}
use Rattle.tr_levels.specs.declared.Level.{Level}
use Rattle.tr_levels.specs.declared.Level.TheVariants.{Mu, Win}
use Rattle.tr_journal.specs.declared.steps.Actor.{Actor}
use Rattle.tr_journal.specs.declared.steps.Actor.TheVariants.{Leaf, Desk, Painter}
use Rattle.tr_journal.specs.declared.steps.Step.{Step}

-- a pass: its actor, the steps that the actor made with it, the number of commands posted with it since its last step under the tree's
-- lock, and the number of journal entries that it counts
pub record PassView (M : Type 0) : Type 0 where
  pub actor : Actor
  pub mine : List (Step M)
  pub posted : ℕ
  pub made : ℕ

-- a pass with which no step was made
abbrev pub fresh_pass : {M : Type 0} → Actor → PassView M
fresh_pass actor = record { actor = actor; mine = []; posted = 0; made = 0 }

-- a step is made with a pass: the pass has the step after its others, and counts one more entry; if memory runs out, it is unchanged
pub record CountsStep {M A : Type 0} (old new : PassView M) (step : Step M) (answered : Result A NoMemory) : Type 0 where
  pub mine : OnOk answered (new ≡ record old { mine = old.mine ++ step ∷ []; made = old.made + 1 })
  pub err : OnErr answered (new ≡ old)

-- a client's step under the tree's lock is made with a pass: the same, and no command was posted with the pass since
pub record CountsClientStep {M A : Type 0} (old new : PassView M) (step : Step M) (answered : Result A NoMemory) : Type 0 where
  pub mine : OnOk answered (new ≡ record old { mine = old.mine ++ step ∷ []; posted = 0; made = old.made + 1 })
  pub err : OnErr answered (new ≡ old)

-- the actor is the client of a leaf
abbrev pub is_client : Actor → Bool
is_client (Leaf leaf) = true
is_client actor = false

-- the actor of the worker's pass at this index: the leaves' clients by their numbers, then the desk, then the painter
abbrev pub worker : ℕ → ℕ → Actor
worker leaves i = if nat_lt i leaves then Leaf (record { 0 = i }) else if i == leaves then Desk else Painter

-- the workers' passes at the start of a session
pub record AreFresh {M : Type 0} (leaves : ℕ) (passes : List (PassView M)) : Type 0 where
  pub count : length passes ≡ leaves + 2
  pub fresh : (i : ℕ) (d : PassView M) → i < leaves + 2 → slice_index_or passes i d ≡ fresh_pass (worker leaves i)

-- the levels of a step that a client makes under the tree's lock
abbrev pub both_locks : LeafId → List Level
both_locks leaf = Mu ∷ Win leaf ∷ []
