-- The steps of many actors, in one list for each actor.
use Rattle.std.specs.Prelude.{◌≡◌, ℕ, All, List, length}
use Rattle.tr_journal.specs.declared.steps.Actor.{Actor}
use Rattle.tr_journal.specs.declared.steps.Step.{Step}
use Rattle.tr_journal.specs.Actors.{steps_of}
use Rattle.tr_journal.specs.Lists.{ListsView, HasList, list_of}

-- each actor of these steps has a list
abbrev pub HaveLists : {M : Type 0} → ℕ → List (Actor × Step M) → Type 0
HaveLists leaves steps = All (λ made. HasList leaves made.0) steps

-- there is a list for each leaf, and each list has its actor's steps, in their order
pub record AreListed {M : Type 0} (leaves : ℕ) (made : List (Actor × Step M)) (lists : ListsView M) : Type 0 where
  pub count : length lists.leaves ≡ leaves
  pub steps : (actor : Actor) → HasList leaves actor → list_of lists actor ≡ steps_of actor made
