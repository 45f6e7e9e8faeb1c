-- Private contracts alone cite this file.
-- The steps of a part by their places in it, counted from 0.
use Rattle.std.specs.Prelude.{ℕ, ◌<◌, All, List, [], ◌∷◌, ◌++◌, get_or, map, replicate, set}
use Rattle.tr_journal.specs.declared.steps.Actor.{Actor}
use Rattle.tr_journal.specs.declared.steps.Actor.TheVariants.{Leaf, Desk, Painter, Player}
use Rattle.tr_journal.specs.declared.steps.Step.{Step}
use Rattle.tr_journal.specs.declared.steps.Step.TheVariants.{Sync}
use Rattle.tr_journal.specs.Lists.{ListsView}

-- the step at a place; a sync if there is none
abbrev pub step_at : {M : Type 0} → List (Actor × Step M) → ℕ → Step M
step_at made place = (get_or made place (Player, Sync)).1

-- the steps at these places
abbrev pub steps_at : {M : Type 0} → List (Actor × Step M) → List ℕ → List (Step M)
steps_at made places = map (step_at made) places

-- the model of the places of all actors' steps: the leaves' by their numbers, the desk's, and the player's
pub record PlacesView : Type 0 where
  pub leaves : List (List ℕ)
  pub desk : List ℕ
  pub player : List ℕ

-- no actor made a step
abbrev pub no_places : ℕ → PlacesView
no_places leaves = record { leaves = replicate leaves []; desk = []; player = [] }

-- the places of an actor's steps
abbrev pub step_places : PlacesView → Actor → List ℕ
step_places places (Leaf leaf) = get_or places.leaves leaf.0 []
step_places places Desk = places.desk
step_places places Painter = []
step_places places Player = places.player

-- the places with one more, after the others of its actor
abbrev pub with_place : PlacesView → Actor → ℕ → PlacesView
with_place places (Leaf leaf) place =
    record places { leaves = set places.leaves leaf.0 (get_or places.leaves leaf.0 [] ++ place ∷ []) }
with_place places Desk place = record places { desk = places.desk ++ place ∷ [] }
with_place places Painter place = places
with_place places Player place = record places { player = places.player ++ place ∷ [] }

-- all of these are places in a part of this number of steps
abbrev pub are_below : ℕ → List ℕ → Type 0
are_below steps places = All (λ place. place < steps) places

pub record AreWithin (steps : ℕ) (places : PlacesView) : Type 0 where
  pub leaves : All (are_below steps) places.leaves
  pub desk : are_below steps places.desk
  pub player : are_below steps places.player

-- the steps at the places, in one list for each actor
abbrev pub lists_at : {M : Type 0} → List (Actor × Step M) → PlacesView → ListsView M
lists_at made places = record {
  leaves = map (steps_at made) places.leaves;
  desk = steps_at made places.desk;
  player = steps_at made places.player;
}
