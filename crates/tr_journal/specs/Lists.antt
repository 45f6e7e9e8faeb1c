-- The steps of each actor, in lists of their own.
use Rattle.std.specs.Prelude.{ℕ, ◌<◌, ⊤, List, [], ◌∷◌, ◌++◌, get_or, set, replicate}
use Rattle.tr_journal.specs.declared.steps.Actor.{Actor}
use Rattle.tr_journal.specs.declared.steps.Actor.TheVariants.{Leaf, Desk, Painter, Player}
use Rattle.tr_journal.specs.declared.steps.Step.{Step}

-- the model of the lists: those of the leaves, by their numbers, and those of the desk and the player
pub record ListsView (M : Type 0) : Type 0 where
  pub leaves : List (List (Step M))
  pub desk : List (Step M)
  pub player : List (Step M)

-- no actor made a step
abbrev pub no_steps : {M : Type 0} → ℕ → ListsView M
no_steps leaves = record { leaves = replicate leaves []; desk = []; player = [] }

-- the actor has a list, with this number of leaves; the painter has none
abbrev pub HasList : ℕ → Actor → Type 0
HasList leaves (Leaf leaf) = leaf.0 < leaves
HasList leaves Desk = ⊤
HasList leaves Painter = ⊥
HasList leaves Player = ⊤

-- the steps of an actor
abbrev pub list_of : {M : Type 0} → ListsView M → Actor → List (Step M)
list_of lists (Leaf leaf) = get_or lists.leaves leaf.0 []
list_of lists Desk = lists.desk
list_of lists Painter = []
list_of lists Player = lists.player

-- the lists with these steps in place of an actor's steps
abbrev pub with_list : {M : Type 0} → ListsView M → Actor → List (Step M) → ListsView M
with_list lists (Leaf leaf) steps = record lists { leaves = set lists.leaves leaf.0 steps }
with_list lists Desk steps = record lists { desk = steps }
with_list lists Painter steps = lists
with_list lists Player steps = record lists { player = steps }

-- the lists with one more step, after the others of its actor
abbrev pub with_step : {M : Type 0} → ListsView M → Actor → Step M → ListsView M
with_step lists actor step = with_list lists actor (list_of lists actor ++ step ∷ [])
