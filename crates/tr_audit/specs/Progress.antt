-- Private contracts alone cite this file.
-- An audit goes once through the entries after the kept ones. For each actor it knows how many of the steps so
-- far are those of its list.
use Rattle.std.specs.Prelude.{◌≡◌, ◌≢◌, ℕ, ◌+◌, ◌<◌, ◌≤◌, ◌⊎◌, ◌==◌, nat_lt, if◌then◌else◌, List, []}
use Rattle.std.specs.Prelude.{◌∷◌, ◌++◌, Option, Some, None, take, drop, length, slice_get, get_or}
use Rattle.std.specs.Option.{ForSome, option_map}
use Rattle.tr_journal.specs.declared.steps.Actor.{Actor}
use Rattle.tr_journal.specs.declared.steps.Actor.TheVariants.{Leaf, Desk, Painter, Player}
use Rattle.tr_journal.specs.declared.steps.Step.{Step}
use Rattle.tr_journal.specs.declared.entries.Entry.{Entry}
use Rattle.tr_audit.specs.declared.progress.Progress.{Progress}
use Rattle.tr_journal.specs.declared.differences.Apart.TheVariants.{Own}
use Rattle.tr_journal.specs.Lists.{ListsView, HasList, list_of}
use Rattle.tr_journal.specs.Actors.{steps_by}
use Rattle.tr_audit.specs.Audits.{IsOwnApart}

-- the place of an actor with a list, in this order: leaves by their numbers, desk, player
abbrev pub rank_of : ℕ → Actor → Option ℕ
rank_of leaves (Leaf leaf) = if nat_lt leaf.0 leaves then Some leaf.0 else None
rank_of leaves Desk = Some leaves
rank_of leaves Painter = None
rank_of leaves Player = Some (leaves + 1)

-- the actor at a place of that order
abbrev pub actor_at : ℕ → ℕ → Actor
actor_at leaves rank =
    if nat_lt rank leaves then Leaf (record { 0 = rank }) else (if rank == leaves then Desk else Player)

-- the step of the entry after the given number of others, if there is one
abbrev pub step_found : {M : Type 0} → List (Entry M) → Option ℕ → Option (Step M)
step_found entries None = None
step_found entries (Some k) = option_map (λ e. e.step) (slice_get entries k)

-- no step was made
abbrev pub no_progress : Progress
no_progress = record { same = 0; apart = None }

-- the entries after the first `from`, up to the first `k`
abbrev pub entries_between : {M : Type 0} → ℕ → ℕ → List (Entry M) → List (Entry M)
entries_between from k entries = drop from (take k entries)

module _ {M : Type 0} (list : List (Step M)) where
  -- the steps that an actor made are the first ones of its list
  pub record AreFirst (steps : List (Step M)) (same : ℕ) : Type 0 where
    pub within : same ≤ length list
    pub first : take same list ≡ steps

  -- the first `same` steps agree, and the next one is `step`, which isn't that of the list
  pub record StopsAt (steps : List (Step M)) (same : ℕ) (step : Option (Step M)) : Type 0 where
    pub within : same < length steps
    pub before : take same list ≡ take same steps
    pub there : slice_get steps same ≡ step
    pub apart : slice_get list same ≢ slice_get steps same

  -- the progress of an actor's steps: they are the first ones of its list, or the step of the entry after `k`
  -- others isn't the list's
  abbrev pub IsUpTo : List (Step M) → List (Entry M) → ℕ → Option ℕ → Type 0
  IsUpTo steps entries same None = AreFirst steps same
  IsUpTo steps entries same (Some k) = StopsAt steps same (step_found entries (Some k))

  -- the same, for a progress
  abbrev pub IsProgress : List (Step M) → List (Entry M) → Progress → Type 0
  IsProgress steps entries progress = IsUpTo steps entries progress.same progress.apart

  -- if the old progress holds for some steps, the new one holds for them and the step of the entry after `k`
  -- others
  abbrev pub IsNextProgress : List (Entry M) → ℕ → Progress → Progress → Type 0
  IsNextProgress entries k old new =
      (steps : List (Step M)) (e : Entry M) → slice_get entries k ≡ Some e
      → IsProgress steps entries old → IsProgress (steps ++ e.step ∷ []) entries new

  -- all steps of the list were made, and no other ones
  pub record IsThrough (progress : Progress) : Type 0 where
    pub apart : progress.apart ≡ None
    pub all : progress.same ≡ length list

module _ {M : Type 0} (lists : ListsView M) where
  -- the list of the actor with this rank
  abbrev pub list_at : ℕ → List (Step M)
  list_at rank = list_of lists (actor_at (length lists.leaves) rank)

  -- the steps of the actor with this rank among these entries
  abbrev pub steps_of_rank : ℕ → List (Entry M) → List (Step M)
  steps_of_rank rank entries = steps_by (actor_at (length lists.leaves) rank) entries

  -- the progress of each actor with a list, by its rank, up to the first `k` entries
  pub record AreFollowed (entries : List (Entry M)) (from k : ℕ) (progress : List Progress) : Type 0 where
    pub count : length progress ≡ length lists.leaves + 2
    pub each : (rank : ℕ) → rank < length lists.leaves + 2
        → IsProgress (list_at rank) (steps_of_rank rank (entries_between from k entries)) entries
        (get_or progress rank no_progress)

  -- each actor with a rank below this made all steps of its list, and no other ones
  abbrev pub AreThrough : List Progress → ℕ → Type 0
  AreThrough progress count =
      (rank : ℕ) → rank < count → IsThrough (list_at rank) (get_or progress rank no_progress)

  -- the actor with this rank is the first that didn't
  pub record IsApartFirst (progress : List Progress) (rank : ℕ) : Type 0 where
    pub within : rank < length progress
    pub earlier : AreThrough progress rank
    pub apart : IsThrough (list_at rank) (get_or progress rank no_progress) → ⊥

  -- the actor is the first one apart, and the progress has the number of steps that agree and the entry that differs
  pub record IsApartAt (entries : List (Entry M)) (from : ℕ) (actor : Actor) (progress : Progress) : Type 0 where
    pub listed : HasList (length lists.leaves) actor
    pub apart : IsOwnApart lists (drop from entries) (progress.same + 1)
        (Own actor (slice_get (list_of lists actor) progress.same) (step_found entries progress.apart))
    pub entry : ForSome progress.apart (λ k. k < length entries)
    pub within : (progress.same < length (list_of lists actor)) ⊎ (progress.same < length entries)
