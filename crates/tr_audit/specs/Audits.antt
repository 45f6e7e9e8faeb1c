-- The result of an audit of a journal: all but the opening.
use Rattle.std.specs.Prelude.{◌≡◌, ℕ, List, length, take, drop}
use Rattle.tr_journal.specs.declared.steps.Actor.{Actor}
use Rattle.tr_journal.specs.declared.entries.Entry.{Entry}
use Rattle.tr_journal.specs.declared.differences.Difference.{Difference}
use Rattle.tr_journal.specs.declared.differences.Apart.{Apart}
use Rattle.tr_journal.specs.declared.differences.Apart.TheVariants.{Opening, Kept, Own}
use Rattle.tr_journal.specs.Actors.{steps_by}
use Rattle.tr_journal.specs.Lists.{ListsView, HasList, list_of}
use Rattle.tr_journal.specs.Differences.{DifferIn, IsBefore}

module _ {M : Type 0} (lists : ListsView M) (later : List (Entry M)) where
  -- each actor that has a list made its steps
  abbrev pub HaveSameSteps : Type 0
  HaveSameSteps = (actor : Actor) → HasList (length lists.leaves) actor → list_of lists actor ≡ steps_by actor later

  -- the actor has a list, and each actor before it made the steps of its list
  pub record IsReached (actor : Actor) : Type 0 where
    pub listed : HasList (length lists.leaves) actor
    pub earlier : (other : Actor) → HasList (length lists.leaves) other → IsBefore other actor
        → list_of lists other ≡ steps_by other later

  -- the first step of an actor that isn't that of its list
  abbrev pub IsOwnApart : ℕ → Apart M → Type 0
  IsOwnApart place (Own actor x y) = IsReached actor × DifferIn (list_of lists actor) (steps_by actor later) place x y
  IsOwnApart place what = ⊥

  -- the same, for a difference
  abbrev pub IsOwnDifference : Difference M → Type 0
  IsOwnDifference d = IsOwnApart d.place d.what

module _ {M : Type 0} (kept : List (Entry M)) (lists : ListsView M) (found : List (Entry M)) where
  -- the kept entries are there, and after them each actor's steps
  pub record HasAllEntries : Type 0 where
    pub entries : kept ≡ take (length kept) found
    pub steps : HaveSameSteps lists (drop (length kept) found)

  -- the first difference: a kept entry, or else a step of an actor
  abbrev pub IsApart : ℕ → Apart M → Type 0
  IsApart place Opening = ⊥
  IsApart place (Kept x y) = DifferIn kept (take (length kept) found) place x y
  IsApart place (Own actor x y) =
      (kept ≡ take (length kept) found) × IsOwnApart lists (drop (length kept) found) place (Own actor x y)

  -- the first difference
  abbrev pub IsFirstFound : Difference M → Type 0
  IsFirstFound d = IsApart d.place d.what
