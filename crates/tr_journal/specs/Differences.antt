-- The comparison of an audit, and the first difference that it finds.
use Rattle.std.specs.Prelude.{◌≡◌, ℕ, ◌-◌, ◌<◌, ⊤, List, Option, length, take, drop, slice_get}
use Rattle.tr_journal.specs.declared.items.Item.{Item}
use Rattle.tr_journal.specs.declared.steps.Actor.{Actor}
use Rattle.tr_journal.specs.declared.steps.Actor.TheVariants.{Leaf, Desk, Player}
use Rattle.tr_journal.specs.declared.steps.Step.{Step}
use Rattle.tr_journal.specs.declared.entries.Entry.{Entry}
use Rattle.tr_journal.specs.declared.differences.Difference.{Difference}
use Rattle.tr_journal.specs.declared.differences.Apart.{Apart}
use Rattle.tr_journal.specs.declared.differences.Apart.TheVariants.{Opening, Kept, Own}
use Rattle.tr_journal.specs.Actors.{entries_of, steps_by}
use Rattle.tr_journal.specs.Journals.{JournalLine}
use Rattle.tr_journal.specs.Lists.{ListsView, HasList, list_of}
use Rattle.tr_journal.specs.Openings.{DifferAt}

-- an account of a run: the items of its opening, and its entries
pub record Account (C M : Type 0) : Type 0 where
  pub opening : List (Item C)
  pub entries : List (Entry M)

-- the account that an opening and a journal give
abbrev pub account_of : {C M : Type 0} → List (Item C) → List (JournalLine M) → Account C M
account_of opening lines = record { opening = opening; entries = entries_of lines }

-- two lists differ first at this place, counted from 1; these are their elements there, if they have any
pub record DifferIn {A : Type 0} (xs ys : List A) (place : ℕ) (x y : Option A) : Type 0 where
  pub first : DifferAt xs ys place
  pub made : slice_get xs (place - 1) ≡ x
  pub found : slice_get ys (place - 1) ≡ y

-- an actor comes before another: leaves by their numbers, then the desk, then the player
abbrev pub IsBefore : Actor → Actor → Type 0
IsBefore (Leaf a) (Leaf b) = a.0 < b.0
IsBefore (Leaf a) Desk = ⊤
IsBefore (Leaf a) Player = ⊤
IsBefore Desk Player = ⊤
IsBefore a b = ⊥

-- A kept account and the steps that each actor made since, compared with the account that was found.
module _ {C M : Type 0} (kept : Account C M) (lists : ListsView M) (found : Account C M) where
  -- the first entries that were found, as many as were kept
  abbrev pub kept_found : List (Entry M)
  kept_found = take (length kept.entries) found.entries

  -- the steps of an actor that were found after these entries
  abbrev pub steps_found : Actor → List (Step M)
  steps_found actor = steps_by actor (drop (length kept.entries) found.entries)

  -- Nothing differs. The painter has no list, and deliveries are no part of an entry.
  pub record Matches : Type 0 where
    pub opening : kept.opening ≡ found.opening
    pub entries : kept.entries ≡ kept_found
    pub steps : (actor : Actor) → HasList (length lists.leaves) actor → list_of lists actor ≡ steps_found actor

  -- nothing differs before the steps of this actor, which has a list
  pub record MatchesBefore (actor : Actor) : Type 0 where
    pub listed : HasList (length lists.leaves) actor
    pub opening : kept.opening ≡ found.opening
    pub entries : kept.entries ≡ kept_found
    pub steps : (other : Actor) → HasList (length lists.leaves) other → IsBefore other actor → list_of lists other ≡ steps_found other

  -- the first difference, and its place: first the openings' items are compared, then the kept entries, then the steps of one actor after
  -- another
  abbrev pub IsFirstApart : ℕ → Apart M → Type 0
  IsFirstApart place Opening = DifferAt kept.opening found.opening place
  IsFirstApart place (Kept x y) = (kept.opening ≡ found.opening) × DifferIn kept.entries kept_found place x y
  IsFirstApart place (Own actor x y) = MatchesBefore actor × DifferIn (list_of lists actor) (steps_found actor) place x y

  -- the first difference
  abbrev pub IsFirstDiffering : Difference M → Type 0
  IsFirstDiffering d = IsFirstApart d.place d.what
