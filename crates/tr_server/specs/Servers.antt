-- The model of a server.
use Rattle.std.specs.Prelude.{◌≡◌, ℕ, ◌<◌, List, length, slice_index_or}
use Rattle.tr_base.specs.declared.LeafId.{LeafId}
use Rattle.tr_journal.specs.declared.items.Item.{Item}
use Rattle.tr_journal.specs.Journals.{JournalLine}

-- the start of a server: the opening of its stage, and the journal that the stage had
pub record ServerView (C M : Type 0) : Type 0 where
  pub opening : List (Item C)
  pub kept : List (JournalLine M)

-- the windows of this number of leaves, by the leaves' numbers
pub record AreLeavesInOrder (leaves : ℕ) (windows : List LeafId) : Type 0 where
  pub count : length windows ≡ leaves
  pub numbers : (i : ℕ) (d : LeafId) → i < leaves → slice_index_or windows i d ≡ record { 0 = i }
