-- The model of a stage that differs from a session's passes.
use Rattle.std.specs.Prelude.{List}
use Rattle.tr_journal.specs.declared.items.Item.{Item}
use Rattle.tr_journal.specs.declared.differences.Difference.{Difference}
use Rattle.tr_journal.specs.Differences.{IsFirstDiffering, account_of}
use Rattle.tr_journal.specs.Journals.{JournalLine}
use Rattle.tr_journal.specs.Lists.{ListsView}
use Rattle.tr_stage.specs.Stages.{StageView}

-- a stage, the opening and journal with which its server began, the steps of each pass, and the first difference between the stage and
-- these
pub record DiffersView (C M : Type 0) : Type 0 where
  pub difference : Difference M
  pub stage : StageView C M
  pub opening : List (Item C)
  pub kept : List (JournalLine M)
  pub lists : ListsView M

-- it is the first difference between the stage and the rest
abbrev pub IsDifference : {C M : Type 0} → DiffersView C M → Type 0
IsDifference d = IsFirstDiffering (account_of d.opening d.kept) d.lists (account_of d.stage.opening d.stage.journal) d.difference
