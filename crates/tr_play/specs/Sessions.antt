-- Private contracts alone cite this file.
-- A session and the lists that its workers got.
use Rattle.std.specs.Prelude.{◌≡◌, ℕ, ◌<◌, true, List, length, slice_index_or}
use Rattle.tr_journal.specs.Actors.{is_maker}
use Rattle.tr_journal.specs.Lists.{ListsView, list_of}
use Rattle.tr_stage.specs.Stages.{StageView}
use Rattle.tr_server.specs.Differing.{DiffersView, IsDifference}
use Rattle.tr_server.specs.Passes.{PassView}

-- an actor made all steps of its list; the painter has no list
abbrev pub IsWhole : {M : Type 0} → PassView M → ListsView M → Type 0
IsWhole pass lists = is_maker pass.actor ≡ true → length pass.mine ≡ length (list_of lists pass.actor)

-- each actor made all steps of its list
abbrev pub AreWhole : {M : Type 0} → List (PassView M) → ListsView M → Type 0
AreWhole {M} passes lists = (i : ℕ) (d : PassView M) → i < length passes → IsWhole (slice_index_or passes i d) lists

-- a session's difference: it has the opening and journal with which the session began, the lists that the workers got, and the first
-- difference
pub record IsLeft {C M : Type 0} (s : StageView C M) (lists : ListsView M) (d : DiffersView C M) : Type 0 where
  pub opening : d.opening ≡ s.opening
  pub kept : d.kept ≡ s.journal
  pub lists_are : d.lists ≡ lists
  pub first : IsDifference d
