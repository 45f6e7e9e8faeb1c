-- Private contracts alone cite this file.
-- Properties of the windows of a stage.
use Rattle.std.specs.Prelude.{◌≡◌, Some}
use Rattle.tr_base.specs.declared.LeafId.{LeafId}
use Rattle.tr_client.specs.declared.Client.{Ghosts}
use Rattle.tr_client.specs.Laws.{IsWindowSize}
use Rattle.tr_spot.specs.Leaves.{leaf_size}
use Rattle.tr_machine.specs.States.{State, content_of}

-- the content of a leaf, if there is one, is valid, and its window has the size of one
pub record IsPaintable {C M : Type 0} (client : Ghosts C M) (m : State C M) (leaf : LeafId) : Type 0 where
  pub content : (x : C) → content_of client m leaf ≡ Some x → client.valid x
  pub window : IsWindowSize (leaf_size m.tree leaf)
