-- The step that edits the tree of windows.
use Rattle.std.specs.Prelude.{ℕ, suc, if◌then◌else◌, List, [], ◌∷◌, Option, Some, None}
use Rattle.tr_base.specs.declared.Size.{Size}
use Rattle.tr_base.specs.declared.LeafId.{LeafId}
use Rattle.tr_base.specs.Rects.{Edges, empty_rect}
use Rattle.tr_client.specs.declared.clients.Client.{Ghosts}
use Rattle.tr_forest.specs.declared.Edit.{Edit}
use Rattle.tr_tree.specs.Trees.{Seen, edited_tree}
use Rattle.tr_surface.specs.TreeSteps.{WindowFacts, bad_after_edit}
use Rattle.tr_mail.specs.Deliveries.{tree_edited, is_reshaped}
use Rattle.tr_machine.specs.Windows.{Window, content, updated}
use Rattle.tr_machine.specs.States.{State, leaf_batch, window_of}

module _ {C M : Type 0} (client : Ghosts C M) where
  -- the points that a window keeps when its size changes
  abbrev pub points_kept : Option (Window C M) → Size → Size → Edges
  points_kept None from to = empty_rect
  points_kept (Some w) from to = client.keeps (content client w) from to

  -- the points that the windows keep, and the commands that wait for them
  abbrev pub window_facts : State C M → WindowFacts
  window_facts m = record {
    keeps = λ leaf from to. points_kept (window_of m leaf) from to;
    batch = λ leaf. leaf_batch client m leaf;
  }

  -- a window whose size or kind of pixels changes shows its content from then on, and no command waits for it
  abbrev pub refitted : Seen → Seen → LeafId → Window C M → Window C M
  refitted old new leaf w = if is_reshaped old new leaf then updated client w else w

  -- the windows of the leaves from this number on
  abbrev pub refitted_from : ℕ → Seen → Seen → List (Window C M) → List (Window C M)
  refitted_from n old new [] = []
  refitted_from n old new (w ∷ ws) = refitted old new (record { 0 = n }) w ∷ refitted_from (suc n) old new ws

  -- an edit that isn't refused: the tree is the edited one, a point is good if it was good and shows the same as before, and the windows
  -- are told
  abbrev pub altered : Edit → State C M → State C M
  altered edit m =
      let new = edited_tree m.tree edit in
      record m {
        tree = new;
        bad = bad_after_edit (window_facts m) m.tree new edit m.bad;
        mail = (tree_edited m.tree new m.mail).mail;
        windows = refitted_from 0 m.tree new m.windows;
      }
