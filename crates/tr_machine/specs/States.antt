-- The state of the machine.
use Rattle.std.specs.Prelude.{ℕ, zero, suc, Bool, if◌then◌else◌, List, [], ◌∷◌, Option, Some, None, map, slice_get}
use Rattle.std.specs.Option.{option_map}
use Rattle.tr_base.specs.declared.Point.{Point}
use Rattle.tr_base.specs.declared.LeafId.{LeafId}
use Rattle.tr_paint.specs.declared.Paint.{Paint}
use Rattle.tr_paint.specs.Traces.{Base, Look, look_of}
use Rattle.tr_exec.specs.Executions.{screen_point}
use Rattle.tr_client.specs.declared.clients.Client.{Ghosts}
use Rattle.tr_forest.specs.Nodes.{leaf_count}
use Rattle.tr_tree.specs.Trees.{Seen}
use Rattle.tr_spot.specs.Spots.{spot, is_in_leaf}
use Rattle.tr_spot.specs.Leaves.{leaf_corner, leaf_size}
use Rattle.tr_surface.specs.Surfaces.{is_on}
use Rattle.tr_mail.specs.Mails.{Mails, no_mail}
use Rattle.tr_journal.specs.declared.items.Item.{Item}
use Rattle.tr_journal.specs.Openings.{tree_of, font_of, contents_of}
use Rattle.tr_machine.specs.Windows as windows
use Rattle.tr_machine.specs.Windows.{Window, fresh}

-- the tree of windows, the font, the bad points of the screen, the input devices with the waiting events of each leaf, and the
-- windows of the leaves, by their numbers
pub record State (C M : Type 0) : Type 0 where
  pub tree : Seen
  pub font : List (List ℕ)
  pub bad : Point → Bool
  pub mail : Mails
  pub windows : List (Window C M)

-- the first state: every point of the screen is bad, no event and no command waits, and each window shows its first content
abbrev pub start : {C M : Type 0} → List (Item C) → State C M
start items = record {
  tree = tree_of items;
  font = font_of items;
  bad = is_on (tree_of items);
  mail = no_mail (leaf_count (tree_of items).nodes);
  windows = map fresh (contents_of items);
}

-- the look of a state: the kind of the pixels, and the font
abbrev pub look : {C M : Type 0} → State C M → Look
look m = look_of m.tree.kind m.font

-- the window of a leaf
abbrev pub window_of : {C M : Type 0} → State C M → LeafId → Option (Window C M)
window_of m leaf = slice_get m.windows leaf.0

-- a list with a change of the element after i others
abbrev pub changed_at : {A : Type 0} → ℕ → (A → A) → List A → List A
changed_at i change [] = []
changed_at zero change (x ∷ xs) = change x ∷ xs
changed_at (suc i) change (x ∷ xs) = x ∷ changed_at i change xs

-- the state with a change of a leaf's window
abbrev pub with_window : {C M : Type 0} → LeafId → (Window C M → Window C M) → State C M → State C M
with_window leaf change m = record m { windows = changed_at leaf.0 change m.windows }

module _ {C M : Type 0} (client : Ghosts C M) where
  -- the present content of a leaf
  abbrev pub content_of : State C M → LeafId → Option C
  content_of m leaf = option_map (windows.content client) (window_of m leaf)

  -- the batch of a window, if there is one
  abbrev pub batch_in : State C M → LeafId → Option (Window C M) → List Paint
  batch_in m leaf None = []
  batch_in m leaf (Some w) = windows.batch client (look m) (leaf_size m.tree leaf) w

  -- the paint commands that wait for a leaf
  abbrev pub leaf_batch : State C M → LeafId → List Paint
  leaf_batch m leaf = batch_in m leaf (window_of m leaf)

  -- the colour that a window shows at a point of it
  abbrev pub shown_at : State C M → LeafId → Point → Option ℕ
  shown_at m leaf q = option_map (λ w. client.pic (look m) (leaf_size m.tree leaf) w.shown q) (window_of m leaf)

  -- the base of a leaf's batch: its visible points, in its own coordinates, and the shown colour of those that aren't bad
  abbrev pub base : State C M → LeafId → Base
  base m leaf = record {
    visible = λ q. is_in_leaf leaf (spot m.tree (screen_point (leaf_corner m.tree leaf) q));
    known = λ q. if m.bad (screen_point (leaf_corner m.tree leaf) q) then None else shown_at m leaf q;
  }
