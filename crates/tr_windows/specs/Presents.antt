-- The windows as the program holds them: the present content of each, and the paint commands that wait for it.
use Rattle.std.specs.Prelude.{ℕ, suc, if◌then◌else◌, List, [], ◌∷◌, ◌++◌, Option, Some, None, slice_get}
use Rattle.std.specs.Option.{option_map}
use Rattle.tr_base.specs.declared.Size.{Size}
use Rattle.tr_base.specs.declared.LeafId.{LeafId}
use Rattle.tr_base.specs.Rects.{Edges, empty_rect, meet_of, whole_of}
use Rattle.tr_paint.specs.declared.Paint.{Paint}
use Rattle.tr_paint.specs.declared.Paint.TheVariants.{Spoil}
use Rattle.tr_paint.specs.Batches.{kept}
use Rattle.tr_paint.specs.Traces.{Look}
use Rattle.tr_client.specs.declared.clients.Client.{Ghosts}
use Rattle.tr_tree.specs.Trees.{Seen}
use Rattle.tr_spot.specs.Leaves.{leaf_size}
use Rattle.tr_surface.specs.TreeSteps.{WindowFacts}
use Rattle.tr_mail.specs.Deliveries.{is_reshaped}
use Rattle.tr_machine.specs.Windows.{Window, batch, content}
use Rattle.tr_machine.specs.States.{State, look}

-- a window as the program holds it: its present content, and the paint commands that wait for it
pub record Present (C : Type 0) : Type 0 where
  pub content : C
  pub batch : List Paint

-- a window with this content, for which no command waits
abbrev pub with_empty_batch : {C : Type 0} → C → Present C
with_empty_batch content = record { content = content; batch = [] }

-- the commands that wait for a window are dropped
abbrev pub without_batch : {C : Type 0} → Present C → Present C
without_batch w = with_empty_batch w.content

-- a part of a window of this size is marked: it must be painted again
abbrev pub mark_on : {C : Type 0} → Size → Edges → Present C → Present C
mark_on size clip w = record w { batch = w.batch ++ kept (Spoil (meet_of clip (whole_of size))) }

-- a window gets another content, and these commands wait after the ones that wait already
abbrev pub taken_over : {C : Type 0} → C → List Paint → Present C → Present C
taken_over content batch w = record { content = content; batch = w.batch ++ batch }

-- the commands that wait for a window are dropped if its size or the kind of its pixels changes
abbrev pub without_old_batch : {C : Type 0} → Seen → Seen → LeafId → Present C → Present C
without_old_batch was is leaf w = if is_reshaped was is leaf then without_batch w else w

-- the same for the windows of the leaves from this number on
abbrev pub cleared_from : {C : Type 0} → ℕ → Seen → Seen → List (Present C) → List (Present C)
cleared_from n was is [] = []
cleared_from n was is (w ∷ ws) = without_old_batch was is (record { 0 = n }) w ∷ cleared_from (suc n) was is ws

-- the content of a leaf's window, if there is such a leaf
abbrev pub content_at : {C : Type 0} → List (Present C) → LeafId → Option C
content_at ws leaf = option_map (λ w. w.content) (slice_get ws leaf.0)

-- the commands that wait for a window, if there is one
abbrev pub waiting_batch : {C : Type 0} → Option (Present C) → List Paint
waiting_batch None = []
waiting_batch (Some w) = w.batch

-- the commands that wait for a leaf's window
abbrev pub batch_at : {C : Type 0} → List (Present C) → LeafId → List Paint
batch_at ws leaf = waiting_batch (slice_get ws leaf.0)

module _ {C M : Type 0} (client : Ghosts C M) where
  -- a command changes the content of a window of this size, and its patch waits
  abbrev pub act_on : Look → Size → M → Present C → Present C
  act_on look size cmd w = record {
    content = client.next w.content cmd;
    batch = w.batch ++ client.patch look size w.content cmd;
  }

  -- the points that a window, if there is one, keeps when its size changes
  abbrev pub kept_in : Option (Present C) → Size → Size → Edges
  kept_in None from to = empty_rect
  kept_in (Some w) from to = client.keeps w.content from to

  -- the kept points and the waiting commands of the windows, for an edit of the tree
  abbrev pub kept_by : List (Present C) → WindowFacts
  kept_by ws = record {
    keeps = λ leaf from to. kept_in (slice_get ws leaf.0) from to;
    batch = λ leaf. batch_at ws leaf;
  }

  -- the program's window for a window of the machine, of this size
  abbrev pub present : Look → Size → Window C M → Present C
  present look size w = record { content = content client w; batch = batch client look size w }

  -- the program's windows of the leaves from this number on, each of its size in the tree
  abbrev pub presents_from : ℕ → Look → Seen → List (Window C M) → List (Present C)
  presents_from n look tree [] = []
  presents_from n look tree (w ∷ ws) =
      present look (leaf_size tree (record { 0 = n })) w ∷ presents_from (suc n) look tree ws

  -- the program's windows for all windows of a state
  abbrev pub presents : State C M → List (Present C)
  presents m = presents_from 0 (look m) m.tree m.windows
