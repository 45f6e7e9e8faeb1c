-- The steps that paint: a command, a mark, a flush, a repaint, and the frames.
use Rattle.std.specs.Prelude.{Bool, not, ◌&&◌, if◌then◌else◌, is_none}
use Rattle.tr_base.specs.declared.Point.{Point}
use Rattle.tr_base.specs.declared.LeafId.{LeafId}
use Rattle.tr_base.specs.Rects.{Edges}
use Rattle.tr_exec.specs.Executions.{colour_after}
use Rattle.tr_client.specs.declared.clients.Client.{Ghosts}
use Rattle.tr_spot.specs.Spots.{spot, is_in_leaf}
use Rattle.tr_spot.specs.Leaves.{leaf_corner}
use Rattle.tr_surface.specs.Surfaces.{is_frame}
use Rattle.tr_machine.specs.Windows.{Command, Mark, updated, with_change}
use Rattle.tr_machine.specs.States.{State, base, leaf_batch, look, with_window}

-- a client's command changes its leaf's content, and its paint commands wait
abbrev pub acted : {C M : Type 0} → LeafId → M → State C M → State C M
acted leaf cmd m = with_window leaf (with_change (Command cmd)) m

-- a part of a leaf's window must be painted again
abbrev pub marked : {C M : Type 0} → LeafId → Edges → State C M → State C M
marked leaf clip m = with_window leaf (with_change (Mark clip)) m

-- a point of the screen is a visible point of the leaf
abbrev pub is_visible : {C M : Type 0} → State C M → LeafId → Point → Bool
is_visible m leaf p = is_in_leaf leaf (spot m.tree p)

module _ {C M : Type 0} (client : Ghosts C M) where
  -- a leaf's batch is executed: a visible point of it is bad then if its colour isn't known after the batch
  abbrev pub flushed : LeafId → State C M → State C M
  flushed leaf m = record (with_window leaf (updated client) m) {
    bad = λ p.
        if is_visible m leaf p then
        is_none (colour_after (look m) (base client m leaf) (leaf_batch client m leaf) (leaf_corner m.tree leaf) p)
        else m.bad p;
  }

  -- a leaf's batch is executed, and then each bad visible point of the leaf is painted
  abbrev pub repainted : LeafId → State C M → State C M
  repainted leaf m =
      let done = flushed leaf m in
      record done { bad = λ p. done.bad p && not (is_visible done leaf p) }

-- each bad point of a frame gets its colour
abbrev pub framed : {C M : Type 0} → State C M → State C M
framed m = record m { bad = λ p. m.bad p && not (is_frame (spot m.tree p)) }
