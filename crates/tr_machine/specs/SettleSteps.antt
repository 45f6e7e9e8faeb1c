-- The steps after which no command waits and no point is bad.
use Rattle.std.specs.Prelude.{ℕ, zero, suc, Bool, not, ◌&&◌, ◌||◌, ◌==◌, if◌then◌else◌, List, [], ◌∷◌, ◌++◌, length}
use Rattle.tr_base.specs.declared.LeafId.{LeafId}
use Rattle.tr_client.specs.declared.clients.Client.{Ghosts}
use Rattle.tr_spot.specs.Spots.{spot}
use Rattle.tr_surface.specs.Surfaces.{is_frame}
use Rattle.tr_surface.specs.Counts.{any_on}
use Rattle.tr_levels.specs.declared.Level.TheVariants.{Mu}
use Rattle.tr_journal.specs.declared.steps.Actor.TheVariants.{Painter}
use Rattle.tr_journal.specs.declared.steps.Step.{Step}
use Rattle.tr_journal.specs.declared.steps.Step.TheVariants.{Repaint, PaintFrame}
use Rattle.tr_journal.specs.Journals.{JournalLine}
use Rattle.tr_machine.specs.States.{State, leaf_batch}
use Rattle.tr_machine.specs.Paintings.{is_visible}
use Rattle.tr_machine.specs.Replays.{lines_of_steps}

-- a point of a frame is bad
abbrev pub is_frame_bad : {C M : Type 0} → State C M → Bool
is_frame_bad m = any_on m.tree.size (λ p. m.bad p && is_frame (spot m.tree p))

-- the frames are painted, if a point of one is bad
abbrev pub frame_steps : {C M : Type 0} → State C M → List (Step M)
frame_steps m = if is_frame_bad m then PaintFrame ∷ [] else []

module _ {C M : Type 0} (client : Ghosts C M) where
  -- a paint command waits for the leaf, or a visible point of it is bad
  abbrev pub is_unsettled : State C M → LeafId → Bool
  is_unsettled m leaf =
      not (length (leaf_batch client m leaf) == 0) || any_on m.tree.size (λ p. m.bad p && is_visible m leaf p)

  -- a leaf is repainted, if it is unsettled
  abbrev pub repaint_steps : State C M → LeafId → List (Step M)
  repaint_steps m leaf = if is_unsettled m leaf then Repaint leaf ∷ [] else []

  -- each unsettled one of the first n leaves is repainted, in the order of their numbers
  abbrev pub repaints_below : ℕ → State C M → List (Step M)
  repaints_below zero m = []
  repaints_below (suc n) m = repaints_below n m ++ repaint_steps m (record { 0 = n })

  -- each unsettled leaf is repainted, then the frames are painted
  abbrev pub settling : State C M → List (Step M)
  settling m = repaints_below (length m.windows) m ++ frame_steps m

  -- the lines that settle a state: the painter's, under the tree's lock
  abbrev pub settling_lines : State C M → List (JournalLine M)
  settling_lines m = lines_of_steps client Painter (Mu ∷ []) m (settling m)
