-- The steps that bring a screen up to date by shares, and a leaf's bad points that were painted apart from the screen.
use Rattle.std.specs.Prelude.{◌≡◌, ℕ, zero, suc, ◌==◌, Bool, true, not, ◌&&◌, if◌then◌else◌, List, [], ◌∷◌, ◌++◌, map, length, slice_index}
use Rattle.tr_base.specs.declared.Point.{Point}
use Rattle.tr_base.specs.declared.LeafId.{LeafId}
use Rattle.tr_base.specs.Rects.{Edges}
use Rattle.tr_region.specs.Areas.{total_area}
use Rattle.tr_region.specs.Places.{place_in}
use Rattle.tr_region.specs.Points.{holds}
use Rattle.tr_client.specs.declared.clients.Client.{Ghosts}
use Rattle.tr_surface.specs.Counts.{any_on}
use Rattle.tr_levels.specs.declared.Level.{Level}
use Rattle.tr_levels.specs.declared.Level.TheVariants.{Mu, Share}
use Rattle.tr_journal.specs.declared.steps.Actor.TheVariants.{Painter}
use Rattle.tr_journal.specs.declared.steps.Step.{Step}
use Rattle.tr_journal.specs.declared.steps.Step.TheVariants.{Flush, Repaint}
use Rattle.tr_journal.specs.Journals.{JournalLine}
use Rattle.tr_machine.specs.States.{State, leaf_batch}
use Rattle.tr_machine.specs.Paintings.{is_visible}
use Rattle.tr_machine.specs.Pictures.{want}
use Rattle.tr_machine.specs.Replays.{after_steps, lines_by, under}
use Rattle.tr_machine.specs.SettleSteps.{frame_steps}

-- the region has the leaf's bad visible points, and each of the pixels is the colour that its point must have
pub record IsPaintedOf {C M : Type 0} (client : Ghosts C M) (m : State C M) (leaf : LeafId) (part : List Edges) (pixels : List ℕ) :
    Type 0 where
  pub points : (p : Point) → holds part p ≡ (m.bad p && is_visible m leaf p)
  pub many : length pixels ≡ total_area part
  pub colours : (p : Point) → holds part p ≡ true → slice_index pixels (place_in part p) ≡ want client m p

-- a visible point of the leaf is bad
abbrev pub has_bad : {C M : Type 0} → State C M → LeafId → Bool
has_bad m leaf = any_on m.tree.size (λ p. m.bad p && is_visible m leaf p)

-- those of the first n leaves that have a bad visible point, in the order of their numbers
abbrev pub bad_leaves : {C M : Type 0} → ℕ → State C M → List LeafId
bad_leaves zero m = []
bad_leaves (suc n) m = bad_leaves n m ++ (if has_bad m (record { 0 = n }) then record { 0 = n } ∷ [] else [])

-- all leaves with a bad visible point
abbrev pub all_bad_leaves : {C M : Type 0} → State C M → List LeafId
all_bad_leaves m = bad_leaves (length m.windows) m

-- each of these leaves is repainted, with only its share held
abbrev pub at_shares : {M : Type 0} → List LeafId → List (List Level × Step M)
at_shares leaves = map (λ leaf. (Share leaf ∷ [], Repaint leaf)) leaves

module _ {C M : Type 0} (client : Ghosts C M) where
  -- a paint command waits for the leaf
  abbrev pub waits : State C M → LeafId → Bool
  waits m leaf = not (length (leaf_batch client m leaf) == 0)

  -- each of the first n leaves for which a command waits is flushed, in the order of their numbers
  abbrev pub flushes_below : ℕ → State C M → List (Step M)
  flushes_below zero m = []
  flushes_below (suc n) m = flushes_below n m ++ (if waits m (record { 0 = n }) then Flush (record { 0 = n }) ∷ [] else [])

  -- each leaf for which a command waits is flushed
  abbrev pub flushing : State C M → List (Step M)
  flushing m = flushes_below (length m.windows) m

  -- the state after these leaves are repainted
  abbrev pub repainted_each : State C M → List LeafId → State C M
  repainted_each m leaves = after_steps client m (map Repaint leaves)

  -- the lines of these repaints, each with only the leaf's share held
  abbrev pub share_lines : State C M → List LeafId → List (JournalLine M)
  share_lines m leaves = lines_by client Painter m (at_shares leaves)

  -- the steps that bring a screen up to date by shares: waiting commands are flushed, then each leaf with a bad point is repainted with
  -- only its share held, then the frames are painted, if a point of one is bad
  abbrev pub sharing : State C M → List (List Level × Step M)
  sharing m =
      let after_flushes = after_steps client m (flushing m) in
      let after_repaints = repainted_each after_flushes (all_bad_leaves after_flushes) in
      under (Mu ∷ []) (flushing m) ++ (at_shares (all_bad_leaves after_flushes) ++ under (Mu ∷ []) (frame_steps after_repaints))
