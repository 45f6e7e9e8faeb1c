-- What the parts of a stage tell of its state.
use Rattle.std.proofs.Common.{◌≡◌, ℕ, ◌<◌, List, length, sym, ap, subst, ◌∙◌}
use Rattle.tr_base.specs.declared.LeafId.{LeafId}
use Rattle.tr_screen.specs.Pictures.{Picture}
use Rattle.tr_client.specs.declared.clients.Client.{Ghosts}
use Rattle.tr_forest.specs.Nodes.{leaf_count}
use Rattle.tr_forest.specs.Forests.{IsForest}
use Rattle.tr_tree.specs.Trees.{Seen}
use Rattle.tr_desk.specs.Desks.{Devices}
use Rattle.tr_mail.specs.Mails.{Mails, IsMail}
use Rattle.tr_levels.specs.declared.Level.{Level}
use Rattle.tr_journal.specs.declared.items.Item.{Item}
use Rattle.tr_journal.specs.declared.steps.Actor.{Actor}
use Rattle.tr_journal.specs.declared.steps.Step.{Step}
use Rattle.tr_journal.specs.Journals.{JournalLine}
use Rattle.tr_journal.specs.Openings.{tree_of}
use Rattle.tr_journal.specs.Steps.{IsFor}
use Rattle.tr_machine.specs.States.{State, leaf_batch, content_of}
use Rattle.tr_machine.specs.Promises.{Fits, Lags}
use Rattle.tr_machine.specs.Replays.{replay}
use Rattle.tr_machine.proofs.LagLemmas.{lags}
use Rattle.tr_machine.proofs.SoundLemmas.{fits}
use Rattle.tr_windows.specs.Presents.{Present, batch_at, content_at}
use Rattle.tr_windows.proofs.PresentLemmas.{presents-batch, presents-content, presents-length}
use Rattle.tr_stage.specs.Stages.{RepresentsState, IsStage, KeepsOthers, Parts, StageView, state}

-- a step that is for its actor to make, by what the stage shows of its opening
pub seen_for : {C M : Type 0} {v w : StageView C M} {actor : Actor} {held : List Level} {step : Step M} → v ≡ w →
    IsFor (tree_of v.opening).nodes actor held step → IsFor (tree_of w.opening).nodes actor held step
seen_for {C = C} {M = M} {actor = actor} {held = held} {step = step} same allowed =
    subst (λ (u : StageView C M). IsFor (tree_of u.opening).nodes actor held step) same allowed

module _ {C M : Type 0} (client : Ghosts C M) where
  -- ---- one state

  -- the nodes of a state are a forest, if those of the surface are
  pub forest_at : {m : State C M} {parts : Parts C} → RepresentsState client m parts → IsForest parts.surface.tree.nodes → IsForest m.tree.nodes
  forest_at is forest = subst (λ (t : Seen). IsForest t.nodes) is.tree forest

  -- the content of a leaf
  pub content_at_leaf : {m : State C M} {parts : Parts C} (leaf : LeafId) → RepresentsState client m parts →
      content_at parts.windows leaf ≡ content_of client m leaf
  content_at_leaf {m = m} leaf is = ap (λ (ws : List (Present C)). content_at ws leaf) is.windows ∙ presents-content client m leaf

  -- what waits for a leaf
  pub batch_at_leaf : {m : State C M} {parts : Parts C} (leaf : LeafId) → RepresentsState client m parts →
      batch_at parts.windows leaf ≡ leaf_batch client m leaf
  batch_at_leaf {m = m} leaf is = ap (λ (ws : List (Present C)). batch_at ws leaf) is.windows ∙ presents-batch client m leaf

  -- the state fits
  pub fits_at : {m : State C M} {parts : Parts C} → RepresentsState client m parts → IsForest parts.surface.tree.nodes → Fits client m
  fits_at {m = m} is forest = fits client m (forest_at is forest) is.sound

  -- the screen lags behind only in the bad region, and where a waiting command paints
  pub lags_at : {m : State C M} {parts : Parts C} → RepresentsState client m parts → IsForest parts.surface.tree.nodes → Lags client m parts.surface.screen
  lags_at {m = m} {parts = parts} is forest = lags client m parts.surface.screen (forest_at is forest) (fits_at is forest) is.agrees

  -- ---- a stage

  -- there are as many windows as leaves
  pub windows_count : {opening : List (Item C)} {lines : List (JournalLine M)} {parts : Parts C} → IsStage client opening lines parts →
      length parts.windows ≡ leaf_count (tree_of opening).nodes
  windows_count {opening = opening} {lines = lines} is =
      ap (λ (ws : List (Present C)). length ws) is.kept.windows
      ∙ presents-length client (replay client opening lines) ∙ is.kept.sound.windows ∙ is.like.leaves

  -- as many leaves in the tree
  pub leaves_count : {opening : List (Item C)} {lines : List (JournalLine M)} {parts : Parts C} → IsStage client opening lines parts →
      leaf_count parts.surface.tree.nodes ≡ leaf_count (tree_of opening).nodes
  leaves_count is = ap (λ (t : Seen). leaf_count t.nodes) is.kept.tree ∙ is.like.leaves

  -- and as many inboxes
  pub inboxes_count : {opening : List (Item C)} {lines : List (JournalLine M)} {parts : Parts C} → IsStage client opening lines parts →
      length parts.mail.inboxes ≡ leaf_count (tree_of opening).nodes
  inboxes_count is = ap (λ (m : Mails). length m.inboxes) is.kept.mail ∙ is.like.inboxes

  -- a leaf of the opening has a window
  pub has_window : {opening : List (Item C)} {lines : List (JournalLine M)} {parts : Parts C} {leaf : LeafId} → IsStage client opening lines parts →
      leaf.0 < leaf_count (tree_of opening).nodes → leaf.0 < length parts.windows
  has_window {leaf = leaf} is within = subst (λ (n : ℕ). leaf.0 < n) (sym (windows_count is)) within

  -- so has a leaf that the desk knows
  pub known_window : {opening : List (Item C)} {lines : List (JournalLine M)} {parts : Parts C} {devices : Devices} {leaf : LeafId} →
      IsStage client opening lines parts → IsMail parts.mail → devices ≡ parts.mail.desk → leaf.0 < length devices.leaves → leaf.0 < length parts.windows
  known_window {parts = parts} {devices = devices} {leaf = leaf} is mail same within = subst (λ (n : ℕ). leaf.0 < n) many within
    where
      many : length devices.leaves ≡ length parts.windows
      many = ap (λ (d : Devices). length d.leaves) same ∙ sym mail.leaves ∙ inboxes_count is ∙ sym (windows_count is)

  -- what a step leaves of the screen, by the tree that the stage shows
  pub kept_others : {v w : StageView C M} {parts : Parts C} (step : Step M) (new : Picture) → v ≡ w → IsStage client v.opening v.journal parts →
      KeepsOthers parts.surface.tree step v.screen new → KeepsOthers (state client w).tree step w.screen new
  kept_others {v = v} step new same is keeps =
      subst (λ (u : StageView C M). KeepsOthers (state client u).tree step u.screen new) same
      (subst (λ (t : Seen). KeepsOthers t step v.screen new) is.kept.tree keeps)
