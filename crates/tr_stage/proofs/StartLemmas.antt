-- A stage before any step.
use Rattle.std.proofs.Common.{◌≡◌, List, [], map, refl, sym, ap, ◌∙◌}
use Rattle.std.proofs.Math.ListN.{length-replicate}
use Rattle.tr_base.specs.declared.Point.{Point}
use Rattle.tr_client.specs.declared.clients.Client.{Ghosts}
use Rattle.tr_forest.specs.Nodes.{leaf_count}
use Rattle.tr_tree.specs.Trees.{Seen}
use Rattle.tr_surface.specs.Surfaces.{Shown, IsShown, is_on, is_bad}
use Rattle.tr_mail.specs.Mails.{no_mail}
use Rattle.tr_journal.specs.declared.items.Item.{Item}
use Rattle.tr_journal.specs.Openings.{IsOpened, contents_of, tree_of}
use Rattle.tr_machine.specs.States.{start}
use Rattle.tr_machine.proofs.ShownLemmas.{IsShowing}
use Rattle.tr_machine.proofs.SoundLemmas.{sound_start}
use Rattle.tr_machine.proofs.StillLemmas.{start_shows}
use Rattle.tr_windows.specs.Presents.{with_empty_batch}
use Rattle.tr_windows.proofs.PresentLemmas.{presents-start}
use Rattle.tr_stage.specs.Stages.{IsStage, Parts}

-- the surface is the one that a stage begins with: the opening's tree, of which every point is bad
pub record IsBlank {C : Type 0} (items : List (Item C)) (s : Shown) : Type 0 where
  pub shown : IsShown s
  pub tree : s.tree ≡ tree_of items
  pub bad : (p : Point) → is_bad s p ≡ is_on (tree_of items) p

module _ {C M : Type 0} (client : Ghosts C M) where
  -- the parts of a stage before any step
  pub starts : {items : List (Item C)} {parts : Parts C} → IsOpened client items → IsBlank items parts.surface →
      parts.windows ≡ map with_empty_batch (contents_of items) → parts.mail ≡ no_mail (leaf_count (tree_of items).nodes) → IsStage client items [] parts
  starts {items = items} {parts = parts} opened blank windows mail = record {
    kept = record {
      tree = shows.tree;
      bad = shows.bad;
      windows = windows ∙ sym (presents-start client items);
      mail = mail;
      sound = sound_start client items opened.leaves;
      agrees = shows.agrees;
    };
    like = record { font = refl; nodes = refl; leaves = refl; inboxes = length-replicate (leaf_count (tree_of items).nodes) _ };
    legal = tt;
  }
    where
      shows : IsShowing client (start items) parts.surface
      shows =
          start_shows client items parts.surface blank.shown blank.tree
          (λ p. blank.bad p ∙ ap (λ (t : Seen). is_on t p) (sym blank.tree))
