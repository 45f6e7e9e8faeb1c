-- The steps that leave the screen as it is, and the start: the surface shows the next state too.
use Rattle.std.proofs.Common.{◌≡◌, List, Option, Some, None, ◌⊎◌, inl, inr, refl, sym, ap, ◌∙◌}
use Rattle.std.specs.Option.{option_map}
use Rattle.std.proofs.lemmas.Bool.{cases_eq}
use Rattle.tr_base.specs.declared.Point.{Point}
use Rattle.tr_base.specs.declared.LeafId.{LeafId}
use Rattle.tr_base.specs.Rects.{Edges}
use Rattle.tr_base.proofs.RectLemmas.{false-true}
use Rattle.tr_client.specs.declared.clients.Client.{Ghosts}
use Rattle.tr_tree.specs.Trees.{Seen}
use Rattle.tr_spot.specs.Spots.{spot}
use Rattle.tr_surface.specs.Surfaces.{Shown, IsShown, is_on, is_bad}
use Rattle.tr_mail.specs.Mails.{Mails}
use Rattle.tr_journal.specs.declared.items.Item.{Item}
use Rattle.tr_journal.specs.Openings.{tree_of}
use Rattle.tr_machine.specs.Windows.{Window, Command, Mark, with_change}
use Rattle.tr_machine.specs.States.{State, start, window_of, with_window}
use Rattle.tr_machine.specs.Paintings.{acted, marked}
use Rattle.tr_machine.specs.Pictures.{shown, shown_of}
use Rattle.tr_machine.proofs.ListLemmas.{window_here, window_there}
use Rattle.tr_machine.proofs.ShownLemmas.{IsShowing, colour_same}

module _ {C M : Type 0} (client : Ghosts C M) where
  -- something is made of a window that leaves what it shows
  pub window_shows : (m : State C M) (s : Shown) (leaf : LeafId) (change : Window C M → Window C M) → ((w : Window C M) → (change w).shown ≡ w.shown) →
      IsShowing client m s → IsShowing client (with_window leaf change m) s
  window_shows m s leaf change keeps is = record {
    tree = is.tree;
    bad = is.bad;
    agrees = record {
      size = is.agrees.size;
      kind = is.agrees.kind;
      good = λ p on good. is.agrees.good p on good ∙ sym (same p);
    };
  }
    where
      by_window : (o : Option (Window C M)) → option_map (λ w. w.shown) (option_map change o) ≡ option_map (λ w. w.shown) o
      by_window None = refl
      by_window (Some w) = ap (λ (x : C). Some x) (keeps w)

      by_leaf : (other : LeafId) → (leaf.0 ≡ other.0) ⊎ (leaf.0 ≡ other.0 → ⊥) → shown_of (with_window leaf change m) other ≡ shown_of m other
      by_leaf other (inl here) =
          ap (λ (o : Option (Window C M)). option_map (λ w. w.shown) o) (window_here leaf other change m here) ∙ by_window (window_of m other)
      by_leaf other (inr apart) = ap (λ (o : Option (Window C M)). option_map (λ w. w.shown) o) (window_there leaf other change m apart)

      same : (p : Point) → shown client (with_window leaf change m) p ≡ shown client m p
      same p =
          colour_same client (shown_of m) (shown_of (with_window leaf change m)) m (with_window leaf change m) (spot m.tree p) refl
          (λ other here. by_leaf other (cases_eq leaf.0 other.0))

  -- a command leaves the screen
  pub act_shows : (m : State C M) (s : Shown) (leaf : LeafId) (cmd : M) → IsShowing client m s → IsShowing client (acted leaf cmd m) s
  act_shows m s leaf cmd is = window_shows m s leaf (with_change (Command cmd)) (λ w. refl) is

  -- so does a mark
  pub mark_shows : (m : State C M) (s : Shown) (leaf : LeafId) (clip : Edges) → IsShowing client m s → IsShowing client (marked leaf clip m) s
  mark_shows m s leaf clip is = window_shows m s leaf (with_change (Mark clip)) (λ w. refl) is

  -- and so do steps that change the mail alone
  pub mail_shows : (m : State C M) (s : Shown) (mail : Mails) → IsShowing client m s → IsShowing client (record m { mail = mail }) s
  mail_shows m s mail is = record { tree = is.tree; bad = is.bad; agrees = record { size = is.agrees.size; kind = is.agrees.kind; good = is.agrees.good } }

  -- at the start every point is bad, and the screen may have any pixels
  pub start_shows : (items : List (Item C)) (s : Shown) → IsShown s → s.tree ≡ tree_of items → ((p : Point) → is_bad s p ≡ is_on s.tree p) →
      IsShowing client (start items) s
  start_shows items s is tree bad = record {
    tree = tree;
    bad = λ p. bad p ∙ ap (λ (t : Seen). is_on t p) tree;
    agrees = record {
      size = is.size ∙ ap (λ (t : Seen). t.size) tree;
      kind = is.kind ∙ ap (λ (t : Seen). t.kind) tree;
      good = λ p on good. absurd (false-true (sym good ∙ on));
    };
  }
