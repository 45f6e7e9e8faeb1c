-- How far a screen that agrees with a state lags behind what it is to show.
use Rattle.std.proofs.Common.{◌≡◌, ◌≢◌, Bool, true, false, not, ◌==◌, ◌⊎◌, inl, inr, refl, sym, ap, ◌∙◌}
use Rattle.tr_base.specs.declared.Point.{Point}
use Rattle.tr_base.specs.declared.LeafId.{LeafId}
use Rattle.tr_base.specs.declared.Spot.{Spot}
use Rattle.tr_base.specs.declared.Spot.TheVariants as spots
use Rattle.tr_base.proofs.RectLemmas.{false-true}
use Rattle.tr_screen.specs.Pictures.{Picture, pixel_of}
use Rattle.tr_paint.specs.Batches.{touches}
use Rattle.tr_client.specs.declared.clients.Client.{Ghosts}
use Rattle.tr_forest.specs.Forests.{IsForest}
use Rattle.tr_spot.specs.Spots.{spot, is_in_leaf}
use Rattle.tr_spot.specs.Leaves.{in_leaf}
use Rattle.tr_spot.proofs.WayLemmas.{and_left, and_right, equal_test}
use Rattle.tr_surface.specs.Surfaces.{is_on}
use Rattle.tr_machine.specs.States.{State, leaf_batch, content_of}
use Rattle.tr_machine.specs.Paintings.{is_visible}
use Rattle.tr_machine.specs.Pictures.{colour_by, is_stale, shown, shown_of, want}
use Rattle.tr_machine.specs.Promises.{Agrees, Fits, IsAwaited, Lags}
use Rattle.tr_machine.proofs.ShownLemmas.{colour_in_leaf, untouched_colour}

module _ {C M : Type 0} (client : Ghosts C M) where
  -- a good point of the screen shows what it is to show, or a command that waits for its leaf touches it
  pub good_shows : (m : State C M) → IsForest m.tree.nodes → Fits client m → (p : Point) → m.bad p ≡ false →
      (shown client m p ≡ want client m p) ⊎ IsAwaited client m p
  good_shows m forest fits p good = by_spot (spot m.tree p) refl
    where
      by_leaf : (leaf : LeafId) → is_visible m leaf p ≡ true → (b : Bool) → touches (leaf_batch client m leaf) (in_leaf m.tree leaf p) ≡ b →
          (shown client m p ≡ want client m p) ⊎ IsAwaited client m p
      by_leaf leaf seen true touched = inr (record { leaf = leaf; visible = seen; touched = touched })
      by_leaf leaf seen false none = inl
          (colour_in_leaf client (shown_of m) m leaf p forest seen
          ∙ untouched_colour client m leaf p fits seen good none
          ∙ sym (colour_in_leaf client (content_of client m) m leaf p forest seen))

      by_spot : (s : Spot) → spot m.tree p ≡ s → (shown client m p ≡ want client m p) ⊎ IsAwaited client m p
      by_spot (spots.Leaf leaf q size kind) e =
          by_leaf leaf (ap (λ (s : Spot). is_in_leaf leaf s) e ∙ equal_test leaf.0 leaf.0 refl) (touches (leaf_batch client m leaf) (in_leaf m.tree leaf p))
          refl
      by_spot (spots.Frame n tint kind) e =
          inl (ap (λ (s : Spot). colour_by client (shown_of m) m s) e ∙ sym (ap (λ (s : Spot). colour_by client (content_of client m) m s) e))
      by_spot spots.Off e =
          inl (ap (λ (s : Spot). colour_by client (shown_of m) m s) e ∙ sym (ap (λ (s : Spot). colour_by client (content_of client m) m s) e))

  -- a screen that agrees with a state lags behind only in the bad region, and where a waiting command paints
  pub lags : (m : State C M) (screen : Picture) → IsForest m.tree.nodes → Fits client m → Agrees client m screen → Lags client m screen
  lags m screen forest fits agrees = record { each = λ p on other. by_bad p on other (m.bad p) refl }
    where
      by_bad : (p : Point) → is_on m.tree p ≡ true → pixel_of screen p ≢ want client m p → (b : Bool) → m.bad p ≡ b → (m.bad p ≡ true) ⊎ IsAwaited client m p
      by_bad p on other true bad = inl bad
      by_bad p on other false good = elim (good_shows m forest fits p good) [
        | inl same ↦ absurd (other (agrees.good p on good ∙ same))
        | inr awaited ↦ inr awaited
      ]

  -- a point that is stale is one that a waiting command touches
  pub stale_waits : (m : State C M) → IsForest m.tree.nodes → Fits client m → (p : Point) → is_stale client m p ≡ true → IsAwaited client m p
  stale_waits m forest fits p stale = elim (good_shows m forest fits p (untrue (m.bad p) (and_left (not (m.bad p)) other stale))) [
    | inl same ↦ absurd (false-true (sym (ap not (equal_test (shown client m p) (want client m p) same)) ∙ and_right (not (m.bad p)) other stale))
    | inr awaited ↦ awaited
  ]
    where
      other : Bool
      other = not (shown client m p == want client m p)

      untrue : (b : Bool) → not b ≡ true → b ≡ false
      untrue true h = sym h
      untrue false h = refl
