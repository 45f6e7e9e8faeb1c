-- The properties of each state of the machine, and of a screen that shows it.
use Rattle.std.specs.Prelude.{◌≡◌, ◌≢◌, true, false, ◌⊎◌, Some, IfSome, length}
use Rattle.tr_base.specs.declared.Point.{Point}
use Rattle.tr_base.specs.declared.LeafId.{LeafId}
use Rattle.tr_screen.specs.Pictures.{Picture, pixel_of}
use Rattle.tr_paint.specs.Batches.{touches}
use Rattle.tr_paint.specs.Traces.{after}
use Rattle.tr_paint.specs.Patches.{IsPatch}
use Rattle.tr_client.specs.declared.clients.Client.{Ghosts}
use Rattle.tr_forest.specs.Nodes.{leaf_count}
use Rattle.tr_spot.specs.Leaves.{in_leaf, leaf_size}
use Rattle.tr_surface.specs.Surfaces.{is_on}
use Rattle.tr_machine.specs.Windows.{Window, batch, content}
use Rattle.tr_machine.specs.States.{State, base, leaf_batch, content_of, look, window_of}
use Rattle.tr_machine.specs.Paintings.{is_visible}
use Rattle.tr_machine.specs.Pictures.{content_colour, shown, want}

module _ {C M : Type 0} (client : Ghosts C M) where
  -- A state fits: after its batch each visible point of a leaf is unknown, or has its colour in the present content's picture.
  pub record Fits (m : State C M) : Type 0 where
    pub each : (leaf : LeafId) (q : Point) → (base client m leaf).visible q ≡ true →
        IfSome (after (look m) (base client m leaf) (leaf_batch client m leaf) q)
        (λ x. x ≡ content_colour client m (leaf_size m.tree leaf) q (content_of client m leaf))

  -- A screen agrees with a state: it has the tree's size and kind, and each good point has its shown colour.
  pub record Agrees (m : State C M) (screen : Picture) : Type 0 where
    pub size : screen.size ≡ m.tree.size
    pub kind : screen.kind ≡ m.tree.kind
    pub good : (p : Point) → is_on m.tree p ≡ true → m.bad p ≡ false → pixel_of screen p ≡ shown client m p

  -- a paint command waits for the leaf that has this visible point, and touches the point
  pub record IsAwaited (m : State C M) (p : Point) : Type 0 where
    pub leaf : LeafId
    pub visible : is_visible m leaf p ≡ true
    pub touched : touches (leaf_batch client m leaf) (in_leaf m.tree leaf p) ≡ true

  -- Each pixel that isn't the wanted one lies in the bad region, or in the area of a waiting command of its leaf.
  pub record Lags (m : State C M) (screen : Picture) : Type 0 where
    pub each : (p : Point) → is_on m.tree p ≡ true → pixel_of screen p ≢ want client m p → (m.bad p ≡ true) ⊎ IsAwaited m p

  -- A window's batch leads from the shown picture to the present one, for any known part of the first.
  abbrev pub Leads : State C M → LeafId → Window C M → Type 0
  Leads m leaf w =
      let size = leaf_size m.tree leaf in
      IsPatch (look m) size (batch client (look m) size w)
      (client.pic (look m) size w.shown) (client.pic (look m) size (content client w))

  -- The invariant of a state whose contents and commands are valid: it has a window for each leaf, each batch leads to its
  -- content, and bad points lie on the screen.
  pub record IsSound (m : State C M) : Type 0 where
    pub windows : length m.windows ≡ leaf_count m.tree.nodes
    pub leads : (leaf : LeafId) (w : Window C M) → window_of m leaf ≡ Some w → Leads m leaf w
    pub bad : (p : Point) → m.bad p ≡ true → is_on m.tree p ≡ true
