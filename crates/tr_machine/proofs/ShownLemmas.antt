-- What a screen shows that agrees with a state, and what a leaf's base has of it.
use Rattle.std.proofs.Common.{◌≡◌, ℕ, Bool, true, false, cond, List, [], Option, Some, None, refl, sym, ap, subst, ◌∙◌}
use Rattle.std.specs.Prelude.{IfSome}
use Rattle.std.specs.Option.{option_map}
use Rattle.tr_base.specs.declared.Point.{Point}
use Rattle.tr_base.specs.declared.Size.{Size}
use Rattle.tr_base.specs.declared.LeafId.{LeafId}
use Rattle.tr_base.specs.declared.Spot.{Spot}
use Rattle.tr_base.specs.declared.Spot.TheVariants as spots
use Rattle.tr_base.proofs.RectLemmas.{false-true}
use Rattle.tr_screen.specs.Pictures.{pixel_of}
use Rattle.tr_paint.specs.declared.Paint.{Paint}
use Rattle.tr_paint.specs.Batches.{touches}
use Rattle.tr_paint.specs.Traces.{Look, after}
use Rattle.tr_paint.proofs.TraceLemmas.{after-untouched}
use Rattle.tr_exec.specs.Executions.{screen_point}
use Rattle.tr_client.specs.declared.clients.Client.{Ghosts}
use Rattle.tr_forest.specs.Forests.{IsForest}
use Rattle.tr_tree.specs.Trees.{Seen}
use Rattle.tr_spot.specs.Spots.{spot, is_in_leaf}
use Rattle.tr_spot.specs.Leaves.{leaf_corner, leaf_size, in_leaf}
use Rattle.tr_spot.proofs.LeafLemmas.{part_of}
use Rattle.tr_spot.proofs.WayLemmas.{equal_test}
use Rattle.tr_surface.specs.Surfaces.{Shown, is_frame, frame_colour, leaf_base, is_bad}
use Rattle.tr_machine.specs.Windows.{Window}
use Rattle.tr_machine.specs.States.{State, base, leaf_batch, content_of, look, shown_at, window_of}
use Rattle.tr_machine.specs.Paintings.{is_visible}
use Rattle.tr_machine.specs.Pictures.{colour_by, content_colour, shown, shown_of}
use Rattle.tr_machine.specs.Promises.{Agrees, Fits}
use Rattle.tr_machine.proofs.BaseLemmas.{after-alike, base-visible, in_leaf-placed, placed-in_leaf}

module _ {C M : Type 0} (client : Ghosts C M) where
  -- ---- the colours of spots

  -- a frame has its colour, whatever the contents
  pub colour_on_frame : (contents : LeafId → Option C) (m : State C M) (s : Spot) → is_frame s ≡ true → colour_by client contents m s ≡ frame_colour s
  colour_on_frame contents m (spots.Leaf leaf q size kind) h = absurd (false-true h)
  colour_on_frame contents m (spots.Frame n tint kind) h = refl
  colour_on_frame contents m spots.Off h = absurd (false-true h)

  -- a content has the same colours if the pixels' kind and the font are the same
  pub colour_look : (m n : State C M) (size : Size) (q : Point) (o : Option C) → look n ≡ look m →
      content_colour client n size q o ≡ content_colour client m size q o
  colour_look m n size q None same = refl
  colour_look m n size q (Some x) same = ap (λ (l : Look). client.pic l size x q) same

  -- a spot has the same colour by the same content of its leaf, if the pixels' kind and the font are the same
  pub colour_same : (was is : LeafId → Option C) (m n : State C M) (s : Spot) → look n ≡ look m →
      ((leaf : LeafId) → is_in_leaf leaf s ≡ true → is leaf ≡ was leaf) → colour_by client is n s ≡ colour_by client was m s
  colour_same was is m n (spots.Leaf leaf q size kind) same contents =
      ap (λ (o : Option C). content_colour client n size q o) (contents leaf (equal_test leaf.0 leaf.0 refl)) ∙ colour_look m n size q (was leaf) same
  colour_same was is m n (spots.Frame k tint kind) same contents = refl
  colour_same was is m n spots.Off same contents = refl

  -- a visible point of a leaf has the colour of the leaf's content
  pub colour_in_leaf : (contents : LeafId → Option C) (m : State C M) (leaf : LeafId) (p : Point) → IsForest m.tree.nodes → is_visible m leaf p ≡ true →
      colour_by client contents m (spot m.tree p) ≡ content_colour client m (leaf_size m.tree leaf) (in_leaf m.tree leaf p) (contents leaf)
  colour_in_leaf contents m leaf p forest seen = ap (λ (s : Spot). colour_by client contents m s) (part_of m.tree forest leaf p seen).is

  -- so has a point of a leaf's window, where the screen shows it
  pub colour_placed : (contents : LeafId → Option C) (m : State C M) (leaf : LeafId) (q : Point) → IsForest m.tree.nodes →
      is_visible m leaf (screen_point (leaf_corner m.tree leaf) q) ≡ true →
      colour_by client contents m (spot m.tree (screen_point (leaf_corner m.tree leaf) q)) ≡ content_colour client m (leaf_size m.tree leaf) q (contents leaf)
  colour_placed contents m leaf q forest seen =
      colour_in_leaf contents m leaf (screen_point (leaf_corner m.tree leaf) q) forest seen
      ∙ ap (λ (r : Point). content_colour client m (leaf_size m.tree leaf) r (contents leaf)) (in_leaf-placed m.tree leaf q)

  -- ---- a leaf's base

  -- what is known of a good point of a window is what the window shows there
  pub base_good : (m : State C M) (leaf : LeafId) (q : Point) → m.bad (screen_point (leaf_corner m.tree leaf) q) ≡ false →
      (base client m leaf).known q ≡ shown_at client m leaf q
  base_good m leaf q good = ap (λ b. cond b None (shown_at client m leaf q)) good

  -- the same by the point's place on the screen
  pub base_good_at : (m : State C M) (leaf : LeafId) (p : Point) → m.bad p ≡ false →
      (base client m leaf).known (in_leaf m.tree leaf p) ≡ shown_at client m leaf (in_leaf m.tree leaf p)
  base_good_at m leaf p good = base_good m leaf (in_leaf m.tree leaf p) (ap m.bad (placed-in_leaf m.tree leaf p) ∙ good)

  -- a visible point of the leaf on the screen is one of the base
  pub base_sees : (m : State C M) (leaf : LeafId) (p : Point) → is_visible m leaf p ≡ true → (base client m leaf).visible (in_leaf m.tree leaf p) ≡ true
  base_sees m leaf p seen = base-visible client m leaf p ∙ seen

  -- at a good visible point that no waiting command touches a leaf shows its present content
  pub untouched_colour : (m : State C M) (leaf : LeafId) (p : Point) → Fits client m → is_visible m leaf p ≡ true → m.bad p ≡ false →
      touches (leaf_batch client m leaf) (in_leaf m.tree leaf p) ≡ false →
      content_colour client m (leaf_size m.tree leaf) (in_leaf m.tree leaf p) (shown_of m leaf)
      ≡ content_colour client m (leaf_size m.tree leaf) (in_leaf m.tree leaf p) (content_of client m leaf)
  untouched_colour m leaf p fits seen good none = by_window (window_of m leaf) refl
    where
      q : Point
      q = in_leaf m.tree leaf p

      size : Size
      size = leaf_size m.tree leaf

      there : (base client m leaf).visible q ≡ true
      there = base_sees m leaf p seen

      known : after (look m) (base client m leaf) (leaf_batch client m leaf) q ≡ shown_at client m leaf q
      known = after-untouched (look m) (base client m leaf) (leaf_batch client m leaf) q there none ∙ base_good_at m leaf p good

      fit : IfSome (shown_at client m leaf q) (λ x. x ≡ content_colour client m size q (content_of client m leaf))
      fit = subst (λ (o : Option ℕ). IfSome o (λ x. x ≡ content_colour client m size q (content_of client m leaf))) known (fits.each leaf q there)

      by_window : (o : Option (Window C M)) → window_of m leaf ≡ o →
          content_colour client m size q (shown_of m leaf) ≡ content_colour client m size q (content_of client m leaf)
      by_window None e = rw e refl
      by_window (Some w) e =
          let here : shown_at client m leaf q ≡ Some (client.pic (look m) size w.shown q) =
          ap (λ (o : Option (Window C M)). option_map (λ v. client.pic (look m) size v.shown q) o) e in
          ap (λ (o : Option (Window C M)). content_colour client m size q (option_map (λ v. v.shown) o)) e
          ∙ subst (λ (o : Option ℕ). IfSome o (λ x. x ≡ content_colour client m size q (content_of client m leaf))) here fit

  -- ---- a surface and a state

  -- a surface shows a state: it has the state's tree and bad points, and its screen agrees with the state
  pub record IsShowing (m : State C M) (s : Shown) : Type 0 where
    pub tree : s.tree ≡ m.tree
    pub bad : (p : Point) → is_bad s p ≡ m.bad p
    pub agrees : Agrees client m s.screen

  -- the surface with the state's own tree
  abbrev pub on_tree : State C M → Shown → Shown
  on_tree m s = record { tree = m.tree; screen = s.screen; good = s.good }

  -- its bad points are the same, and so the state's
  pub bad_tree : (m : State C M) (s : Shown) → s.tree ≡ m.tree → (p : Point) → is_bad (on_tree m s) p ≡ is_bad s p
  bad_tree m s same p = sym (ap (λ (t : Seen). is_bad (record { tree = t; screen = s.screen; good = s.good }) p) same)

  pub bad_state : (m : State C M) (s : Shown) → IsShowing m s → (p : Point) → is_bad (on_tree m s) p ≡ m.bad p
  bad_state m s is p = bad_tree m s is.tree p ∙ is.bad p

  -- what is known of the visible points of a leaf is the same by the screen's pixels and by the shown content
  same_known : (m : State C M) (s : Shown) (leaf : LeafId) (w : Window C M) → IsForest m.tree.nodes → IsShowing m s →
      window_of m leaf ≡ Some w → (q : Point) → (base client m leaf).visible q ≡ true →
      (leaf_base (on_tree m s) leaf).known q ≡ (base client m leaf).known q
  same_known m s leaf w forest is at q seen = ap (λ b. cond b None (Some (pixel_of s.screen p))) (bad_state m s is p) ∙ by_bad (m.bad p) refl
    where
      p : Point
      p = screen_point (leaf_corner m.tree leaf) q

      colour : shown client m p ≡ client.pic (look m) (leaf_size m.tree leaf) w.shown q
      colour = colour_placed (shown_of m) m leaf q forest seen
          ∙ ap (λ (o : Option (Window C M)). content_colour client m (leaf_size m.tree leaf) q (option_map (λ v. v.shown) o)) at

      by_bad : (b : Bool) → m.bad p ≡ b → cond b None (Some (pixel_of s.screen p)) ≡ cond b None (shown_at client m leaf q)
      by_bad true is_bad = refl
      by_bad false good =
          ap (λ x. Some x) (is.agrees.good p (part_of m.tree forest leaf p seen).on good ∙ colour)
          ∙ sym (ap (λ (o : Option (Window C M)). option_map (λ v. client.pic (look m) (leaf_size m.tree leaf) v.shown q) o) at)

  -- a batch makes the same of both bases
  pub after-base : (m : State C M) (s : Shown) (leaf : LeafId) (w : Window C M) → IsForest m.tree.nodes → IsShowing m s → window_of m leaf ≡ Some w →
      (batch : List Paint) (q : Point) → after (look m) (leaf_base (on_tree m s) leaf) batch q ≡ after (look m) (base client m leaf) batch q
  after-base m s leaf w forest is at batch q =
      after-alike (look m) (leaf_base (on_tree m s) leaf) (base client m leaf)
      (record { visible = λ r. refl; known = same_known m s leaf w forest is at }) batch q
