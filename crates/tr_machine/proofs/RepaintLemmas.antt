-- A repaint: after a painting of all that is bad or that the waiting commands would touch no visible point of the leaf is bad.
use Rattle.std.proofs.Common.{◌≡◌, ℕ, Bool, true, false, cond, not, ◌&&◌, List, Option, Some, None, refl, sym, ap, subst, ◌∙◌}
use Rattle.std.specs.Prelude.{is_none, IfSome}
use Rattle.std.specs.Option.{option_map}
use Rattle.std.proofs.lemmas.Bool.{and_from}
use Rattle.std.proofs.lemmas.Option.{none-some}
use Rattle.tr_base.specs.declared.Point.{Point}
use Rattle.tr_base.specs.declared.Size.{Size}
use Rattle.tr_base.specs.declared.LeafId.{LeafId}
use Rattle.tr_base.specs.Rects.{Edges, has_point, meet_of, whole_of}
use Rattle.tr_base.proofs.RectLemmas.{has_point-meet_of}
use Rattle.tr_paint.specs.declared.Paint.{Paint}
use Rattle.tr_paint.specs.Batches.{touches}
use Rattle.tr_paint.specs.Paintings.{IsPainting}
use Rattle.tr_paint.specs.Traces.{after}
use Rattle.tr_paint.proofs.TraceLemmas.{after-untouched}
use Rattle.tr_exec.specs.Executions.{screen_point}
use Rattle.tr_client.specs.declared.clients.Client.{Ghosts}
use Rattle.tr_spot.specs.Leaves.{leaf_corner, leaf_size, in_leaf}
use Rattle.tr_spot.proofs.WayLemmas.{and_right}
use Rattle.tr_surface.specs.Surfaces.{Shown, IsShown, is_bad}
use Rattle.tr_surface.proofs.ShownLemmas.{IsExecuted}
use Rattle.tr_machine.specs.Windows.{Window, content}
use Rattle.tr_machine.specs.States.{State, base, leaf_batch, content_of, look, window_of}
use Rattle.tr_machine.specs.Paintings.{is_visible, repainted}
use Rattle.tr_machine.specs.Pictures.{content_colour, shown_of}
use Rattle.tr_machine.specs.Promises.{Fits}
use Rattle.tr_machine.proofs.BaseLemmas.{base-lies, in_leaf-placed}
use Rattle.tr_machine.proofs.ShownLemmas.{IsShowing, base_good, base_sees, untouched_colour}
use Rattle.tr_machine.proofs.FlushLemmas.{brought_shows, by_state, forest_of}

-- a test that would give what is false fails
fails : (b c : Bool) → (b ≡ true → c ≡ true) → c ≡ false → b ≡ false
fails true c gives off = sym (gives refl) ∙ off
fails false c gives off = refl

module _ {C M : Type 0} (client : Ghosts C M) where
  -- a surface before and after a leaf is repainted, as the contracts have it
  pub record IsRepaint (m : State C M) (s n : Shown) (leaf : LeafId) : Type 0 where
    pub was : IsShown s
    pub is : IsShown n
    pub tree : n.tree ≡ s.tree
    pub showing : IsShowing client m s
    pub fits : Fits client m
    pub window : Window C M
    pub at : window_of m leaf ≡ Some window
    pub font : List (List ℕ)
    pub font_is : font ≡ m.font
    pub batch : List Paint
    pub executed : IsExecuted s n font leaf batch

  -- the commands are a painting of the part of the window in a clip, which has each visible bad point, and each point that a waiting
  -- command would touch
  pub record IsByPainting (m : State C M) (s : Shown) (leaf : LeafId) (window : Window C M) (batch : List Paint) : Type 0 where
    pub clip : Edges
    pub paints : IsPainting (look m) (meet_of (whole_of (leaf_size m.tree leaf)) clip) batch
        (client.pic (look m) (leaf_size m.tree leaf) (content client window))
    pub bad : (p : Point) → is_visible m leaf p ≡ true → is_bad s p ≡ true → has_point clip (in_leaf m.tree leaf p) ≡ true
    pub waiting : (q : Point) → touches (leaf_batch client m leaf) q ≡ true → has_point clip q ≡ true

  module _ (m : State C M) (s n : Shown) (leaf : LeafId) (r : IsRepaint m s n leaf) where
    -- the size of the window
    abbrev size : Size
    size = leaf_size m.tree leaf

    -- the picture of the present content
    abbrev picture : Point → ℕ
    picture q = client.pic (look m) size (content client r.window) q

    -- each visible point has its colour in the present content's picture
    abbrev AreAllPainted : Type 0
    AreAllPainted = (q : Point) → (base client m leaf).visible q ≡ true → after (look m) (base client m leaf) r.batch q ≡ Some (picture q)

    -- the colour of the present content
    content_here : (q : Point) → content_colour client m size q (content_of client m leaf) ≡ picture q
    content_here q = ap (λ (o : Option (Window C M)). content_colour client m size q (option_map (content client) o)) r.at

    module _ (y : IsByPainting m s leaf r.window r.batch) where
      -- a point of the clip is painted
      inside_clip : (q : Point) → (base client m leaf).visible q ≡ true → has_point y.clip q ≡ true →
          after (look m) (base client m leaf) r.batch q ≡ Some (picture q)
      inside_clip q seen held =
          y.paints.shows (base client m leaf) q seen
          (has_point-meet_of (whole_of size) y.clip q ∙ and_from _ _ (base-lies client m leaf (forest_of client m s r.was r.showing) q seen) held)

      -- a point outside the clip is good
      outside_good : (q : Point) → (base client m leaf).visible q ≡ true → has_point y.clip q ≡ false → m.bad (screen_point (leaf_corner m.tree leaf) q) ≡ false
      outside_good q seen out =
          let p : Point = screen_point (leaf_corner m.tree leaf) q in
          fails (m.bad p) (has_point y.clip q)
          (λ bad. ap (λ (x : Point). has_point y.clip x) (sym (in_leaf-placed m.tree leaf q)) ∙ y.bad p seen (r.showing.bad p ∙ bad)) out

      -- no waiting command touches it
      outside_waiting : (q : Point) → has_point y.clip q ≡ false → touches (leaf_batch client m leaf) q ≡ false
      outside_waiting q out = fails (touches (leaf_batch client m leaf) q) (has_point y.clip q) (y.waiting q) out

      -- nor one of the painting
      outside_painting : (q : Point) → has_point y.clip q ≡ false → touches r.batch q ≡ false
      outside_painting q out =
          fails (touches r.batch q) (has_point y.clip q)
          (λ h. and_right (has_point (whole_of size) q) (has_point y.clip q) (sym (has_point-meet_of (whole_of size) y.clip q) ∙ y.paints.within q h)) out

      -- what it shows is its colour in the present content's picture
      outside_colour : (q : Point) → (base client m leaf).visible q ≡ true → has_point y.clip q ≡ false →
          content_colour client m size q (shown_of m leaf) ≡ content_colour client m size q (content_of client m leaf)
      outside_colour q seen out =
          let p : Point = screen_point (leaf_corner m.tree leaf) q in
          let back : in_leaf m.tree leaf p ≡ q = in_leaf-placed m.tree leaf q in
          let P : Point → Type 0 = λ x. content_colour client m size x (shown_of m leaf) ≡ content_colour client m size x (content_of client m leaf) in
          subst P back
          (untouched_colour client m leaf p r.fits seen (outside_good q seen out)
          (ap (λ (x : Point). touches (leaf_batch client m leaf) x) back ∙ outside_waiting q out))

      -- and so it keeps that colour
      outside_clip : (q : Point) → (base client m leaf).visible q ≡ true → has_point y.clip q ≡ false →
          after (look m) (base client m leaf) r.batch q ≡ Some (picture q)
      outside_clip q seen out =
          after-untouched (look m) (base client m leaf) r.batch q seen (outside_painting q out)
          ∙ base_good client m leaf q (outside_good q seen out)
          ∙ by_window (window_of m leaf) r.at (outside_colour q seen out)
        where
          by_window : (o : Option (Window C M)) → o ≡ Some r.window →
              content_colour client m size q (option_map (λ w. w.shown) o) ≡ content_colour client m size q (option_map (content client) o) →
              option_map (λ w. client.pic (look m) size w.shown q) o ≡ Some (picture q)
          by_window None e same = absurd (none-some r.window e)
          by_window (Some w) e same =
              ap (λ x. Some x) same ∙ ap (λ (o : Option (Window C M)). option_map (λ v. client.pic (look m) size (content client v) q) o) e

      -- and so each visible point is painted
      all_painted : AreAllPainted
      all_painted q seen = by_clip (has_point y.clip q) refl
        where
          by_clip : (b : Bool) → has_point y.clip q ≡ b → after (look m) (base client m leaf) r.batch q ≡ Some (picture q)
          by_clip true held = inside_clip q seen held
          by_clip false out = outside_clip q seen out

    -- after a repaint the surface shows the machine's next state
    painted_shows : AreAllPainted → IsShowing client (repainted client leaf m) n
    painted_shows all_painted =
        let found : Point → Bool = λ p. is_none (after (look m) (base client m leaf) (leaf_batch client m leaf) (in_leaf m.tree leaf p)) in
        brought_shows client m s n leaf (repainted client leaf m).bad
        (record {
          was = r.was;
          is = r.is;
          tree = r.tree;
          showing = r.showing;
          window = r.window;
          at = r.at;
          batch = r.batch;
          executed = by_state s n leaf r.font_is refl r.executed;
          brings = λ q seen.
              let P : Option ℕ → Type 0 = λ o. IfSome o (λ x. x ≡ content_colour client m size q (content_of client m leaf)) in
              subst P (sym (all_painted q seen)) (sym (content_here q));
          inside = λ p seen.
              ap (λ b. cond b (found p) (m.bad p) && not b) seen ∙ and_false (found p)
              ∙ sym (ap is_none (all_painted (in_leaf m.tree leaf p) (base_sees client m leaf p seen)));
          outside = λ p hidden. ap (λ b. cond b (found p) (m.bad p) && not b) hidden ∙ and_true (m.bad p);
        })
      where
        and_false : (b : Bool) → (b && false) ≡ false
        and_false true = refl
        and_false false = refl

        and_true : (b : Bool) → (b && true) ≡ b
        and_true true = refl
        and_true false = refl

    pub repaint_shows : IsByPainting m s leaf r.window r.batch → IsShowing client (repainted client leaf m) n
    repaint_shows y = painted_shows (all_painted y)
