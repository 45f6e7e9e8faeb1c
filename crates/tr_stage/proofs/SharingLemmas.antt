-- A leaf's bad points that are painted apart from the screen, and put there.
use Rattle.std.proofs.Common.{◌≡◌, ℕ, Bool, true, false, cond, ◌&&◌, not, List, [], Option, Some, refl, sym, ap, ◌∙◌}
use Rattle.std.specs.Prelude.{is_none, slice_index}
use Rattle.std.specs.Option.{option_map}
use Rattle.std.proofs.lemmas.Bool.{and_parts}
use Rattle.tr_base.specs.declared.Point.{Point}
use Rattle.tr_base.specs.declared.Size.{Size}
use Rattle.tr_base.specs.declared.LeafId.{LeafId}
use Rattle.tr_base.specs.Rects.{Edges, has_point, whole_of}
use Rattle.tr_base.proofs.BoolLemmas.{and_false, and_true}
use Rattle.tr_region.specs.Points.{holds}
use Rattle.tr_screen.specs.Pictures.{Picture, pixel_of}
use Rattle.tr_screen.specs.Runs.{Repaints}
use Rattle.tr_paint.specs.declared.Paint.{Paint}
use Rattle.tr_paint.specs.Batches.{touches}
use Rattle.tr_paint.specs.Traces.{Look, after}
use Rattle.tr_exec.specs.Executions.{base_of, colour_after, screen_point}
use Rattle.tr_exec.proofs.PlacedLemmas.{before-placed}
use Rattle.tr_client.specs.declared.clients.Client.{Ghosts}
use Rattle.tr_forest.specs.Forests.{IsForest}
use Rattle.tr_tree.specs.Trees.{Seen}
use Rattle.tr_spot.specs.Spots.{spot, is_in_leaf}
use Rattle.tr_spot.specs.Leaves.{in_leaf, leaf_size}
use Rattle.tr_surface.specs.Surfaces.{Shown, IsShown, is_on, is_bad}
use Rattle.tr_surface.proofs.ShownLemmas.{in_leaf_on}
use Rattle.tr_region.specs.Places.{place_in}
use Rattle.tr_journal.specs.declared.answers.Answer.TheVariants as answers
use Rattle.tr_journal.specs.declared.steps.Step.TheVariants as steps
use Rattle.tr_machine.specs.Windows.{Window, updated}
use Rattle.tr_machine.specs.States.{State, base, leaf_batch, changed_at, content_of, look}
use Rattle.tr_machine.specs.Paintings.{is_visible, repainted}
use Rattle.tr_machine.specs.Pictures.{content_colour, shown, shown_of, want}
use Rattle.tr_machine.specs.Promises.{Fits}
use Rattle.tr_machine.specs.Machines.{done}
use Rattle.tr_machine.proofs.FlushLemmas.{apart, brought, forest_of, now_shown}
use Rattle.tr_machine.proofs.ListLemmas.{window_there}
use Rattle.tr_machine.proofs.ShownLemmas.{IsShowing, colour_in_leaf, colour_same, untouched_colour}
use Rattle.tr_machine.proofs.SoundLemmas.{fits}
use Rattle.tr_windows.specs.Presents.{Present, without_batch}
use Rattle.tr_windows.proofs.PresentLemmas.{presents-repainted}
use Rattle.tr_stage.specs.Stages.{Parts}
use Rattle.tr_machine.specs.SharedRepaints.{IsPaintedOf}
use Rattle.tr_stage.proofs.StageLemmas.{holding}
use Rattle.tr_stage.proofs.DeviceLemmas.{Before, IsAfter, IsMaking, forest_before, made_step, state_before}
use Rattle.tr_stage.proofs.StaleLemmas.{IsPlan, plan_paints}

-- what is left of the bad points is none of those that are put
left_in : (b : Bool) → (b && not (b && true)) ≡ false
left_in true = refl
left_in false = refl

left_out : (b : Bool) → (b && not (b && false)) ≡ b
left_out true = refl
left_out false = refl

module _ {C M : Type 0} (client : Ghosts C M) where
  -- ---- painting apart

  -- executed anywhere, a painting of the leaf's window gives each visible point of the leaf, where it lies then, the colour that it is to have
  pub painted_window : {m : State C M} {leaf : LeafId} {how : Look} {extent : Size} {content : C} {batch : List Paint} (origin : Point)
      (part bad : List Edges) (old new : Picture) → IsForest m.tree.nodes → IsPlan client m leaf how extent content batch →
      ((q : Point) (x : ℕ) → holds part q ≡ true → colour_after how (base_of origin part bad old) batch origin q ≡ Some x → pixel_of new q ≡ x) →
      (p : Point) → is_visible m leaf p ≡ true → holds part (screen_point origin (in_leaf m.tree leaf p)) ≡ true →
      pixel_of new (screen_point origin (in_leaf m.tree leaf p)) ≡ want client m p
  painted_window {m} {leaf} {how} {extent} {content} {batch} origin part bad old new forest plan known p seen held =
      known (screen_point origin q) (want client m p) held
      (ap (λ (r : Point). after how (base_of origin part bad old) batch r) (before-placed origin q)
      ∙ plan_paints client (base_of origin part bad old) p forest plan seen held)
    where
      q : Point
      q = in_leaf m.tree leaf p

  -- ---- putting

  -- A surface before and after some visible points of a leaf get the colours that they are to have. Each other visible point of the leaf is
  -- good, and no waiting command touches it. These are the bad points then; they stay as they were outside of the leaf.
  pub record IsPut (m : State C M) (s n : Shown) (leaf : LeafId) (bad : Point → Bool) : Type 0 where
    pub was : IsShown s
    pub is : IsShown n
    pub tree : n.tree ≡ s.tree
    pub showing : IsShowing client m s
    pub fits : Fits client m
    pub put : Point → Bool
    pub colour : Point → ℕ
    pub puts : Repaints put colour s.screen n.screen
    pub seen : (p : Point) → put p ≡ true → is_visible m leaf p ≡ true
    pub wanted : (p : Point) → put p ≡ true → colour p ≡ want client m p
    pub good : (p : Point) → is_visible m leaf p ≡ true → put p ≡ false → m.bad p ≡ false
    pub still : (p : Point) → is_visible m leaf p ≡ true → put p ≡ false → touches (leaf_batch client m leaf) (in_leaf m.tree leaf p) ≡ false
    pub left : (p : Point) → is_bad n p ≡ bad p
    pub outside : (p : Point) → is_visible m leaf p ≡ false → bad p ≡ m.bad p

  module _ (m : State C M) (s n : Shown) (leaf : LeafId) (bad : Point → Bool) (r : IsPut m s n leaf bad) where
    -- the state after it
    abbrev next_state : State C M
    next_state = brought client leaf bad m

    same_tree : n.tree ≡ m.tree
    same_tree = r.tree ∙ r.showing.tree

    forest : IsForest m.tree.nodes
    forest = forest_of client m s r.was r.showing

    on_old : (p : Point) → is_on m.tree p ≡ true → has_point (whole_of s.screen.size) p ≡ true
    on_old p on = ap (λ (z : Size). has_point (whole_of z) p) (r.was.size ∙ ap (λ (t : Seen). t.size) r.showing.tree) ∙ on

    -- what is put has its pixel
    put_pixel : (p : Point) → is_on m.tree p ≡ true → r.put p ≡ true → pixel_of n.screen p ≡ want client m p
    put_pixel p on put = r.puts.points p (on_old p on) ∙ ap (λ b. cond b (r.colour p) (pixel_of s.screen p)) put ∙ r.wanted p put

    -- all else keeps its pixel
    kept_pixel : (p : Point) → is_on m.tree p ≡ true → r.put p ≡ false → pixel_of n.screen p ≡ pixel_of s.screen p
    kept_pixel p on out = r.puts.points p (on_old p on) ∙ ap (λ b. cond b (r.colour p) (pixel_of s.screen p)) out

    -- a visible point of the leaf is to have the colour that the leaf shows then
    want_is : (p : Point) → is_visible m leaf p ≡ true → want client m p ≡ shown client next_state p
    want_is p seen =
        colour_in_leaf client (content_of client m) m leaf p forest seen
        ∙ sym (colour_in_leaf client (shown_of next_state) next_state leaf p forest seen
        ∙ ap (λ (o : Option C). content_colour client m (leaf_size m.tree leaf) (in_leaf m.tree leaf p) o) (now_shown client m leaf bad))

    -- a visible point of the leaf has its colour
    seen_good : (p : Point) → is_on m.tree p ≡ true → is_visible m leaf p ≡ true → pixel_of n.screen p ≡ shown client next_state p
    seen_good p on seen = by_put (r.put p) refl
      where
        by_put : (b : Bool) → r.put p ≡ b → pixel_of n.screen p ≡ shown client next_state p
        by_put true put = put_pixel p on put ∙ want_is p seen
        by_put false out =
            kept_pixel p on out
            ∙ r.showing.agrees.good p on (r.good p seen out)
            ∙ colour_in_leaf client (shown_of m) m leaf p forest seen
            ∙ untouched_colour client m leaf p r.fits seen (r.good p seen out) (r.still p seen out)
            ∙ sym (colour_in_leaf client (content_of client m) m leaf p forest seen)
            ∙ want_is p seen

    -- nothing is put at a point of another leaf, or of a frame
    not_put : (p : Point) → is_visible m leaf p ≡ false → r.put p ≡ false
    not_put p hidden = by_put (r.put p) refl
      where
        by_put : (b : Bool) → r.put p ≡ b → b ≡ false
        by_put true put = sym (r.seen p put) ∙ hidden
        by_put false out = refl

    -- so a good one has its pixel still
    hidden_good : (p : Point) → is_on m.tree p ≡ true → is_visible m leaf p ≡ false → bad p ≡ false →
        pixel_of n.screen p ≡ shown client next_state p
    hidden_good p on hidden good =
        kept_pixel p on (not_put p hidden)
        ∙ r.showing.agrees.good p on (sym (r.outside p hidden) ∙ good)
        ∙ sym (colour_same client (shown_of m) (shown_of next_state) m next_state (spot m.tree p) refl stays)
      where
        stays : (other : LeafId) → is_in_leaf other (spot m.tree p) ≡ true → shown_of next_state other ≡ shown_of m other
        stays other here =
            ap (λ (o : Option (Window C M)). option_map (λ w. w.shown) o)
            (window_there leaf other (updated client) m (apart leaf other (spot m.tree p) hidden here))

    -- after it the surface shows the state in which the leaf shows its present content
    pub put_shows : IsShowing client (brought client leaf bad m) n
    put_shows = record {
      tree = same_tree;
      bad = r.left;
      agrees = record {
        size = r.is.size ∙ ap (λ (t : Seen). t.size) same_tree;
        kind = r.is.kind ∙ ap (λ (t : Seen). t.kind) same_tree;
        good = λ p on good. by_sight p on good (is_visible m leaf p) refl;
      };
    }
      where
        by_sight : (p : Point) → is_on m.tree p ≡ true → bad p ≡ false → (c : Bool) → is_visible m leaf p ≡ c →
            pixel_of n.screen p ≡ shown client next_state p
        by_sight p on good true seen = seen_good p on seen
        by_sight p on good false hidden = hidden_good p on hidden good

  -- ---- the bad points after a repaint

  pub bad_seen : (m : State C M) (leaf : LeafId) (p : Point) → is_visible m leaf p ≡ true → (repainted client leaf m).bad p ≡ false
  bad_seen m leaf p seen =
      let found : Bool = is_none (after (look m) (base client m leaf) (leaf_batch client m leaf) (in_leaf m.tree leaf p)) in
      ap (λ b. cond b found (m.bad p) && not b) seen ∙ and_false found

  bad_hidden : (m : State C M) (leaf : LeafId) (p : Point) → is_visible m leaf p ≡ false → (repainted client leaf m).bad p ≡ m.bad p
  bad_hidden m leaf p hidden =
      let found : Bool = is_none (after (look m) (base client m leaf) (leaf_batch client m leaf) (in_leaf m.tree leaf p)) in
      ap (λ b. cond b found (m.bad p) && not b) hidden ∙ and_true (m.bad p)

  -- they are what is left of the bad points, once those of the leaf are put
  bad_left : (m : State C M) (leaf : LeafId) (p : Point) → (m.bad p && not (m.bad p && is_visible m leaf p)) ≡ (repainted client leaf m).bad p
  bad_left m leaf p = by_sight (is_visible m leaf p) refl
    where
      by_sight : (c : Bool) → is_visible m leaf p ≡ c → (m.bad p && not (m.bad p && is_visible m leaf p)) ≡ (repainted client leaf m).bad p
      by_sight true seen = ap (λ b. m.bad p && not (m.bad p && b)) seen ∙ left_in (m.bad p) ∙ sym (bad_seen m leaf p seen)
      by_sight false hidden = ap (λ b. m.bad p && not (m.bad p && b)) hidden ∙ left_out (m.bad p) ∙ sym (bad_hidden m leaf p hidden)

  -- ---- a repaint by pixels

  -- the parts of a stage before and after the pixels of a leaf's bad points are put; nothing waits for the leaf
  pub record IsPutOn (b : Before C M) (leaf : LeafId) (new : Parts C) : Type 0 where
    pub shown : IsShown new.surface
    pub tree : new.surface.tree ≡ b.parts.surface.tree
    pub idle : leaf_batch client (state_before client b) leaf ≡ []
    pub part : List Edges
    pub pixels : List ℕ
    pub painted : IsPaintedOf client (state_before client b) leaf part pixels
    pub puts : Repaints (holds part) (λ p. slice_index pixels (place_in part p)) b.parts.surface.screen new.surface.screen
    pub left : (p : Point) → is_bad new.surface p ≡ (is_bad b.parts.surface p && not (holds part p))
    pub windows : new.windows ≡ changed_at leaf.0 without_batch b.parts.windows
    pub mail : new.mail ≡ b.parts.mail

  -- it is a repaint
  pub put_made : (b : Before C M) (leaf : LeafId) (new : Parts C) → IsMaking client b (steps.Repaint leaf) → (x : IsPutOn b leaf new) →
      IsAfter client b (steps.Repaint leaf) answers.Done [] new
  put_made b leaf new making x =
      made_step client b (steps.Repaint leaf) new making (record {
        obeys = tt;
        out = done (repainted client leaf m);
        is = refl;
        inboxes = refl;
        holds = record {
          shows = put_shows m b.parts.surface new.surface leaf (repainted client leaf m).bad (record {
            was = making.shown;
            is = x.shown;
            tree = x.tree;
            showing = (holding client m b.parts making.is.kept).shows;
            fits = fits client m (forest_before client b (steps.Repaint leaf) making) making.is.kept.sound;
            put = holds x.part;
            colour = λ p. slice_index x.pixels (place_in x.part p);
            puts = x.puts;
            seen = λ p held. (and_parts (m.bad p) (is_visible m leaf p) (sym (x.painted.points p) ∙ held)).1;
            wanted = x.painted.colours;
            good = λ p seen out. sym (and_true (m.bad p)) ∙ ap (λ b. m.bad p && b) (sym seen) ∙ sym (x.painted.points p) ∙ out;
            still = λ p seen out. ap (λ (cs : List Paint). touches cs (in_leaf m.tree leaf p)) x.idle;
            left = λ p.
                x.left p ∙ ap (λ b. b && not (holds x.part p)) (making.is.kept.bad p)
                ∙ ap (λ b. m.bad p && not b) (x.painted.points p) ∙ bad_left m leaf p;
            outside = bad_hidden m leaf;
          });
          windows =
              x.windows ∙ ap (λ (ws : List (Present C)). changed_at leaf.0 without_batch ws) making.is.kept.windows
              ∙ sym (presents-repainted client m leaf);
          mail = x.mail ∙ making.is.kept.mail;
        };
      })
    where
      m : State C M
      m = state_before client b

  -- ---- the bad points of a leaf

  -- they are visible points
  pub part_visible : (m : State C M) (leaf : LeafId) (part : List Edges) → ((p : Point) → holds part p ≡ (m.bad p && is_visible m leaf p)) →
      (p : Point) → holds part p ≡ true → is_visible m leaf p ≡ true
  part_visible m leaf part is p held = (and_parts (m.bad p) (is_visible m leaf p) (sym (is p) ∙ held)).1

  -- visible points of a leaf lie on each screen of the tree's size
  pub part_on : (m : State C M) (leaf : LeafId) (part : List Edges) (size : Size) → size ≡ m.tree.size →
      ((p : Point) → holds part p ≡ true → is_visible m leaf p ≡ true) → (p : Point) → holds part p ≡ true → has_point (whole_of size) p ≡ true
  part_on m leaf part size same sees p held = ap (λ (z : Size). has_point (whole_of z) p) same ∙ in_leaf_on m.tree leaf p (sees p held)
