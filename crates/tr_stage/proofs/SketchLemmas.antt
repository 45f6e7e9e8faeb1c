-- A flush by the pixels of a sketch: when they may be put, and that they are what the flush leaves.
use Rattle.std.proofs.Common.{◌≡◌, ℕ, ◌<◌, Bool, true, false, cond, ◌&&◌, List, [], Option, Some, refl, sym, ap, ap₂, subst, ◌∙◌}
use Rattle.std.specs.Prelude.{is_none, slice_index}
use Rattle.std.proofs.lemmas.Bool.{and_parts}
use Rattle.tr_base.specs.declared.Point.{Point}
use Rattle.tr_base.specs.declared.Size.{Size}
use Rattle.tr_base.specs.declared.LeafId.{LeafId}
use Rattle.tr_base.specs.Rects.{Edges, before_shift, has_point, whole_of}
use Rattle.tr_region.specs.Places.{place_within}
use Rattle.tr_screen.specs.Runs.{Repaints}
use Rattle.tr_paint.specs.declared.Paint.{Paint}
use Rattle.tr_paint.specs.Batches.{touches}
use Rattle.tr_paint.specs.Traces.{Look, after, look_of}
use Rattle.tr_client.specs.declared.clients.Client.{Ghosts}
use Rattle.tr_forest.specs.Forests.{IsForest}
use Rattle.tr_forest.specs.Nodes.{leaf_count}
use Rattle.tr_tree.specs.Trees.{Seen}
use Rattle.tr_spot.specs.Spots.{spot, is_in_leaf}
use Rattle.tr_spot.specs.Leaves.{in_leaf, leaf_corner, leaf_size}
use Rattle.tr_surface.specs.Surfaces.{IsShown, is_bad}
use Rattle.tr_sketch.specs.Sketches.{IsSketch, SketchView}
use Rattle.tr_journal.specs.declared.items.Item.{Item}
use Rattle.tr_journal.specs.declared.answers.Answer.TheVariants as answers
use Rattle.tr_journal.specs.declared.steps.Step.TheVariants as steps
use Rattle.tr_journal.specs.Journals.{JournalLine}
use Rattle.tr_journal.specs.Openings.{tree_of}
use Rattle.tr_machine.specs.Windows.{Window}
use Rattle.tr_machine.specs.States.{State, base, leaf_batch, changed_at, content_of, look, window_of}
use Rattle.tr_machine.specs.Paintings.{flushed, is_visible}
use Rattle.tr_machine.specs.Pictures.{content_colour, want}
use Rattle.tr_machine.specs.Machines.{done}
use Rattle.tr_machine.specs.Replays.{replay}
use Rattle.tr_machine.proofs.BaseLemmas.{leaf_within}
use Rattle.tr_machine.proofs.FlushLemmas.{forest_of}
use Rattle.tr_machine.proofs.ListLemmas.{slice_get-some}
use Rattle.tr_machine.proofs.ShownLemmas.{IsShowing, bad_tree, colour_in_leaf, on_tree}
use Rattle.tr_machine.proofs.SoundLemmas.{fits}
use Rattle.tr_windows.specs.declared.exposures.Exposure.{Exposure}
use Rattle.tr_windows.specs.Presents.{Present, batch_at, without_batch}
use Rattle.tr_windows.specs.Promises.{IsCovered}
use Rattle.tr_windows.proofs.PresentLemmas.{presents-flushed}
use Rattle.tr_stage.specs.Exposures.{IsExposure}
use Rattle.tr_stage.specs.Sketching.{IsSketchOf, MayBePut}
use Rattle.tr_stage.specs.Stages.{IsStage, Parts}
use Rattle.tr_stage.proofs.StageLemmas.{holding}
use Rattle.tr_stage.proofs.PartLemmas.{batch_at_leaf}
use Rattle.tr_stage.proofs.WholeLemmas.{flushed_is_repainted}
use Rattle.tr_stage.proofs.DeviceLemmas.{Before, IsAfter, IsMaking, forest_before, made_step, state_before}
use Rattle.tr_stage.proofs.SharingLemmas.{bad_seen, put_shows}

module _ {C M : Type 0} (client : Ghosts C M) where
  -- ---- when they may be put

  -- a stage and one of its leaves, whose window stands so on the screen; what waits for it is covered by a clip
  pub record IsCoveredAt (opening : List (Item C)) (lines : List (JournalLine M)) (parts : Parts C) (leaf : LeafId) (clip : Edges) : Type 0 where
    pub is : IsStage client opening lines parts
    pub shown : IsShown parts.surface
    pub within : leaf.0 < leaf_count (tree_of opening).nodes
    pub exposure : Exposure
    pub stands : IsExposure parts.surface leaf exposure
    pub covers : (look : Look) → IsCovered look exposure clip (batch_at parts.windows leaf)

  module _ (opening : List (Item C)) (lines : List (JournalLine M)) (parts : Parts C) (leaf : LeafId) (clip : Edges)
      (x : IsCoveredAt opening lines parts leaf clip) where
    abbrev m : State C M
    m = replay client opening lines

    shows : IsShowing client m parts.surface
    shows = (holding client m parts x.is.kept).shows

    forest : IsForest m.tree.nodes
    forest = forest_of client m parts.surface x.shown shows

    -- how the window stands, by the state's tree
    stands : IsExposure (on_tree client m parts.surface) leaf x.exposure
    stands =
        subst (λ (t : Seen). IsExposure (record { tree = t; screen = parts.surface.screen; good = parts.surface.good }) leaf x.exposure)
        x.is.kept.tree x.stands

    -- the window
    window : (w : Window C M) × (window_of m leaf ≡ Some w)
    window = slice_get-some m.windows leaf.0 (subst (λ (n : ℕ). leaf.0 < n) (sym (x.is.kept.sound.windows ∙ x.is.like.leaves)) x.within)

    -- what waits for it
    covered : IsCovered (look m) x.exposure clip (leaf_batch client m leaf)
    covered = subst (λ (cs : List Paint). IsCovered (look m) x.exposure clip cs) (batch_at_leaf client leaf x.is.kept) (x.covers (look m))

    -- no visible point is bad
    none_bad : (p : Point) → is_visible m leaf p ≡ true → is_bad parts.surface p ≡ false
    none_bad p seen = by_test (is_bad parts.surface p) refl
      where
        by_test : (b : Bool) → is_bad parts.surface p ≡ b → b ≡ false
        by_test true h =
            sym (stands.has_bad p seen (bad_tree client m parts.surface x.is.kept.tree p ∙ h)) ∙ covered.good (in_leaf m.tree leaf p)
        by_test false h = refl

    pub may_be_put : MayBePut client m leaf clip
    may_be_put = record {
      good = λ p seen. sym (x.is.kept.bad p) ∙ none_bad p seen;
      known = λ p seen.
          ap (λ (n : State C M). n.bad p) (flushed_is_repainted client m parts.surface leaf x.exposure (record {
            was = x.shown;
            showing = shows;
            window = window.0;
            at = window.1;
            size = stands.size;
            whole = stands.whole;
            good = none_bad;
            keeps = covered.keeps;
          }))
          ∙ bad_seen client m leaf p seen;
      touched = λ p seen touched.
          covered.touched (in_leaf m.tree leaf p)
          (ap (λ (s : Size). has_point (whole_of s) (in_leaf m.tree leaf p)) stands.size ∙ leaf_within m.tree leaf p forest seen)
          touched;
    }

  -- ---- putting them

  -- the points that a sketch of this clip gives pixels to
  abbrev pub is_sketched : Seen → LeafId → Edges → Point → Bool
  is_sketched t leaf clip p = is_in_leaf leaf (spot t p) && has_point clip (before_shift p (leaf_corner t leaf))

  -- and the pixel of each
  abbrev pub sketched : Seen → LeafId → SketchView C → Point → ℕ
  sketched t leaf s p = slice_index s.pixels (place_within s.clip (before_shift p (leaf_corner t leaf)))

  -- the parts of a stage before and after the pixels of a sketch of a leaf's present content are put, where they may be
  pub record IsSketched (b : Before C M) (leaf : LeafId) (new : Parts C) : Type 0 where
    pub shown : IsShown new.surface
    pub tree : new.surface.tree ≡ b.parts.surface.tree
    pub sketch : SketchView C
    pub is : IsSketch client sketch
    pub shows : IsSketchOf client (state_before client b) leaf sketch
    pub may : MayBePut client (state_before client b) leaf sketch.clip
    pub puts : Repaints (is_sketched b.parts.surface.tree leaf sketch.clip) (sketched b.parts.surface.tree leaf sketch)
        b.parts.surface.screen new.surface.screen
    pub bad : (p : Point) → is_bad new.surface p ≡ is_bad b.parts.surface p
    pub windows : new.windows ≡ changed_at leaf.0 without_batch b.parts.windows
    pub mail : new.mail ≡ b.parts.mail

  -- it is a flush
  pub sketch_made : (b : Before C M) (leaf : LeafId) (new : Parts C) → IsMaking client b (steps.Flush leaf) → IsSketched b leaf new →
      IsAfter client b (steps.Flush leaf) answers.Done [] new
  sketch_made b leaf new making x =
      made_step client b (steps.Flush leaf) new making (record {
        obeys = tt;
        out = done (flushed client leaf m);
        is = refl;
        inboxes = refl;
        holds = record {
          shows = put_shows client m b.parts.surface new.surface leaf (flushed client leaf m).bad (record {
            was = making.shown;
            is = x.shown;
            tree = x.tree;
            showing = (holding client m b.parts making.is.kept).shows;
            fits = fits client m forest making.is.kept.sound;
            put = is_sketched m.tree leaf x.sketch.clip;
            colour = sketched m.tree leaf x.sketch;
            puts =
                subst (λ (t : Seen). Repaints (is_sketched t leaf x.sketch.clip) (sketched t leaf x.sketch) b.parts.surface.screen new.surface.screen)
                making.is.kept.tree x.puts;
            seen = λ p put. (parts_of p put).0;
            wanted = wanted;
            good = λ p seen out. x.may.good p seen;
            still = still;
            left = λ p. x.bad p ∙ making.is.kept.bad p ∙ stays p (is_visible m leaf p) refl;
            outside = hidden;
          });
          windows = x.windows ∙ ap (λ (ws : List (Present C)). changed_at leaf.0 without_batch ws) making.is.kept.windows
              ∙ sym (presents-flushed client m leaf);
          mail = x.mail ∙ making.is.kept.mail;
        };
      })
    where
      m : State C M
      m = state_before client b

      forest : IsForest m.tree.nodes
      forest = forest_before client b (steps.Flush leaf) making

      parts_of : (p : Point) → is_sketched m.tree leaf x.sketch.clip p ≡ true →
          (is_visible m leaf p ≡ true) × (has_point x.sketch.clip (in_leaf m.tree leaf p) ≡ true)
      parts_of p put = and_parts (is_visible m leaf p) (has_point x.sketch.clip (in_leaf m.tree leaf p)) put

      look_is : look_of x.sketch.kind x.sketch.font ≡ look m
      look_is = ap₂ look_of x.shows.kind x.shows.font

      -- what is put is what is wanted
      wanted : (p : Point) → is_sketched m.tree leaf x.sketch.clip p ≡ true → sketched m.tree leaf x.sketch p ≡ want client m p
      wanted p put =
          let q : Point = in_leaf m.tree leaf p in
          x.is.colours q (parts_of p put).1
          ∙ ap (λ (l : Look). client.pic l x.sketch.size x.sketch.content q) look_is
          ∙ ap (λ (s : Size). client.pic (look m) s x.sketch.content q) x.shows.size
          ∙ sym (colour_in_leaf client (content_of client m) m leaf p forest (parts_of p put).0
          ∙ ap (λ (o : Option C). content_colour client m (leaf_size m.tree leaf) q o) x.shows.content)

      -- no waiting command touches another visible point
      still : (p : Point) → is_visible m leaf p ≡ true → is_sketched m.tree leaf x.sketch.clip p ≡ false →
          touches (leaf_batch client m leaf) (in_leaf m.tree leaf p) ≡ false
      still p seen out = by_test (touches (leaf_batch client m leaf) (in_leaf m.tree leaf p)) refl
        where
          by_test : (c : Bool) → touches (leaf_batch client m leaf) (in_leaf m.tree leaf p) ≡ c → c ≡ false
          by_test true h =
              sym (x.may.touched p seen h) ∙ ap (λ c. c && has_point x.sketch.clip (in_leaf m.tree leaf p)) (sym seen) ∙ out
          by_test false h = refl

      -- the bad points are those that were bad: a visible one is good before and after the flush
      hidden : (p : Point) → is_visible m leaf p ≡ false → (flushed client leaf m).bad p ≡ m.bad p
      hidden p out =
          let found : Bool = is_none (after (look m) (base client m leaf) (leaf_batch client m leaf) (in_leaf m.tree leaf p)) in
          ap (λ c. cond c found (m.bad p)) out

      stays : (p : Point) (c : Bool) → is_visible m leaf p ≡ c → m.bad p ≡ (flushed client leaf m).bad p
      stays p true seen = x.may.good p seen ∙ sym (x.may.known p seen)
      stays p false out = sym (hidden p out)
