-- A stage after a step that paints: the pixels, the bad points and the windows change.
use Rattle.std.proofs.Common.{◌≡◌, ℕ, ◌<◌, Bool, true, false, List, [], Option, Some, None, inl, inr, length, refl, sym, ap, subst, ◌∙◌}
use Rattle.std.specs.Prelude.{IfSome, slice_get, unwrap_or}
use Rattle.tr_base.specs.declared.Point.{Point}
use Rattle.tr_base.specs.declared.Size.{Size}
use Rattle.tr_base.specs.declared.LeafId.{LeafId}
use Rattle.tr_base.specs.Rects.{has_point, meet_of, whole_of}
use Rattle.tr_region.specs.Points.{holds}
use Rattle.tr_paint.specs.declared.Paint.{Paint}
use Rattle.tr_paint.specs.Batches.{touches}
use Rattle.tr_paint.specs.Paintings.{IsPainting}
use Rattle.tr_paint.specs.Traces.{Look, look_of}
use Rattle.tr_client.specs.declared.clients.Client.{Ghosts}
use Rattle.tr_forest.specs.Nodes.{leaf_count}
use Rattle.tr_forest.specs.Forests.{IsForest}
use Rattle.tr_tree.specs.Trees.{Seen}
use Rattle.tr_spot.specs.Leaves.{in_leaf, leaf_size}
use Rattle.tr_surface.specs.Surfaces.{IsShown, is_bad}
use Rattle.tr_surface.proofs.ShownLemmas.{IsExecuted}
use Rattle.tr_surface.proofs.FrameLemmas.{AreRepaired}
use Rattle.tr_journal.specs.declared.items.Item.{Item}
use Rattle.tr_journal.specs.declared.answers.Answer.TheVariants as answers
use Rattle.tr_journal.specs.declared.steps.Step.TheVariants as steps
use Rattle.tr_journal.specs.Openings.{font_of, tree_of}
use Rattle.tr_journal.specs.Steps.{IsLeaf}
use Rattle.tr_machine.specs.Windows.{Window}
use Rattle.tr_machine.specs.States.{State, batch_in, leaf_batch, changed_at, look, window_of}
use Rattle.tr_machine.specs.Paintings.{flushed, framed, is_visible, repainted}
use Rattle.tr_machine.specs.Machines.{done}
use Rattle.tr_machine.proofs.ListLemmas.{slice_get-some}
use Rattle.tr_machine.proofs.SoundLemmas.{fits}
use Rattle.tr_machine.proofs.ShownLemmas.{bad_tree, IsShowing, on_tree}
use Rattle.tr_machine.proofs.FlushLemmas.{flush_shows}
use Rattle.tr_machine.proofs.RepaintLemmas.{repaint_shows}
use Rattle.tr_machine.proofs.FrameLemmas.{frame_shows}
use Rattle.tr_windows.specs.declared.exposures.Exposure.{Exposure}
use Rattle.tr_windows.specs.Presents as held
use Rattle.tr_windows.specs.Presents.{Present, batch_at, without_batch, present, presents}
use Rattle.tr_windows.specs.Promises.{FlushesByPainting, IsByPainting, LosesNothingOf, RepaintsWindow}
use Rattle.tr_windows.proofs.PresentLemmas.{present_is, presents-batch, presents-flushed, presents-length, presents-repainted}
use Rattle.tr_stage.specs.Exposures.{IsExposure, IsFlushing}
use Rattle.tr_stage.specs.Stages.{IsStage, Parts, StageView}
use Rattle.tr_stage.proofs.StageLemmas.{holding}
use Rattle.tr_stage.proofs.WholeLemmas.{flushed_is_repainted}
use Rattle.tr_stage.proofs.DeviceLemmas.{Before, IsAfter, IsMaking, for_actor, forest_before, made_step, state_before}

module _ {C M : Type 0} (client : Ghosts C M) where
  -- a leaf of the opening has a window
  pub leaf_within : (v : StageView C M) (b : Before C M) (leaf : LeafId) → b.opening ≡ v.opening → IsStage client b.opening b.lines b.parts →
      IsLeaf (tree_of v.opening).nodes leaf → leaf.0 < length b.parts.windows
  leaf_within v b leaf same is leaf_is =
      let m : State C M = state_before client b in
      let many : length b.parts.windows ≡ leaf_count (tree_of b.opening).nodes =
      ap (λ (ws : List (Present C)). length ws) is.kept.windows ∙ presents-length client m ∙ is.kept.sound.windows ∙ is.like.leaves in
      subst (λ (n : ℕ). leaf.0 < n) (sym (many ∙ ap (λ (items : List (Item C)). leaf_count (tree_of items).nodes) same)) leaf_is.within

  -- the window of such a leaf
  window_before : (b : Before C M) (leaf : LeafId) → IsStage client b.opening b.lines b.parts → IsLeaf (tree_of b.opening).nodes leaf →
      (w : Window C M) × (window_of (state_before client b) leaf ≡ Some w)
  window_before b leaf is leaf_is =
      let m : State C M = state_before client b in
      slice_get-some m.windows leaf.0 (subst (λ (n : ℕ). leaf.0 < n) (sym (is.kept.sound.windows ∙ is.like.leaves)) leaf_is.within)

  -- a batch is executed in the window of a leaf, and what waited for that is let go
  pub record IsPainted (b : Before C M) (leaf : LeafId) (new : Parts C) : Type 0 where
    pub shown : IsShown new.surface
    pub tree : new.surface.tree ≡ b.parts.surface.tree
    pub font : List (List ℕ)
    pub font_is : font ≡ font_of b.opening
    pub batch : List Paint
    pub executed : IsExecuted b.parts.surface new.surface font leaf batch
    pub windows : new.windows ≡ changed_at leaf.0 without_batch b.parts.windows
    pub mail : new.mail ≡ b.parts.mail

  -- a leaf of a stage, the surface of which is one
  pub record IsReady (b : Before C M) (leaf : LeafId) : Type 0 where
    pub is : IsStage client b.opening b.lines b.parts
    pub shown : IsShown b.parts.surface
    pub forest : IsForest (state_before client b).tree.nodes
    pub leaf_is : IsLeaf (tree_of b.opening).nodes leaf

  -- ---- what is the same in a flush and in a repaint

  module _ (b : Before C M) (leaf : LeafId) (ready : IsReady b leaf) (new : Parts C) (x : IsPainted b leaf new) where
    -- the state before
    abbrev m : State C M
    m = state_before client b

    -- the window in it
    window : (w : Window C M) × (window_of m leaf ≡ Some w)
    window = window_before b leaf ready.is ready.leaf_is

    -- the window as the program holds it
    abbrev own : Present C
    own = present client (look m) (leaf_size m.tree leaf) window.0

    own_at : slice_get b.parts.windows leaf.0 ≡ Some own
    own_at = ap (λ (ws : List (Present C)). slice_get ws leaf.0) ready.is.kept.windows ∙ present_is client m leaf window.0 window.1

    -- what waits for it
    waits : own.batch ≡ leaf_batch client m leaf
    waits = sym (ap (λ (o : Option (Window C M)). batch_in client m leaf o) window.1)

    font_is : x.font ≡ m.font
    font_is = x.font_is ∙ sym ready.is.like.font

    look_is : look_of b.parts.surface.tree.kind x.font ≡ look m
    look_is = ap (λ (t : Seen). look_of t.kind x.font) ready.is.kept.tree ∙ ap (λ (f : List (List ℕ)). look_of m.tree.kind f) font_is

    -- the windows after it
    cleared_windows : new.windows ≡ changed_at leaf.0 without_batch (presents client m)
    cleared_windows = x.windows ∙ ap (λ (ws : List (Present C)). changed_at leaf.0 without_batch ws) ready.is.kept.windows

    -- what waits is executed
    by_waiting : x.batch ≡ leaf_batch client m leaf → IsShowing client (flushed client leaf m) new.surface
    by_waiting batch_is =
        flush_shows client m b.parts.surface new.surface leaf (record {
          was = ready.shown;
          is = x.shown;
          tree = x.tree;
          showing = (holding client m b.parts ready.is.kept).shows;
          fits = fits client m ready.forest ready.is.kept.sound;
          window = window.0;
          at = window.1;
          font = x.font;
          font_is = font_is;
          batch = x.batch;
          batch_is = batch_is;
          executed = x.executed;
        })

    module _ (e : Exposure) (given : IsExposure b.parts.surface leaf e) where
      -- how the window stands, by the state's tree
      stands : IsExposure (on_tree client m b.parts.surface) leaf e
      stands =
          subst (λ (t : Seen). IsExposure (record { tree = t; screen = b.parts.surface.screen; good = b.parts.surface.good }) leaf e)
          ready.is.kept.tree given

      same_bad : (p : Point) → is_bad (on_tree client m b.parts.surface) p ≡ is_bad b.parts.surface p
      same_bad p = bad_tree client m b.parts.surface ready.is.kept.tree p

      -- a painting is executed
      by_painting : IsByPainting client (look m) e own x.batch → IsShowing client (repainted client leaf m) new.surface
      by_painting y =
          repaint_shows client m b.parts.surface new.surface leaf
          (record {
            was = ready.shown;
            is = x.shown;
            tree = x.tree;
            showing = (holding client m b.parts ready.is.kept).shows;
            fits = fits client m ready.forest ready.is.kept.sound;
            window = window.0;
            at = window.1;
            font = x.font;
            font_is = font_is;
            batch = x.batch;
            executed = x.executed;
          })
          (record {
            clip = y.clip;
            paints =
                subst (λ (size : Size). IsPainting (look m) (meet_of (whole_of size) y.clip) x.batch (client.pic (look m) size own.content))
                stands.size y.paints;
            bad = λ p seen bad. y.has_bad (in_leaf m.tree leaf p) (stands.has_bad p seen (same_bad p ∙ bad));
            waiting = λ q touched. y.has_touched q (ap (λ (cs : List Paint). touches cs q) waits ∙ touched);
          })

      -- where nothing is bad, no visible point is
      good : ((q : Point) → has_point e.bad q ≡ false) → (p : Point) → is_visible m leaf p ≡ true → is_bad b.parts.surface p ≡ false
      good none p seen = by_test (is_bad b.parts.surface p) refl
        where
          by_test : (bad : Bool) → is_bad b.parts.surface p ≡ bad → bad ≡ false
          by_test true h = sym (stands.has_bad p seen (same_bad p ∙ h)) ∙ none (in_leaf m.tree leaf p)
          by_test false h = refl

      -- if the waiting commands lose nothing, too, a flush comes to the same as a repaint
      same : ((q : Point) → has_point e.bad q ≡ false) → LosesNothingOf e (look m) own.batch → flushed client leaf m ≡ repainted client leaf m
      same none keeps = flushed_is_repainted client m b.parts.surface leaf e (record {
        was = ready.shown;
        showing = (holding client m b.parts ready.is.kept).shows;
        window = window.0;
        at = window.1;
        size = stands.size;
        whole = stands.whole;
        good = good none;
        keeps = subst (λ (cs : List Paint). LosesNothingOf e (look m) cs) waits keeps;
      })

  -- ---- a flush

  -- the batch is a painting, if there is one that flushes the window as it stands, else what waits
  pub record IsFlushed (old : Parts C) (leaf : LeafId) (font : List (List ℕ)) (batch : List Paint) : Type 0 where
    pub painting : Option (List Paint)
    pub flushes : IfSome painting (λ cs. (w : Present C) → slice_get old.windows leaf.0 ≡ Some w → IsFlushing client old.surface font w leaf cs)
    pub some : IfSome painting (λ cs. batch ≡ cs)
    pub none : painting ≡ None → batch ≡ batch_at old.windows leaf

  pub flush_made : (b : Before C M) (leaf : LeafId) (new : Parts C) → IsMaking client b (steps.Flush leaf) → (x : IsPainted b leaf new) →
      IsFlushed b.parts leaf x.font x.batch → IsAfter client b (steps.Flush leaf) answers.Done [] new
  flush_made b leaf new making x y =
      made_step client b (steps.Flush leaf) new making (record {
        obeys = tt;
        out = done (flushed client leaf m);
        is = refl;
        inboxes = refl;
        holds = record {
          shows = shows y.painting y.flushes y.some y.none;
          windows = cleared_windows b leaf ready new x ∙ sym (presents-flushed client m leaf);
          mail = x.mail ∙ making.is.kept.mail;
        };
      })
    where
      m : State C M
      m = state_before client b

      ready : IsReady b leaf
      ready = record {
        is = making.is;
        shown = making.shown;
        forest = forest_before client b (steps.Flush leaf) making;
        leaf_is = (for_actor client b (steps.Flush leaf) making).own.values;
      }

      -- by a painting
      painted : IsFlushing client b.parts.surface x.font (own b leaf ready new x) leaf x.batch → IsShowing client (flushed client leaf m) new.surface
      painted f =
          let p : FlushesByPainting client (look m) f.exposure (own b leaf ready new x) x.batch =
          subst (λ (l : Look). FlushesByPainting client l f.exposure (own b leaf ready new x) x.batch) (look_is b leaf ready new x) f.flushes in
          subst (λ (n : State C M). IsShowing client n new.surface) (sym (same b leaf ready new x f.exposure f.stands p.good p.keeps))
          (by_painting b leaf ready new x f.exposure f.stands p.painting)

      shows : (o : Option (List Paint)) →
          IfSome o (λ cs. (w : Present C) → slice_get b.parts.windows leaf.0 ≡ Some w → IsFlushing client b.parts.surface x.font w leaf cs) →
          IfSome o (λ cs. x.batch ≡ cs) → (o ≡ None → x.batch ≡ batch_at b.parts.windows leaf) → IsShowing client (flushed client leaf m) new.surface
      shows None flushes some none =
          by_waiting b leaf ready new x
          (none refl ∙ ap (λ (ws : List (Present C)). batch_at ws leaf) making.is.kept.windows ∙ presents-batch client m leaf)
      shows (Some cs) flushes some none =
          painted (subst (λ (batch : List Paint). IsFlushing client b.parts.surface x.font (own b leaf ready new x) leaf batch) (sym some)
          (flushes (own b leaf ready new x) (own_at b leaf ready new x)))

  -- ---- a repaint

  -- the batch is a painting, if there is one, else what waits, and repaints the leaf's window as it stands
  pub record IsRepainting (old : Parts C) (leaf : LeafId) (font : List (List ℕ)) (batch : List Paint) : Type 0 where
    pub exposure : Exposure
    pub stands : IsExposure old.surface leaf exposure
    pub painting : Option (List Paint)
    pub repaints : (w : Present C) → slice_get old.windows leaf.0 ≡ Some w →
        RepaintsWindow client (look_of old.surface.tree.kind font) exposure w (unwrap_or painting w.batch)
    pub some : IfSome painting (λ cs. batch ≡ cs)
    pub none : painting ≡ None → batch ≡ batch_at old.windows leaf

  pub repaint_made : (b : Before C M) (leaf : LeafId) (new : Parts C) → IsMaking client b (steps.Repaint leaf) → (x : IsPainted b leaf new) →
      IsRepainting b.parts leaf x.font x.batch → IsAfter client b (steps.Repaint leaf) answers.Done [] new
  repaint_made b leaf new making x y =
      made_step client b (steps.Repaint leaf) new making (record {
        obeys = tt;
        out = done (repainted client leaf m);
        is = refl;
        inboxes = refl;
        holds = record {
          shows =
              shows (subst (λ (l : Look). RepaintsWindow client l y.exposure (own b leaf ready new x) x.batch) (look_is b leaf ready new x)
              (subst (λ (batch : List Paint). RepaintsWindow client (look_of b.parts.surface.tree.kind x.font) y.exposure (own b leaf ready new x) batch)
              (chosen y.painting y.some y.none) (y.repaints (own b leaf ready new x) (own_at b leaf ready new x))));
          windows = cleared_windows b leaf ready new x ∙ sym (presents-repainted client m leaf);
          mail = x.mail ∙ making.is.kept.mail;
        };
      })
    where
      m : State C M
      m = state_before client b

      ready : IsReady b leaf
      ready = record {
        is = making.is;
        shown = making.shown;
        forest = forest_before client b (steps.Repaint leaf) making;
        leaf_is = (for_actor client b (steps.Repaint leaf) making).own.values;
      }

      -- what is executed
      chosen : (o : Option (List Paint)) → IfSome o (λ cs. x.batch ≡ cs) → (o ≡ None → x.batch ≡ batch_at b.parts.windows leaf) →
          unwrap_or o (own b leaf ready new x).batch ≡ x.batch
      chosen None some none = sym (none refl ∙ ap (λ (w : Option (Present C)). held.waiting_batch w) (own_at b leaf ready new x))
      chosen (Some cs) some none = sym some

      shows : RepaintsWindow client (look m) y.exposure (own b leaf ready new x) x.batch → IsShowing client (repainted client leaf m) new.surface
      shows (inl painting) = by_painting b leaf ready new x y.exposure y.stands painting
      shows (inr w) =
          let keeps = subst (λ (cs : List Paint). LosesNothingOf y.exposure (look m) cs) w.waits w.keeps in
          subst (λ (n : State C M). IsShowing client n new.surface) (same b leaf ready new x y.exposure y.stands w.good keeps)
          (by_waiting b leaf ready new x (w.waits ∙ waits b leaf ready new x))

  -- the parts before and after the frames are painted
  pub record IsFramed (old new : Parts C) : Type 0 where
    pub shown : IsShown new.surface
    pub tree : new.surface.tree ≡ old.surface.tree
    pub repaired : AreRepaired old.surface new.surface
    pub windows : new.windows ≡ old.windows
    pub mail : new.mail ≡ old.mail

  -- the frames
  pub frame_made : (b : Before C M) (new : Parts C) → IsMaking client b steps.PaintFrame → IsFramed b.parts new →
      IsAfter client b steps.PaintFrame answers.Done [] new
  frame_made b new making x =
      let m : State C M = state_before client b in
      made_step client b steps.PaintFrame new making (record {
        obeys = tt;
        out = done (framed m);
        is = refl;
        inboxes = refl;
        holds = record {
          shows = frame_shows client m b.parts.surface new.surface (record {
            is = x.shown;
            tree = x.tree;
            showing = (holding client m b.parts making.is.kept).shows;
            repaired = x.repaired;
          });
          windows = x.windows ∙ making.is.kept.windows;
          mail = x.mail ∙ making.is.kept.mail;
        };
      })
