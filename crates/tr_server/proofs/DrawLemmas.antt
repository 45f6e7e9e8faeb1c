-- A sketch of what waiting commands leave is one of the leaf's present content, once they are handed over.
use Rattle.std.proofs.Common.{◌≡◌, List, [], ◌∷◌, Option, Some, None, map, fold, length, refl, sym, ap, ap₂, subst, subst₂, ◌∙◌}
use Rattle.std.specs.Option.{option_map}
use Rattle.std.proofs.lemmas.List.Sums.{fold-append}
use Rattle.tr_base.specs.declared.LeafId.{LeafId}
use Rattle.tr_client.specs.declared.clients.Client.{Ghosts}
use Rattle.tr_client.specs.Runs as runs
use Rattle.tr_spot.specs.Leaves.{leaf_size}
use Rattle.tr_sketch.specs.Sketches.{SketchView}
use Rattle.tr_levels.specs.declared.Level.{Level}
use Rattle.tr_book.specs.Books.{PreparedView}
use Rattle.tr_journal.specs.declared.steps.Actor.TheVariants.{Leaf}
use Rattle.tr_journal.specs.declared.steps.Step.{Step}
use Rattle.tr_machine.specs.CommandSteps.{act_steps}
use Rattle.tr_machine.specs.Windows.{Window, Command, content, changed_content}
use Rattle.tr_machine.specs.States.{State, content_of, window_of}
use Rattle.tr_machine.specs.Replays.{lines_by, replay}
use Rattle.tr_machine.proofs.CommandStepLemmas.{handed, replay_handed, with_commands}
use Rattle.tr_machine.proofs.JournalLemmas.{replay-append}
use Rattle.tr_machine.proofs.ListLemmas.{window_here}
use Rattle.tr_stage.specs.Sketching.{IsSketchOf}
use Rattle.tr_stage.specs.Stages.{KeepsOthers, StageView, state}
use Rattle.tr_server.specs.Drawings.{IsDrawnOf}
use Rattle.tr_server.specs.Handing.{with_acts}

module _ {C M : Type 0} (client : Ghosts C M) where
  -- what commands leave, as changes of a window
  changes_leave : (x : C) (cmds : List M) → fold (changed_content client) x (map Command cmds) ≡ runs.content_after client x cmds
  changes_leave x [] = refl
  changes_leave x (c ∷ cmds) = changes_leave (client.next x c) cmds

  content_with : (cmds : List M) (w : Window C M) → content client (with_commands client cmds w) ≡ runs.content_after client (content client w) cmds
  content_with cmds w = fold-append (changed_content client) w.shown w.made (map Command cmds) ∙ changes_leave (content client w) cmds

  -- the content of a leaf whose commands were handed over
  content_handed : (m : State C M) (leaf : LeafId) (cmds : List M) →
      content_of client (handed client leaf cmds m) leaf ≡ option_map (λ x. runs.content_after client x cmds) (content_of client m leaf)
  content_handed m leaf cmds =
      ap (λ (o : Option (Window C M)). option_map (content client) o) (window_here leaf leaf (with_commands client cmds) m refl)
      ∙ by_window (window_of m leaf)
    where
      by_window : (o : Option (Window C M)) →
          option_map (content client) (option_map (with_commands client cmds) o)
          ≡ option_map (λ x. runs.content_after client x cmds) (option_map (content client) o)
      by_window None = refl
      by_window (Some w) = ap (λ (x : C). Some x) (content_with cmds w)

  -- the state of a stage to which commands of a leaf were handed over
  pub state_handed : (s new : StageView C M) (leaf : LeafId) (cmds : List M) (levels : List (List Level)) → length levels ≡ length cmds →
      new.opening ≡ s.opening → new.journal ≡ (with_acts client s leaf cmds levels).journal →
      state client new ≡ handed client leaf cmds (state client s)
  state_handed s new leaf cmds levels counts opening journal =
      ap₂ (λ o j. replay client o j) opening journal
      ∙ replay-append client s.opening s.journal (lines_by client (Leaf leaf) (state client s) (act_steps leaf cmds levels))
      ∙ replay_handed client (state client s) leaf cmds levels counts

  -- a step that leaves the other pixels after commands were handed over leaves those that were there before
  pub others_handed : (s mid new : StageView C M) (leaf : LeafId) (cmds : List M) (levels : List (List Level)) (step : Step M) →
      length levels ≡ length cmds → mid.opening ≡ s.opening → mid.journal ≡ (with_acts client s leaf cmds levels).journal →
      mid.screen ≡ s.screen → KeepsOthers (state client mid).tree step mid.screen new.screen →
      KeepsOthers (state client s).tree step s.screen new.screen
  others_handed s mid new leaf cmds levels step counts opening journal screen others =
      subst₂ (λ t picture. KeepsOthers t step picture new.screen)
      (ap (λ (m : State C M). m.tree) (state_handed s mid leaf cmds levels counts opening journal)) screen others

  -- commands that were prepared over the present content of a leaf of a stage, and a sketch of what they leave
  pub record IsDrawnAt (s : StageView C M) (leaf : LeafId) (p : PreparedView C M) (sketch : SketchView C) : Type 0 where
    pub drawn : IsDrawnOf client p sketch
    pub from : content_of client (state client s) leaf ≡ Some p.from
    pub font : p.font ≡ (state client s).font
    pub size : p.size ≡ leaf_size (state client s).tree leaf
    pub kind : p.kind ≡ (state client s).tree.kind

  pub sketch_stands : (s new : StageView C M) (leaf : LeafId) (p : PreparedView C M) (levels : List (List Level)) (sketch : SketchView C) →
      length levels ≡ length p.commands → new.opening ≡ s.opening → new.journal ≡ (with_acts client s leaf p.commands levels).journal →
      IsDrawnAt s leaf p sketch → IsSketchOf client (state client new) leaf sketch
  sketch_stands s new leaf p levels sketch counts opening journal d =
      subst (λ (m : State C M). IsSketchOf client m leaf sketch) (sym after) (record {
        content = content_handed n leaf p.commands
            ∙ ap (λ (o : Option C). option_map (λ x. runs.content_after client x p.commands) o) d.from
            ∙ ap (λ (x : C). Some x) (sym d.drawn.content);
        font = d.drawn.font ∙ d.font;
        size = d.drawn.size ∙ d.size;
        kind = d.drawn.kind ∙ d.kind;
      })
    where
      n : State C M
      n = state client s

      after : state client new ≡ handed client leaf p.commands n
      after = state_handed s new leaf p.commands levels counts opening journal
