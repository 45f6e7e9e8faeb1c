-- What a session hands out that differs names nothing without a name.
use Rattle.std.proofs.Common.{◌≡◌, ℕ, List, [], ◌∷◌, ◌++◌, length, Result, Ok, Err, ap, refl, subst, sym, ◌∙◌, arith}
use Rattle.std.specs.Prelude.{All, IfOk, codes}
use Rattle.std.specs.List.{Contains}
use Rattle.std.proofs.lemmas.List.Elements.{All-contains, All-weaker, Contains-append_right}
use Rattle.tr_journal.specs.declared.items.Item.{Item}
use Rattle.tr_journal.specs.declared.steps.Actor.{Actor}
use Rattle.tr_journal.specs.declared.steps.Step.{Step}
use Rattle.tr_journal.specs.declared.differences.Difference.{Difference}
use Rattle.tr_forest.specs.Nodes.{leaf_count}
use Rattle.tr_journal.specs.Journals.{JournalLine}
use Rattle.tr_journal.specs.Lists.{HasList}
use Rattle.tr_journal.specs.Names.{Names}
use Rattle.tr_journal.specs.Openings.{tree_of}
use Rattle.tr_machine.specs.Replays.{IsLegal}
use Rattle.tr_widget.specs.declared.Widget.{Widget}
use Rattle.tr_widget.specs.declared.WidgetCmd.{WidgetCmd}
use Rattle.tr_widget.specs.Widgets.{widget_words}
use Rattle.tr_journal.specs.Parts.{Part}
use Rattle.tr_grammar.specs.Scripts.{IsPlayable, IsPlayablePart, IsPlayableScript, Script}
use Rattle.tr_dump.specs.Differs.{differs_text}
use Rattle.tr_dump.specs.Names.{IsNamedDifference, IsNamedStep}
use Rattle.tr_run.specs.Views.{AreNamed}
use Rattle.tr_run.proofs.LineLemmas.{named_step}
use Rattle.tr_stage.specs.Stages.{StageView}
use Rattle.tr_serial.specs.Outputs.{widgets}
use Rattle.tr_server.specs.Differing.{DiffersView}
use Rattle.tr_parts.specs.Plays.{HasInterleaved, journal_texts, played_threads}
use Rattle.tr_threads.specs.Threads.{HasDifferedIn, IsPlayedByThreads, again_text, last_text, threads_text}
use Rattle.tr_threads.proofs.NamedLemmas.{difference_named, steps_named}

module _ (s : Script) (playable : IsPlayableScript s) where
  abbrev Made : Type 0
  Made = Actor × Step WidgetCmd

  are_named : AreNamed s.names (tree_of s.opening).nodes
  are_named = record { nodes = playable.nodes; leaves = playable.leaves }

  -- the steps of each part
  part_named : (part : Part WidgetCmd) → IsPlayablePart (tree_of s.opening).nodes part →
      All (λ (m : Made). IsNamedStep s.names m.1) part.steps
  part_named part is =
      All-weaker (IsPlayable (tree_of s.opening).nodes) (λ (m : Made). IsNamedStep s.names m.1)
      (λ (m : Made) can. named_step s.names (tree_of s.opening).nodes m.1 are_named can.own.values) part.steps is.steps

  parts_named : All (λ (part : Part WidgetCmd). All (λ (m : Made). IsNamedStep s.names m.1) part.steps) s.parts
  parts_named =
      All-weaker (IsPlayablePart (tree_of s.opening).nodes) (λ (part : Part WidgetCmd). All (λ (m : Made). IsNamedStep s.names m.1) part.steps)
      part_named s.parts playable.parts

  -- the difference that a session found in one of them, where what it found is a journal of the machine
  pub differed_named : (d : DiffersView Widget WidgetCmd) → HasDifferedIn s d → IsLegal widgets d.stage.opening d.stage.journal →
      IsNamedDifference s.names d.difference
  differed_named d differed legal =
      let left = differed.left in
      let played = differed.played in
      let here : Contains (differed.part ∷ differed.later) differed.part = (0, omega arith, refl) in
      let among : Contains s.parts differed.part =
      subst (λ (parts : List (Part WidgetCmd)). Contains parts differed.part) (sym differed.of_script)
      (Contains-append_right differed.before (differed.part ∷ differed.later) differed.part here) in
      let made : All (λ (m : Made). IsNamedStep s.names m.1) differed.part.steps =
      All-contains (λ (part : Part WidgetCmd). All (λ (m : Made). IsNamedStep s.names m.1) part.steps) s.parts differed.part
      parts_named among in
      difference_named widgets s.names s.opening d
      (record {
        tree = are_named;
        opening = left.opening ∙ played.opening;
        kept = subst (λ (items : List (Item Widget)). IsLegal widgets items d.kept) (sym left.opening)
            (subst (λ (lines : List (JournalLine WidgetCmd)). IsLegal widgets differed.stage.opening lines) (sym left.kept) played.legal);
        found = legal;
        count = subst (λ (items : List (Item Widget)). length d.lists.leaves ≡ leaf_count (tree_of items).nodes) played.opening left.lists.count;
        steps = λ actor has.
            subst (λ (steps : List (Step WidgetCmd)). All (IsNamedStep s.names) steps)
            (sym (left.lists.steps actor (subst (λ (n : ℕ). HasList n actor) left.lists.count has)))
            (steps_named s.names actor differed.part.steps made);
      })
      d.difference.place d.difference.what left.first

-- what a run came to that threads played is what its script came to
pub played_by : {F E : Type 0} (stage : F → StageView Widget WidgetCmd) (text : F → List ℕ) (s : Script) (items : List (Item Widget)) (names : Names)
    (parts : List (Part WidgetCmd)) (result : Result F E) → items ≡ s.opening → names ≡ s.names → parts ≡ s.parts →
    IfOk result (λ end. HasInterleaved widgets items parts (stage end)) →
    IfOk result (λ end. text end ≡ journal_texts widgets widget_words names items (stage end).journal ++ played_threads) →
    IfOk result (λ end. IsPlayedByThreads s (stage end) (text end))
unfolding threads_text
played_by stage text s items names parts (Ok end) opens named parted played written = record {
  played =
      subst (λ (ps : List (Part WidgetCmd)). HasInterleaved widgets s.opening ps (stage end)) parted
      (subst (λ (is : List (Item Widget)). HasInterleaved widgets is parts (stage end)) opens played);
  text_is =
      written
      ∙ ap (λ (ns : Names). journal_texts widgets widget_words ns items (stage end).journal ++ played_threads) named
      ∙ ap (λ (is : List (Item Widget)). journal_texts widgets widget_words s.names is (stage end).journal ++ played_threads) opens;
}
played_by stage text s items names parts (Err e) opens named parted played written = tt

-- the last two lines, as they are written
pub last_are : {M : Type 0} (words : M → List ℕ) (names : Names) (difference : Difference M) (before text last : List ℕ) → before ≡ [] →
    text ≡ before ++ differs_text words names difference → last ≡ text ++ codes "played again\n" → last ≡ last_text words names difference
unfolding last_text
last_are words names difference before text last none line end =
    end ∙ ap (λ (t : List ℕ). t ++ codes "played again\n") (line ∙ ap (λ (b : List ℕ). b ++ differs_text words names difference) none)

-- those of a script, by its names and by what a session found
pub again_is : (s : Script) (d : DiffersView Widget WidgetCmd) (names : Names) (difference : Difference WidgetCmd) → names ≡ s.names →
    difference ≡ d.difference → last_text widget_words names difference ≡ again_text s d
unfolding again_text
again_is s d names difference named same =
    ap (λ (ns : Names). last_text widget_words ns difference) named
    ∙ ap (λ (x : Difference WidgetCmd). last_text widget_words s.names x) same
