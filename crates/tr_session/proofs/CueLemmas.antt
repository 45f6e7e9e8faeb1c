-- The cues of one more line, and the stage after it.
use Rattle.std.proofs.Common.{◌≡◌, List, [], ◌∷◌, ◌++◌, sym, ap, ◌∙◌, append_assoc}
use Rattle.std.specs.Prelude.{map}
use Rattle.std.specs.List.{flat_map}
use Rattle.std.proofs.lemmas.List.{append-nil, flat_map_more, map-append}
use Rattle.tr_journal.specs.declared.Actor.{Actor}
use Rattle.tr_journal.specs.declared.Actor.TheVariants.{Player}
use Rattle.tr_journal.specs.declared.Item.{Item}
use Rattle.tr_journal.specs.declared.Query.{Query}
use Rattle.tr_journal.specs.declared.Step.{Step}
use Rattle.tr_journal.specs.declared.Step.TheVariants.{Sync}
use Rattle.tr_journal.specs.Journals.{JournalLine}
use Rattle.tr_widget.specs.declared.Widget.{Widget}
use Rattle.tr_widget.specs.declared.WidgetCmd.{WidgetCmd}
use Rattle.tr_widget.specs.Widgets.{widget_words}
use Rattle.tr_journal.specs.Parts.{Part}
use Rattle.tr_machine.specs.States.{State, start}
use Rattle.tr_machine.specs.Replays.{replay}
use Rattle.tr_grammar.specs.States.{SoFar, empty_part}
use Rattle.tr_grammar.specs.Scripts.{whole}
use Rattle.tr_stage.specs.Stages.{state}
use Rattle.tr_run.specs.Runs.{Cue, makes, reporting, run_lines}
use Rattle.tr_run.specs.Views.{Does, RunView}
use Rattle.tr_run.proofs.RunLemmas.{run_lines-append}
use Rattle.tr_serial.specs.Outputs.{cues, later_cues, part_cues, serial_journal, widgets}

-- ---- the cues of the parts so far and of one more line

-- the last part has done more
last_more : (ended : List (Part WidgetCmd)) (p q : Part WidgetCmd) (more : List (Cue WidgetCmd)) → part_cues q ≡ part_cues p ++ more →
    cues (ended ++ q ∷ []) ≡ cues (ended ++ p ∷ []) ++ more
last_more [] p q more e = append-nil (part_cues q) ∙ e ∙ ap (λ (cs : List (Cue WidgetCmd)). cs ++ more) (sym (append-nil (part_cues p)))
last_more (x ∷ xs) p q more e =
    ap (λ (cs : List (Cue WidgetCmd)). part_cues x ++ cs)
    (sym (flat_map_more later_cues [] xs q)
    ∙ ap (λ (cs : List (Cue WidgetCmd)). flat_map later_cues xs ++ makes Player Sync ∷ cs) e
    ∙ sym (append_assoc (flat_map later_cues xs) (later_cues p) more)
    ∙ ap (λ (cs : List (Cue WidgetCmd)). cs ++ more) (flat_map_more later_cues [] xs p))
    ∙ sym (append_assoc (part_cues x) (flat_map later_cues (xs ++ p ∷ [])) more)

-- a step more
pub step_more : (ended : List (Part WidgetCmd)) (part : Part WidgetCmd) (actor : Actor) (step : Step WidgetCmd) →
    cues (ended ++ record part { steps = part.steps ++ (actor, step) ∷ [] } ∷ []) ≡ cues (ended ++ part ∷ []) ++ makes actor step ∷ []
step_more ended part actor step =
    let made = λ (m : Actor × Step WidgetCmd). makes m.0 m.1 in
    last_more ended part (record part { steps = part.steps ++ (actor, step) ∷ [] }) (makes actor step ∷ [])
    (ap (λ (cs : List (Cue WidgetCmd)). flat_map reporting part.reports ++ cs) (map-append made part.steps ((actor, step) ∷ []))
    ∙ sym (append_assoc (flat_map reporting part.reports) (map made part.steps) (makes actor step ∷ [])))

-- a report more, in a part without steps
pub report_more : (ended : List (Part WidgetCmd)) (part : Part WidgetCmd) (query : Query) → part.steps ≡ [] →
    cues (ended ++ record part { reports = part.reports ++ query ∷ [] } ∷ []) ≡ cues (ended ++ part ∷ []) ++ reporting query
report_more ended part query none =
    let made = λ (m : Actor × Step WidgetCmd). makes m.0 m.1 in
    let reports = flat_map reporting part.reports in
    last_more ended part (record part { reports = part.reports ++ query ∷ [] }) (reporting query)
    (ap (λ (steps : List (Actor × Step WidgetCmd)). flat_map reporting (part.reports ++ query ∷ []) ++ map made steps) none
    ∙ append-nil (flat_map reporting (part.reports ++ query ∷ []))
    ∙ sym (flat_map_more reporting [] part.reports query)
    ∙ ap (λ (cs : List (Cue WidgetCmd)). cs ++ reporting query) (sym (append-nil reports))
    ∙ ap (λ (steps : List (Actor × Step WidgetCmd)). (reports ++ map made steps) ++ reporting query) (sym none))

-- a part more, which has done nothing yet
pub sync_more : (ended : List (Part WidgetCmd)) (part : Part WidgetCmd) →
    cues ((ended ++ part ∷ []) ++ empty_part ∷ []) ≡ cues (ended ++ part ∷ []) ++ makes Player Sync ∷ []
sync_more [] part = ap (λ (cs : List (Cue WidgetCmd)). cs ++ makes Player Sync ∷ []) (sym (append-nil (part_cues part)))
sync_more (x ∷ xs) part =
    ap (λ (cs : List (Cue WidgetCmd)). part_cues x ++ cs) (sym (flat_map_more later_cues [] (xs ++ part ∷ []) empty_part))
    ∙ sym (append_assoc (part_cues x) (flat_map later_cues (xs ++ part ∷ [])) (makes Player Sync ∷ []))

-- ---- the stage of the lines

-- a run has played the lines
pub record HasPlayedLines (c : SoFar) (a : RunView Widget WidgetCmd) : Type 0 where
  pub opening : a.stage.opening ≡ c.items
  pub names : a.names ≡ c.names
  pub journal : a.stage.journal ≡ serial_journal (whole c)

-- the state of the stage is that of the lines
pub state_is : (c : SoFar) (a : RunView Widget WidgetCmd) → HasPlayedLines c a →
    state widgets a.stage ≡ replay widgets c.items (serial_journal (whole c))
state_is c a played =
    ap (λ (items : List (Item Widget)). replay widgets items a.stage.journal) played.opening
    ∙ ap (λ (ls : List (JournalLine WidgetCmd)). replay widgets c.items ls) played.journal

-- the script d comes after c, and has these additional cues
pub record Continues (c d : SoFar) (more : List (Cue WidgetCmd)) : Type 0 where
  pub items : d.items ≡ c.items
  pub names : d.names ≡ c.names
  pub adds : cues (whole d).parts ≡ cues (whole c).parts ++ more

-- the journal of the lines with these cues
pub journal_adds : (c d : SoFar) (more : List (Cue WidgetCmd)) → Continues c d more → serial_journal (whole d)
    ≡ serial_journal (whole c) ++ run_lines widgets (replay widgets c.items (serial_journal (whole c))) more
journal_adds c d more on =
    ap (λ (xs : List (Item Widget)). run_lines widgets (start xs) (cues (whole d).parts)) on.items
    ∙ ap (λ (cs : List (Cue WidgetCmd)). run_lines widgets (start c.items) cs) on.adds
    ∙ run_lines-append widgets (start c.items) (cues (whole c).parts) more

-- after the cues of one more line the stage is that of the lines with this one
pub plays_on : (c d : SoFar) (a b : RunView Widget WidgetCmd) (more : List (Cue WidgetCmd)) → HasPlayedLines c a →
    Does widgets widget_words a b more → Continues c d more → HasPlayedLines d b
plays_on c d a b more played did on = record {
  opening = did.opening ∙ played.opening ∙ sym on.items;
  names = did.names ∙ played.names ∙ sym on.names;
  journal = did.journal
      ∙ ap (λ (ls : List (JournalLine WidgetCmd)). ls ++ run_lines widgets (state widgets a.stage) more) played.journal
      ∙ ap (λ (m : State Widget WidgetCmd). serial_journal (whole c) ++ run_lines widgets m more) (state_is c a played)
      ∙ sym (journal_adds c d more on);
}
