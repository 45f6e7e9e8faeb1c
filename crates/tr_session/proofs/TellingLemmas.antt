-- The session after a line, and the text of its answer.
use Rattle.std.proofs.Common.{◌≡◌, ℕ, Bool, true, List, [], ◌∷◌, ◌++◌, Some, None, Ok, cond, refl, sym, ap, subst, ◌∙◌}
use Rattle.std.specs.Prelude.{Option}
use Rattle.std.specs.List.{flat_map}
use Rattle.std.proofs.lemmas.List.{append-nil}
use Rattle.tr_base.proofs.RectLemmas.{false-true}
use Rattle.tr_screen.specs.Pictures.{IsPicture, Picture}
use Rattle.tr_journal.specs.declared.Actor.{Actor}
use Rattle.tr_journal.specs.declared.Actor.TheVariants.{Player}
use Rattle.tr_journal.specs.declared.Item.TheVariants as items
use Rattle.tr_journal.specs.declared.Query.{Query}
use Rattle.tr_journal.specs.declared.Step.{Step}
use Rattle.tr_journal.specs.declared.Step.TheVariants.{Sync}
use Rattle.tr_journal.specs.Journals.{JournalLine}
use Rattle.tr_journal.specs.Names.{Names}
use Rattle.tr_journal.specs.Steps.{stated}
use Rattle.tr_machine.specs.States.{State}
use Rattle.tr_machine.specs.Promises.{Agrees}
use Rattle.tr_machine.specs.Replays.{line_of_step}
use Rattle.tr_widget.specs.declared.Widget.{Widget}
use Rattle.tr_widget.specs.declared.WidgetCmd.{WidgetCmd}
use Rattle.tr_widget.specs.Widgets.{widget_words}
use Rattle.tr_stage.specs.Stages.{state}
use Rattle.tr_grammar.specs.declared.Meaning.{Meaning}
use Rattle.tr_grammar.specs.declared.Meaning.TheVariants as meanings
use Rattle.tr_grammar.specs.declared.Place.TheVariants as places
use Rattle.tr_grammar.specs.States.{SoFar, nothing_yet}
use Rattle.tr_grammar.specs.Words.{word_at, words_of}
use Rattle.tr_grammar.specs.Faults.{allows}
use Rattle.tr_grammar.specs.Scripts.{after_all_lines, after_meaning}
use Rattle.tr_grammar.proofs.ScriptLemmas.{after_all_lines-append}
use Rattle.tr_reader.specs.Adding.{sort_of_meaning}
use Rattle.tr_dump.specs.Reports.{outcome_text}
use Rattle.tr_run.specs.Runs.{makes, run_lines}
use Rattle.tr_run.specs.Texts.{texts_from}
use Rattle.tr_run.specs.Views.{Does, RunView}
use Rattle.tr_run.specs.declared.Mode.{Mode}
use Rattle.tr_run.specs.declared.Mode.TheVariants.{Serial}
use Rattle.tr_serial.specs.Outputs.{widgets}
use Rattle.tr_session.specs.Answering.{Tells, meaning_sort}
use Rattle.tr_session.specs.Answers.{answer_bytes, text, text_for_line}
use Rattle.tr_session.specs.Lines.{added_lines, fault_of_line, has_begun, needs_sync}
use Rattle.tr_session.specs.Playing.{HasOutcome, cues_of_meaning, has_outcome}
use Rattle.tr_session.specs.Sessions.{AreTaken, IsSession, SessionView, cues_for, journal_of, script_so_far, stage_state, with_more_lines}
use Rattle.tr_session.proofs.CueLemmas.{HasPlayedLines, state_is}
use Rattle.tr_session.proofs.KeepingLemmas.{AddsLine, alone, behind_sync, follows, silently}
use Rattle.tr_session.proofs.PlayingLemmas.{does_both, outcome_of_last}
use Rattle.tr_session.proofs.TakenLemmas.{added_taken, taken-append}

-- ---- the session after a line

-- after `begin` each line is behind it
begun_next : (c : SoFar) (w : List ℕ) (m : Meaning) → allows places.Gap (sort_of_meaning m) ≡ true → has_begun (after_meaning c w m).place ≡ true
begun_next c w (meanings.Version n) allowed = absurd (false-true allowed)
begun_next c w (meanings.Item (items.Screen size kind)) allowed = absurd (false-true allowed)
begun_next c w (meanings.Item (items.Glyph byte rows)) allowed = absurd (false-true allowed)
begun_next c w (meanings.Item (items.Node kind tint)) allowed = absurd (false-true allowed)
begun_next c w (meanings.Item (items.Leaf shapes content)) allowed = absurd (false-true allowed)
begun_next c w (meanings.Item (items.Put child parent at)) allowed = absurd (false-true allowed)
begun_next c w (meanings.Item (items.Root node)) allowed = absurd (false-true allowed)
begun_next c w m allowed = refl

begun_after : (c : SoFar) (line : List ℕ) (d : SoFar) → has_begun c.place ≡ true → AddsLine c line d → has_begun d.place ≡ true
begun_after c line d begun (silently said is) = ap (λ (e : SoFar). has_begun e.place) is ∙ begun
begun_after c line d begun (alone m said needs is) =
    ap (λ (e : SoFar). has_begun e.place) is ∙ begun_next c (word_at (words_of line) 1) m said.allowed
begun_after c line d begun (behind_sync m said needs is) =
    ap (λ (e : SoFar). has_begun e.place) is ∙ begun_next (after_meaning c [] meanings.Sync) (word_at (words_of line) 1) m said.allowed

-- the lines of the session after more lines
pub so_far_after : (s : SessionView) (more : List (List ℕ)) (screen : Option Picture) →
    script_so_far (with_more_lines s more screen) ≡ after_all_lines (script_so_far s) more
so_far_after s more screen = after_all_lines-append nothing_yet s.lines more

-- the state of a stage that has played the lines
pub state_of_lines : (s : SessionView) (b : RunView Widget WidgetCmd) → HasPlayedLines (script_so_far s) b → state widgets b.stage ≡ stage_state s
state_of_lines s b played = state_is (script_so_far s) b played

-- a session with more lines that are taken is one, if its stage has played them and its screen is right
pub session_with : (s : SessionView) (more : List (List ℕ)) (b : RunView Widget WidgetCmd) (screen : Picture) → IsSession s →
    AreTaken (script_so_far s) more → has_begun (after_all_lines (script_so_far s) more).place ≡ true →
    HasPlayedLines (after_all_lines (script_so_far s) more) b →
    IsPicture screen × Agrees widgets (state widgets b.stage) screen → IsSession (with_more_lines s more (Some screen))
session_with s more b screen session taken begun played right =
    let t = with_more_lines s more (Some screen) in
    let joined : script_so_far t ≡ after_all_lines (script_so_far s) more = so_far_after s more (Some screen) in
    record {
      taken = taken-append nothing_yet s.lines more session.taken taken;
      begun = sym (ap (λ (d : SoFar). has_begun d.place) joined ∙ begun);
      shown = subst (λ (m : State Widget WidgetCmd). IsPicture screen × Agrees widgets m screen)
          (state_of_lines t b (subst (λ (d : SoFar). HasPlayedLines d b) (sym joined) played)) right;
      cuts = session.cuts;
    }

-- after a line behind `begin`
pub session_after : (s : SessionView) (line : List ℕ) (b : RunView Widget WidgetCmd) (screen : Picture) → IsSession s →
    fault_of_line (script_so_far s) line ≡ None → has_begun (script_so_far s).place ≡ true →
    HasPlayedLines (after_all_lines (script_so_far s) (added_lines (script_so_far s) line)) b →
    IsPicture screen × Agrees widgets (state widgets b.stage) screen →
    IsSession (with_more_lines s (added_lines (script_so_far s) line) (Some screen))
session_after s line b screen session none begun played right =
    let c : SoFar = script_so_far s in
    session_with s (added_lines c line) b screen session (added_taken c line none)
    (begun_after c line (after_all_lines c (added_lines c line)) begun (follows c line begun none)) played right

-- the same lines with a screen that is right, too
pub session_same : (s : SessionView) (screen : Picture) → IsSession s → has_begun (script_so_far s).place ≡ true →
    IsPicture screen × Agrees widgets (stage_state s) screen → IsSession (record s { screen = Some screen })
session_same s screen session begun right = record { taken = session.taken; begun = sym begun; shown = right; cuts = session.cuts }

-- ---- the text of an answer

-- the outcome of a step
module _ (s : SessionView) (a b : RunView Widget WidgetCmd) (played : HasPlayedLines (script_so_far s) a) where
  outcome_is : (actor : Actor) (step : Step WidgetCmd) (outcome : List ℕ) → Does widgets widget_words a b (makes actor step ∷ []) →
      HasOutcome b [] outcome →
      outcome ≡ flat_map (outcome_text (script_so_far s).names) (run_lines widgets (stage_state s) (makes actor step ∷ []))
  outcome_is actor step outcome did has =
      let line : JournalLine WidgetCmd = line_of_step widgets (state widgets a.stage) actor (stated step) step in
      outcome_of_last b a.stage.journal line [] outcome did.journal has
      ∙ ap (λ (names : Names). outcome_text names line) (did.names ∙ played.names)
      ∙ ap (λ (m : State Widget WidgetCmd). outcome_text (script_so_far s).names (line_of_step widgets m actor (stated step) step)) (state_of_lines s a played)
      ∙ sym (append-nil (outcome_text (script_so_far s).names (line_of_step widgets (stage_state s) actor (stated step) step)))

  -- the text of a report, after the sync that it needs
  report_is : (query : Query) → a.mode ≡ Serial → a.text ≡ [] → Does widgets widget_words a b (cues_for (script_so_far s) (Some (meanings.Report query))) →
      b.text ≡ text_for_line s (Some (meanings.Report query))
  report_is query serial none did =
      let cues = cues_for (script_so_far s) (Some (meanings.Report query)) in
      did.text
      ∙ ap (λ (text : List ℕ). text ++ texts_from widgets widget_words a.names a.mode a.stage.journal (state widgets a.stage)
      (run_lines widgets (state widgets a.stage) cues)) none
      ∙ ap (λ (names : Names). texts_from widgets widget_words names a.mode a.stage.journal (state widgets a.stage)
      (run_lines widgets (state widgets a.stage) cues)) played.names
      ∙ ap (λ (mode : Mode). texts_from widgets widget_words (script_so_far s).names mode a.stage.journal (state widgets a.stage)
      (run_lines widgets (state widgets a.stage) cues)) serial
      ∙ ap (λ (lines : List (JournalLine WidgetCmd)). texts_from widgets widget_words (script_so_far s).names Serial lines (state widgets a.stage)
      (run_lines widgets (state widgets a.stage) cues)) played.journal
      ∙ ap (λ (m : State Widget WidgetCmd). texts_from widgets widget_words (script_so_far s).names Serial (journal_of s) m (run_lines widgets m cues))
      (state_of_lines s a played)

-- a line was done, after a sync if it needed one: the answer that is told is the one that is due
pub tells_text : (s : SessionView) (said : Option Meaning) (synced : Bool) (a now b : RunView Widget WidgetCmd) (outcome bytes : List ℕ) →
    HasPlayedLines (script_so_far s) a → a.mode ≡ Serial → a.text ≡ [] → synced ≡ needs_sync (script_so_far s) said →
    Does widgets widget_words a now (cond synced (makes Player Sync ∷ []) []) → Does widgets widget_words now b (cues_of_meaning said) →
    (has_outcome said ≡ true → HasOutcome b [] outcome) → Tells (meaning_sort said) outcome b.text bytes (Ok tt) →
    bytes ≡ answer_bytes (text (text_for_line s said))
tells_text s said synced a now b outcome bytes played serial none is first last has tells =
    by_meaning said (does_both (script_so_far s) said synced a now b is first last) has tells
  where
    by_meaning : (said : Option Meaning) → Does widgets widget_words a b (cues_for (script_so_far s) said) →
        (has_outcome said ≡ true → HasOutcome b [] outcome) → Tells (meaning_sort said) outcome b.text bytes (Ok tt) →
        bytes ≡ answer_bytes (text (text_for_line s said))
    by_meaning (Some (meanings.Step actor step)) did has tells =
        tells ∙ ap (λ (t : List ℕ). answer_bytes (text t)) (outcome_is s a b played actor step outcome did (has refl))
    by_meaning (Some meanings.Sync) did has tells =
        tells ∙ ap (λ (t : List ℕ). answer_bytes (text t)) (outcome_is s a b played Player Sync outcome did (has refl))
    by_meaning (Some (meanings.Report query)) did has tells =
        tells ∙ ap (λ (t : List ℕ). answer_bytes (text t)) (report_is s a b played query serial none did)
    by_meaning (Some (meanings.Version n)) did has tells = tells
    by_meaning (Some (meanings.Item item)) did has tells = tells
    by_meaning (Some meanings.Begin) did has tells = tells
    by_meaning (Some meanings.End) did has tells = tells
    by_meaning None did has tells = tells
