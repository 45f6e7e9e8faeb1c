-- The text of `serial` for the lines of a session: the reports, one after another.
use Rattle.std.proofs.Common.{◌≡◌, ℕ, Bool, true, false, List, [], ◌∷◌, ◌++◌, Some, None, cond, refl, sym, ap, ◌∙◌}
use Rattle.std.specs.Prelude.{Option, codes, not}
use Rattle.std.specs.List.{list_all}
use Rattle.std.proofs.lemmas.Bool.{and_from}
use Rattle.std.proofs.lemmas.List.{append-nil}
use Rattle.std.proofs.lemmas.List.Folds.{list_all-append}
use Rattle.tr_base.proofs.RectLemmas.{false-true}
use Rattle.tr_screen.specs.Pictures.{Picture}
use Rattle.tr_journal.specs.declared.Actor.TheVariants.{Player}
use Rattle.tr_journal.specs.declared.Item.{Item}
use Rattle.tr_journal.specs.declared.Step.{Step}
use Rattle.tr_journal.specs.declared.Step.TheVariants as steps
use Rattle.tr_journal.specs.Journals.{JournalLine}
use Rattle.tr_journal.specs.Names.{Names}
use Rattle.tr_journal.specs.Reports.{is_report}
use Rattle.tr_machine.specs.States.{State, start}
use Rattle.tr_machine.specs.Replays.{replay}
use Rattle.tr_widget.specs.declared.Widget.{Widget}
use Rattle.tr_widget.specs.declared.WidgetCmd.{WidgetCmd}
use Rattle.tr_widget.specs.Widgets.{widget_words}
use Rattle.tr_grammar.specs.declared.Meaning.{Meaning}
use Rattle.tr_grammar.specs.declared.Meaning.TheVariants as meanings
use Rattle.tr_grammar.specs.Forms.{Form, Version}
use Rattle.tr_grammar.specs.Meanings.{meaning_of}
use Rattle.tr_grammar.specs.States.{SoFar, empty_part, nothing_yet}
use Rattle.tr_grammar.specs.Texts.{is_plain, is_silent}
use Rattle.tr_grammar.specs.declared.Place.TheVariants as places
use Rattle.tr_grammar.specs.Words.{words_of}
use Rattle.tr_grammar.specs.Faults.{allows, has_ended}
use Rattle.tr_grammar.specs.Scripts.{after_all_lines, after_line, script_of, whole}
use Rattle.tr_grammar.proofs.ScriptLemmas.{after_all_lines-append}
use Rattle.tr_gen_valid.proofs.Cutting.{lines_of-text_of}
use Rattle.tr_reader.specs.Adding.{is_at_steps, sort_of_meaning}
use Rattle.tr_run.specs.Runs.{Cue, makes, run_lines}
use Rattle.tr_run.specs.Texts.{texts_from, told_text}
use Rattle.tr_run.specs.declared.Mode.TheVariants.{Serial}
use Rattle.tr_run.proofs.RunLemmas.{texts_from-append}
use Rattle.tr_script.specs.Apart.{meaning_of_line}
use Rattle.tr_serial.specs.Outputs.{out_text, serial_journal, widgets}
use Rattle.tr_session.specs.Laws.{ReportsAll, ReportsOne, report_for}
use Rattle.tr_session.specs.Lines.{added_lines, at_any_time, fault_of_line, has_begun, last_lines, needs_sync, sync_lines}
use Rattle.tr_session.specs.Sessions.{SessionView, cues_for, journal_of, script_so_far, stage_state}
use Rattle.tr_session.proofs.CueLemmas.{Continues, journal_adds, sync_more}
use Rattle.tr_session.proofs.KeepingLemmas.{continues_after, follows}
use Rattle.tr_session.proofs.LimitLemmas.{plain_all}
use Rattle.tr_session.proofs.OpenLemmas.{no_journal, no_part, no_report_yet, open_after, opens}
use Rattle.tr_session.proofs.SavedLemmas.{end_follows, sync_leads}
use Rattle.tr_session.proofs.ScriptLemmas.{silent_meaning}
use Rattle.tr_session.proofs.TakenLemmas.{Rests, has_meaning, rested_all}
use Rattle.tr_session.proofs.TellingLemmas.{so_far_after}

-- ---- the text of more lines

-- the text of additional cues
abbrev text_of_cues : SoFar → List (Cue WidgetCmd) → List ℕ
text_of_cues c more =
    let journal = serial_journal (whole c) in
    let m = replay widgets c.items journal in
    texts_from widgets widget_words c.names Serial journal m (run_lines widgets m more)

text_adds : (c d : SoFar) (more : List (Cue WidgetCmd)) → Continues c d more → out_text (whole d) ≡ out_text (whole c) ++ text_of_cues c more
text_adds c d more on =
    let journal = serial_journal (whole c) in
    ap (λ (names : Names). texts_from widgets widget_words names Serial [] (start d.items) (serial_journal (whole d))) on.names
    ∙ ap (λ (items : List (Item Widget)). texts_from widgets widget_words c.names Serial [] (start items) (serial_journal (whole d))) on.items
    ∙ ap (λ (lines : List (JournalLine WidgetCmd)). texts_from widgets widget_words c.names Serial [] (start c.items) lines) (journal_adds c d more on)
    ∙ texts_from-append widgets widget_words c.names Serial [] (start c.items) journal (run_lines widgets (replay widgets c.items journal) more)

-- ---- a line that is no report has no text

-- the meaning of a line makes no report as a step
abbrev is_quiet : Option Meaning → Bool
is_quiet (Some (meanings.Step actor step)) = not (is_report step)
is_quiet said = true

quiet_form : (names : Names) (ws : List (List ℕ)) (f : Form) → is_quiet (Some (meaning_of names ws f)) ≡ true
quiet_form names ws Version = refl
quiet_form names ws f = refl

quiet_line : (c : SoFar) (line : List ℕ) → fault_of_line c line ≡ None → is_quiet (meaning_of_line c line) ≡ true
quiet_line c line none = by_silence (is_silent line) refl
  where
    by_silence : (b : Bool) → is_silent line ≡ b → is_quiet (meaning_of_line c line) ≡ true
    by_silence true silent = ap is_quiet (silent_meaning c line silent)
    by_silence false loud =
        let has = has_meaning c line none loud in
        ap is_quiet (has.said ∙ ap Some has.means) ∙ quiet_form c.names (words_of line) has.form

quiet_text : (names : Names) (lines : List (JournalLine WidgetCmd)) (m : State Widget WidgetCmd) (step : Step WidgetCmd) →
    not (is_report step) ≡ true → told_text widgets widget_words names lines m step ≡ []
quiet_text names lines m (steps.Report query) quiet = absurd (false-true quiet)
quiet_text names lines m step quiet = refl

-- the cues of a line have the text of its report, if it is one
cues_tell : (s : SessionView) (said : Option Meaning) → is_quiet said ≡ true →
    text_of_cues (script_so_far s) (cues_for (script_so_far s) said) ≡ report_for s said
cues_tell s None quiet = refl
cues_tell s (Some (meanings.Version n)) quiet = refl
cues_tell s (Some (meanings.Item item)) quiet = refl
cues_tell s (Some meanings.Begin) quiet = refl
cues_tell s (Some (meanings.Step actor step)) quiet =
    ap (λ (t : List ℕ). t ++ []) (quiet_text (script_so_far s).names (journal_of s) (stage_state s) step quiet)
cues_tell s (Some meanings.Sync) quiet = refl
cues_tell s (Some (meanings.Report query)) quiet = refl
cues_tell s (Some meanings.End) quiet = by_sync (needs_sync (script_so_far s) (Some meanings.End))
  where
    by_sync : (b : Bool) → text_of_cues (script_so_far s) (cond b (makes Player steps.Sync ∷ []) []) ≡ []
    by_sync true = refl
    by_sync false = refl

-- ---- a line more

-- before `begin` nothing is written
pub none_told : (d : SoFar) → d.ended ≡ [] → d.part ≡ empty_part → out_text (whole d) ≡ []
none_told d ended part =
    ap (λ (lines : List (JournalLine WidgetCmd)). texts_from widgets widget_words d.names Serial [] (start d.items) lines) (no_journal d ended part)

no_report_said : (s : SessionView) (m : Meaning) → has_begun (script_so_far s).place ≡ false →
    allows (at_any_time (script_so_far s).place) (sort_of_meaning m) ≡ true → report_for s (Some m) ≡ []
no_report_said s (meanings.Report query) fresh allowed = absurd (no_report_yet (script_so_far s).place fresh allowed)
no_report_said s m fresh allowed = refl

-- no line before `begin` is a report
no_report : (s : SessionView) (line : List ℕ) → has_begun (script_so_far s).place ≡ false → fault_of_line (script_so_far s) line ≡ None →
    report_for s (meaning_of_line (script_so_far s) line) ≡ []
no_report s line fresh none = by_silence (is_silent line) refl
  where
    by_silence : (b : Bool) → is_silent line ≡ b → report_for s (meaning_of_line (script_so_far s) line) ≡ []
    by_silence true silent = ap (report_for s) (silent_meaning (script_so_far s) line silent)
    by_silence false loud =
        let has = has_meaning (script_so_far s) line none loud in
        ap (report_for s) has.said ∙ no_report_said s has.m fresh has.allowed

-- a line that is taken adds its report, if it is one, to the text of `serial`
pub reports_one : (s : SessionView) (line : List ℕ) (screen : Option Picture) → ReportsOne s line screen
reports_one s line screen session none =
    ap (λ (d : SoFar). out_text (whole d)) (so_far_after s (added_lines (script_so_far s) line) screen) ∙ by_begun (has_begun (script_so_far s).place) refl
  where
    rests : Rests (script_so_far s)
    rests = rested_all nothing_yet s.lines session.taken (refl, refl)

    by_begun : (b : Bool) → has_begun (script_so_far s).place ≡ b →
        out_text (whole (after_all_lines (script_so_far s) (added_lines (script_so_far s) line)))
        ≡ out_text (whole (script_so_far s)) ++ report_for s (meaning_of_line (script_so_far s) line)
    by_begun true begun =
        let c : SoFar = script_so_far s in
        let d : SoFar = after_all_lines c (added_lines c line) in
        let said = meaning_of_line c line in
        text_adds c d (cues_for c said) (continues_after c line d begun rests (follows c line begun none))
        ∙ ap (λ (t : List ℕ). out_text (whole c) ++ t) (cues_tell s said (quiet_line c line none))
    by_begun false fresh =
        let c : SoFar = script_so_far s in
        let on = open_after c line fresh none in
        let parts = no_part c rests fresh in
        ap (λ (e : SoFar). out_text (whole e)) (opens c line rests fresh none).added
        ∙ none_told (after_line c line) (on.ended ∙ parts.0) (on.part ∙ parts.1)
        ∙ sym (ap (λ (t : List ℕ). t ++ report_for s (meaning_of_line c line)) (none_told c parts.0 parts.1) ∙ no_report s line fresh none)

-- ---- the saved script

-- a sync has no text
sync_tells : (c : SoFar) → out_text (whole (after_line c (codes "sync"))) ≡ out_text (whole c)
sync_tells c =
    ap (λ (e : SoFar). out_text (whole e)) (sync_leads c)
    ∙ text_adds c (record c { place = places.Gap; ended = c.ended ++ c.part ∷ []; part = empty_part }) (makes Player steps.Sync ∷ [])
    (record { items = refl; names = refl; adds = sync_more c.ended c.part })
    ∙ append-nil (out_text (whole c))

last_plain : (c : SoFar) → list_all is_plain (last_lines c) ≡ true
unfolding is_plain
last_plain c = by_tests (has_ended c.place) (is_at_steps c.place)
  where
    by_tests : (ended at_steps : Bool) → list_all is_plain (cond ended [] (sync_lines at_steps ++ codes "end" ∷ [])) ≡ true
    by_tests true at_steps = refl
    by_tests false true = refl
    by_tests false false = refl

-- the lines that make a script of those so far have no text
last_tell : (c : SoFar) → out_text (whole (after_all_lines c (last_lines c))) ≡ out_text (whole c)
last_tell c = by_tests (has_ended c.place) (is_at_steps c.place)
  where
    by_tests : (ended at_steps : Bool) →
        out_text (whole (after_all_lines c (cond ended [] (sync_lines at_steps ++ codes "end" ∷ [])))) ≡ out_text (whole c)
    by_tests true at_steps = refl
    by_tests false true = ap (λ (e : SoFar). out_text (whole e)) (end_follows (after_line c (codes "sync"))) ∙ sync_tells c
    by_tests false false = ap (λ (e : SoFar). out_text (whole e)) (end_follows c)

-- `serial` writes for the saved script the reports of the session
pub reports_all : (s : SessionView) → ReportsAll s
unfolding script_of
reports_all s session within =
    let c : SoFar = script_so_far s in
    let plain : list_all is_plain (s.lines ++ last_lines c) ≡ true =
    list_all-append is_plain s.lines (last_lines c) ∙ and_from _ _ (plain_all nothing_yet s.lines session.taken) (last_plain c) in
    ap (λ (lines : List (List ℕ)). out_text (whole (after_all_lines nothing_yet lines))) (lines_of-text_of (s.lines ++ last_lines c) plain)
    ∙ ap (λ (d : SoFar). out_text (whole d)) (after_all_lines-append nothing_yet s.lines (last_lines c))
    ∙ last_tell c
