-- The reports of a script, each with its text for `serial`.
use Rattle.std.specs.Prelude.{ℕ, Bool, true, false, List, [], ◌∷◌, ◌++◌}
use Rattle.std.specs.List.{flat_map}
use Rattle.tr_client.specs.declared.Client.{Ghosts}
use Rattle.tr_journal.specs.declared.Query.{Query}
use Rattle.tr_journal.specs.declared.Query.TheVariants as queries
use Rattle.tr_journal.specs.declared.Step.{Step}
use Rattle.tr_journal.specs.declared.Step.TheVariants as steps
use Rattle.tr_journal.specs.Journals.{JournalLine}
use Rattle.tr_journal.specs.Names.{Names}
use Rattle.tr_machine.specs.States.{State, start}
use Rattle.tr_machine.specs.Replays.{next}
use Rattle.tr_grammar.specs.Scripts.{Script}
use Rattle.tr_widget.specs.Widgets.{widget_words}
use Rattle.tr_run.specs.Texts.{report_text}
use Rattle.tr_serial.specs.Outputs.{widgets, serial_journal}

-- a report, and its text
abbrev pub ReportWithText : Type 0
ReportWithText = Query × List ℕ

-- their texts, one after another
abbrev pub report_texts : List ReportWithText → List ℕ
report_texts reports = flat_map (λ (r : ReportWithText). r.1) reports

-- the report is a dump of the screen
abbrev pub is_dump : ReportWithText → Bool
is_dump (queries.Dump, text) = true
is_dump (query, text) = false

module _ {C M : Type 0} (client : Ghosts C M) (words : M → List ℕ) (names : Names) where
  -- the report of a step, if it makes one, after these lines of the journal
  abbrev pub report_of : List (JournalLine M) → State C M → Step M → List ReportWithText
  report_of lines m (steps.Report query) = (query, report_text client words names lines m query) ∷ []
  report_of lines m step = []

  -- the reports of the later lines of a journal
  abbrev pub reports_from : List (JournalLine M) → State C M → List (JournalLine M) → List ReportWithText
  reports_from earlier m [] = []
  reports_from earlier m (line ∷ later) =
      report_of earlier m line.entry.step ++ reports_from (earlier ++ line ∷ []) (next client m line.entry.step) later

-- the reports of a script that is played on one thread
abbrev pub reports_of : Script → List ReportWithText
reports_of s = reports_from widgets widget_words s.names [] (start s.opening) (serial_journal s)
