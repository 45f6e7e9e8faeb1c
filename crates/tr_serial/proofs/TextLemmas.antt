-- What `serial` writes, report by report. The texts of the screens that a script dumps are those of its dumps.
use Rattle.std.proofs.Common.{◌≡◌, ℕ, Bool, true, false, List, [], ◌∷◌, ◌++◌, refl, sym, ap, ◌∙◌}
use Rattle.std.specs.List.{filter, flat_map}
use Rattle.std.proofs.lemmas.List.{append-nil}
use Rattle.std.proofs.lemmas.List.Elements.{filter-append}
use Rattle.std.proofs.lemmas.List.Concat.{flat_map-append}
use Rattle.tr_client.specs.declared.Client.{Ghosts}
use Rattle.tr_journal.specs.declared.Query.{Query}
use Rattle.tr_journal.specs.declared.Query.TheVariants as queries
use Rattle.tr_journal.specs.declared.Step.{Step}
use Rattle.tr_journal.specs.declared.Step.TheVariants as steps
use Rattle.tr_journal.specs.Journals.{JournalLine}
use Rattle.tr_journal.specs.Names.{Names}
use Rattle.tr_machine.specs.States.{State, start}
use Rattle.tr_machine.specs.Replays.{next}
use Rattle.tr_grammar.specs.Scripts.{Script}
use Rattle.tr_widget.specs.Widgets.{widget_words}
use Rattle.tr_dump.specs.Reports.{dump_text}
use Rattle.tr_run.specs.declared.Mode.TheVariants.{Serial}
use Rattle.tr_run.specs.Texts.{report_text, told_text, texts_from}
use Rattle.tr_serial.specs.Outputs.{widgets, serial_journal, out_text}
use Rattle.tr_serial.specs.Reports.{ReportWithText, is_dump, report_of, report_texts, reports_from, reports_of}
use Rattle.tr_serial.specs.Screens.{dumped, dumped_screens, screens_from}

told-append : (xs ys : List ReportWithText) → report_texts (xs ++ ys) ≡ report_texts xs ++ report_texts ys
told-append xs ys = flat_map-append (λ (r : ReportWithText). r.1) xs ys

module _ {C M : Type 0} (client : Ghosts C M) (words : M → List ℕ) (names : Names) where
  told_one : (lines : List (JournalLine M)) (m : State C M) (step : Step M) →
      told_text client words names lines m step ≡ report_texts (report_of client words names lines m step)
  told_one lines m (steps.Report query) = sym (append-nil (report_text client words names lines m query))
  told_one lines m step = refl

  dumped_one : (lines : List (JournalLine M)) (m : State C M) (step : Step M) →
      flat_map dump_text (dumped client m step) ≡ report_texts (filter is_dump (report_of client words names lines m step))
  dumped_one lines m (steps.Report queries.Dump) = refl
  dumped_one lines m (steps.Report query) = refl
  dumped_one lines m step = refl

  -- what is written is the texts of all reports
  pub texts_told : (earlier : List (JournalLine M)) (m : State C M) (lines : List (JournalLine M)) →
      texts_from client words names Serial earlier m lines ≡ report_texts (reports_from client words names earlier m lines)
  texts_told earlier m [] = refl
  texts_told earlier m (line ∷ later) =
      let here = report_of client words names earlier m line.entry.step in
      let after : State C M = next client m line.entry.step in
      let further : List (JournalLine M) = earlier ++ line ∷ [] in
      ap (λ (l : List ℕ). l ++ texts_from client words names Serial further after later) (told_one earlier m line.entry.step)
      ∙ ap (λ (l : List ℕ). report_texts here ++ l) (texts_told further after later)
      ∙ sym (told-append here (reports_from client words names further after later))

  -- the texts of the screens are those of the dumps
  pub screens_told : (earlier : List (JournalLine M)) (m : State C M) (lines : List (JournalLine M)) →
      flat_map dump_text (screens_from client m lines) ≡ report_texts (filter is_dump (reports_from client words names earlier m lines))
  screens_told earlier m [] = refl
  screens_told earlier m (line ∷ later) =
      let step = line.entry.step in
      let here = report_of client words names earlier m step in
      let after : State C M = next client m step in
      let rest = reports_from client words names (earlier ++ line ∷ []) after later in
      flat_map-append dump_text (dumped client m step) (screens_from client after later)
      ∙ ap (λ (l : List ℕ). l ++ flat_map dump_text (screens_from client after later)) (dumped_one earlier m step)
      ∙ ap (λ (l : List ℕ). report_texts (filter is_dump here) ++ l) (screens_told (earlier ++ line ∷ []) after later)
      ∙ sym (told-append (filter is_dump here) (filter is_dump rest))
      ∙ ap (λ (l : List ReportWithText). report_texts l) (sym (filter-append is_dump here rest))

-- `serial` writes the texts of all reports, and the texts of the dumped screens are those of the dumps among them
pub serial_reports : (s : Script) → (out_text s ≡ report_texts (reports_of s))
    × (flat_map dump_text (dumped_screens s) ≡ report_texts (filter is_dump (reports_of s)))
serial_reports s = (
  texts_told widgets widget_words s.names [] (start s.opening) (serial_journal s),
  screens_told widgets widget_words s.names [] (start s.opening) (serial_journal s),
)
