-- A script on one thread: its journal and its texts.
use Rattle.std.specs.Prelude.{ℕ, List, [], ◌∷◌, ◌++◌, length, map, codes, decimal}
use Rattle.std.specs.List.{flat_map}
use Rattle.tr_client.specs.declared.Client.{Ghosts}
use Rattle.tr_journal.specs.declared.Actor.TheVariants.{Player}
use Rattle.tr_journal.specs.declared.Step.TheVariants as steps
use Rattle.tr_journal.specs.Journals.{JournalLine}
use Rattle.tr_machine.specs.States.{start}
use Rattle.tr_widget.specs.declared.Widget.{Widget}
use Rattle.tr_widget.specs.declared.WidgetCmd.{WidgetCmd}
use Rattle.tr_widget.specs.Widgets.{IsWidget, widget_pic, widget_next, widget_patch, widget_answer, widget_value, widget_keeps, widget_words}
use Rattle.tr_journal.specs.Parts.{Part}
use Rattle.tr_grammar.specs.Texts.{lines_of}
use Rattle.tr_grammar.specs.Scripts.{Script, script_of}
use Rattle.tr_dump.specs.Values.{line_text}
use Rattle.tr_gen.specs.Scripts as gen
use Rattle.tr_run.specs.declared.Mode.{Mode}
use Rattle.tr_run.specs.declared.Mode.TheVariants.{Serial, Check, Gen}
use Rattle.tr_run.specs.Runs.{Cue, makes, reporting, run_lines}
use Rattle.tr_run.specs.Texts.{texts_from, sum_from}

-- the widgets, as the contents of the windows of a script
abbrev pub widgets : Ghosts Widget WidgetCmd
widgets = record {
  valid = IsWidget;
  pic = widget_pic;
  next = widget_next;
  patch = widget_patch;
  answer = widget_answer;
  value = widget_value;
  keeps = widget_keeps;
}

-- the cues of a part: its reports, then its steps
abbrev pub part_cues : Part WidgetCmd → List (Cue WidgetCmd)
part_cues part = flat_map reporting part.reports ++ map (λ made. makes made.0 made.1) part.steps

-- a later part begins with a sync
abbrev pub later_cues : Part WidgetCmd → List (Cue WidgetCmd)
later_cues part = makes Player steps.Sync ∷ part_cues part

-- the cues of all parts
abbrev pub cues : List (Part WidgetCmd) → List (Cue WidgetCmd)
cues [] = []
cues (part ∷ parts) = part_cues part ++ flat_map later_cues parts

-- the journal of a script that is played on one thread
abbrev pub serial_journal : Script → List (JournalLine WidgetCmd)
serial_journal s = run_lines widgets (start s.opening) (cues s.parts)

-- the text of a script in a mode
abbrev pub played_text : Mode → Script → List ℕ
played_text mode s = texts_from widgets widget_words s.names mode [] (start s.opening) (serial_journal s)

-- the sum of the last dump's pixels, in the mode that adds them up, else 0
abbrev pub played_sum : Mode → Script → ℕ
played_sum mode s = sum_from widgets mode (start s.opening) 0 (serial_journal s)

-- the text of `serial`: the texts of the reports
abbrev pub out_text : Script → List ℕ
out_text s = played_text Serial s

-- the text of `check`: also the number of points that lag behind the windows, after each entry but a sync's or a report's
abbrev pub check_text : Script → List ℕ
check_text s = played_text Check s

-- the script that is drawn from a number
abbrev pub drawn : ℕ → Script
drawn number = script_of (gen.script_of_number number)

-- the lines of a summary
abbrev pub summary_text : ℕ → ℕ → ℕ → ℕ → List ℕ
summary_text number lines entries sum =
    line_text (codes "gen" ∷ decimal number ∷ [])
    ++ line_text (codes "lines" ∷ decimal lines ∷ [])
    ++ line_text (codes "entries" ∷ decimal entries ∷ [])
    ++ line_text (codes "sum" ∷ decimal sum ∷ [])

-- the text of `gen`: the number of the script's lines, the number of its journal's entries, and the sum of the pixels of its last dump
abbrev pub gen_text : ℕ → List ℕ
gen_text number =
    let s = drawn number in
    summary_text number (length (lines_of (gen.script_of_number number))) (length (serial_journal s)) (played_sum Gen s)
