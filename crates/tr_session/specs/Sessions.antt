-- The model of a session.
use Rattle.std.specs.Prelude.{◌≡◌, ℕ, ⊤, false, List, [], ◌∷◌, ◌++◌, Option, Some, None, is_some, if◌then◌else◌}
use Rattle.tr_screen.specs.Pictures.{IsPicture, Picture}
use Rattle.tr_journal.specs.declared.Actor.TheVariants.{Player}
use Rattle.tr_journal.specs.declared.Step.TheVariants.{Sync}
use Rattle.tr_journal.specs.Journals.{JournalLine}
use Rattle.tr_widget.specs.declared.Widget.{Widget}
use Rattle.tr_widget.specs.declared.WidgetCmd.{WidgetCmd}
use Rattle.tr_machine.specs.States.{State}
use Rattle.tr_machine.specs.Replays.{replay}
use Rattle.tr_machine.specs.Promises.{Agrees}
use Rattle.tr_grammar.specs.declared.Meaning.{Meaning}
use Rattle.tr_grammar.specs.declared.Meaning.TheVariants as meanings
use Rattle.tr_grammar.specs.States.{SoFar, nothing_yet}
use Rattle.tr_grammar.specs.Scripts.{after_all_lines, after_line, whole}
use Rattle.tr_script.specs.Apart.{meaning_of_line}
use Rattle.tr_run.specs.Runs.{Cue, makes, reporting, run_lines}
use Rattle.tr_serial.specs.Outputs.{serial_journal, widgets}
use Rattle.tr_gen.specs.Scripts.{text_of_lines}
use Rattle.tr_session.specs.Cuts.{AreCuts, CutsSoFar, no_cut}
use Rattle.tr_session.specs.Lines.{fault_of_line, has_begun, last_lines, needs_sync}

-- the lines of the script so far; the screen, once there is one, whose bad points may have any pixel; and the cuts so far
pub record SessionView : Type 0 where
  pub lines : List (List ℕ)
  pub screen : Option Picture
  pub cuts : CutsSoFar

-- before the first line
abbrev pub no_session : SessionView
no_session = record { lines = []; screen = None; cuts = no_cut }

-- the meaning of the lines
abbrev pub script_so_far : SessionView → SoFar
script_so_far s = after_all_lines nothing_yet s.lines

-- the journal of the stage: that of `serial` for these lines
abbrev pub journal_of : SessionView → List (JournalLine WidgetCmd)
journal_of s = serial_journal (whole (script_so_far s))

-- the state of the stage
abbrev pub stage_state : SessionView → State Widget WidgetCmd
stage_state s = replay widgets (script_so_far s).items (journal_of s)

-- the sync before a line with this meaning, if it needs one
abbrev pub sync_cues : SoFar → Option Meaning → List (Cue WidgetCmd)
sync_cues c said = if needs_sync c said then makes Player Sync ∷ [] else []

-- the cues of a line with this meaning
abbrev pub cues_for : SoFar → Option Meaning → List (Cue WidgetCmd)
cues_for c (Some (meanings.Step actor step)) = makes actor step ∷ []
cues_for c (Some meanings.Sync) = makes Player Sync ∷ []
cues_for c (Some (meanings.Report query)) = sync_cues c (Some (meanings.Report query)) ++ reporting query
cues_for c (Some meanings.End) = sync_cues c (Some meanings.End)
cues_for c said = []

-- the lines of the journal that a line with this meaning makes
abbrev pub lines_made_by : SessionView → Option Meaning → List (JournalLine WidgetCmd)
lines_made_by s said = run_lines widgets (stage_state s) (cues_for (script_so_far s) said)

-- the session with these additional lines, and this screen
abbrev pub with_more_lines : SessionView → List (List ℕ) → Option Picture → SessionView
with_more_lines s more screen = record s { lines = s.lines ++ more; screen = screen }

-- the text of `!save`: the lines so far, and those that make a script of them
abbrev pub saved_text : SessionView → List ℕ
saved_text s = text_of_lines (s.lines ++ last_lines (script_so_far s))

-- ---- the invariant of a session

-- each line has no fault after those before it, and a sync comes before each line that needs one
abbrev pub AreTaken : SoFar → List (List ℕ) → Type 0
AreTaken c [] = ⊤
AreTaken c (line ∷ lines) =
    (fault_of_line c line ≡ None) × (needs_sync c (meaning_of_line c line) ≡ false) × AreTaken (after_line c line) lines

-- the screen, if there is one, is a picture, and those of its points that aren't bad are right
abbrev pub IsRightScreen : SessionView → Option Picture → Type 0
IsRightScreen s None = ⊤
IsRightScreen s (Some screen) = IsPicture screen × Agrees widgets (stage_state s) screen

-- the lines were taken one after another, a screen is there once `begin` was read, and it is right
pub record IsSession (s : SessionView) : Type 0 where
  pub taken : AreTaken nothing_yet s.lines
  pub begun : is_some s.screen ≡ has_begun (script_so_far s).place
  pub shown : IsRightScreen s s.screen
  pub cuts : AreCuts s.cuts
