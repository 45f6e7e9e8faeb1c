-- The laws of a session: a saved text is a script, `serial` writes for it the session's reports, and a reader of the cuts has the screens.
use Rattle.std.specs.Prelude.{◌≡◌, ◌≤◌, ⊤, ℕ, true, List, [], ◌∷◌, ◌++◌, length, All, IfSome, Option, Some, None}
use Rattle.std.specs.List.{flat_map}
use Rattle.tr_base.specs.declared.Point.{Point}
use Rattle.tr_screen.specs.Pictures.{IsPicture, Picture, pixel_of}
use Rattle.tr_mirror.specs.Standings.{has_pixel, most_groups}
use Rattle.tr_mirror.specs.Streams.{IsShowable, stream_of}
use Rattle.tr_mirror.specs.Readings.{IsStream, screens_shown}
use Rattle.tr_grammar.specs.declared.Code.TheVariants.{B7}
use Rattle.tr_grammar.specs.declared.Meaning.{Meaning}
use Rattle.tr_grammar.specs.declared.Meaning.TheVariants as meanings
use Rattle.tr_grammar.specs.Codes.{number_of_code}
use Rattle.tr_grammar.specs.Faults.{reports_so_far}
use Rattle.tr_grammar.specs.Scripts.{after_all_lines, most_script_bytes, refusal_of, script_of, whole}
use Rattle.tr_script.specs.Apart.{meaning_of_line}
use Rattle.tr_serial.specs.Outputs.{out_text}
use Rattle.tr_session.specs.Answers.{Answer, AreAnswered, bytes, text, text_for_line}
use Rattle.tr_session.specs.Cuts.{bytes_of_cuts, fitted, no_cut}
use Rattle.tr_session.specs.Lines.{added_lines, fault_of_line, has_begun, last_lines}
use Rattle.tr_session.specs.Sessions.{SessionView, IsSession, no_session, saved_text, script_so_far, with_more_lines}

-- the saved script is within the limits of scripts
pub record IsWithinScriptLimits (s : SessionView) : Type 0 where
  pub lines : length (s.lines ++ last_lines (script_so_far s)) ≤ 100000
  pub syncs : length (after_all_lines (script_so_far s) (last_lines (script_so_far s))).ended ≤ 1000
  pub reports : reports_so_far (script_so_far s) ≤ 64
  pub bytes : length (saved_text s) ≤ most_script_bytes

-- a saved text is a script, if it is within the limits
abbrev pub SavesAScript : SessionView → Type 0
SavesAScript s = IsSession s → has_begun (script_so_far s).place ≡ true → IsWithinScriptLimits s → refusal_of (saved_text s) ≡ None

-- a saved text that is no script is beyond the limits: B7 is the fault that is named
abbrev pub IsRefusedBeyond : SessionView → Type 0
IsRefusedBeyond s =
    IsSession s → has_begun (script_so_far s).place ≡ true →
    IfSome (refusal_of (saved_text s)) (λ refusal. refusal.code ≡ number_of_code B7)

-- the text of a line that is a report
abbrev pub report_for : SessionView → Option Meaning → List ℕ
report_for s (Some (meanings.Report query)) = text_for_line s (Some (meanings.Report query))
report_for s said = []

-- a line that is taken adds its report, if it is one, to the text of `serial`
abbrev pub ReportsOne : SessionView → List ℕ → Option Picture → Type 0
ReportsOne s line screen =
    IsSession s → fault_of_line (script_so_far s) line ≡ None →
    out_text (whole (script_so_far (with_more_lines s (added_lines (script_so_far s) line) screen)))
    ≡ out_text (whole (script_so_far s)) ++ report_for s (meaning_of_line (script_so_far s) line)

-- `serial` writes for the saved script the reports of the session
abbrev pub ReportsAll : SessionView → Type 0
ReportsAll s = IsSession s → IsWithinScriptLimits s → out_text (script_of (saved_text s)) ≡ out_text (whole (script_so_far s))

-- the text of a report in an answer to a line with this meaning, if it is one
abbrev pub report_in : Answer → Option Meaning → List ℕ
report_in (text told) (Some (meanings.Report query)) = told
report_in answer said = []

-- the reports in the answers to these lines, one after another; `all` has the session before each line
abbrev pub reports_in : (s : SessionView) (lines : List (List ℕ)) (answers : List Answer) (t : SessionView) →
    AreAnswered s lines answers t → List ℕ
reports_in s (line ∷ lines) (answer ∷ answers) t all =
    report_in answer (meaning_of_line (script_so_far s) line) ++ reports_in all.0 lines answers t all.2
reports_in s lines answers t all = []

-- `serial` writes for the last saved script the reports in the answers to all lines
abbrev pub WritesAsSerial : List (List ℕ) → List Answer → SessionView → Type 0
WritesAsSerial lines answers last =
    (all : AreAnswered no_session lines answers last) → IsWithinScriptLimits last →
    out_text (script_of (saved_text last)) ≡ reports_in no_session lines answers last all

-- a reader of the stream of these screens has them
pub record ShowsScreens (screens : List Picture) : Type 0 where
  pub is_stream : IsStream (stream_of screens)
  pub shows : screens_shown (stream_of screens) ≡ screens

-- each of these streams but the last has 64 screens, and the last at most 64
abbrev pub AreFull : List (List Picture) → Type 0
AreFull [] = ⊤
AreFull (screens ∷ []) = length screens ≤ most_groups
AreFull (screens ∷ more) = (length screens ≡ most_groups) × AreFull more

-- the cuts of these screens are streams, one after another, and readers of the streams have the screens
pub record ShowsCuts (screens : List Picture) : Type 0 where
  pub streams : List (List Picture)
  pub full : AreFull streams
  pub whole : flat_map (λ part. part) streams ≡ screens
  pub bytes : bytes_of_cuts no_cut screens ≡ flat_map stream_of streams
  pub shown : All ShowsScreens streams

-- so it is for screens that a stream can show
abbrev pub CutsAreShown : List Picture → Type 0
CutsAreShown screens = All IsShowable screens → ShowsCuts screens

-- a stream can show the screen of each cut
abbrev pub IsFittedToShow : Picture → Type 0
IsFittedToShow p = IsPicture p → IsShowable (fitted p)

-- a cut keeps the pixel of a point, if that is a value of the kind
abbrev pub KeepsPixel : Picture → Point → Type 0
KeepsPixel p at = has_pixel p.kind (pixel_of p at) ≡ true → pixel_of (fitted p) at ≡ pixel_of p at

-- a cut of a screen that a stream can show has that screen
abbrev pub IsFittedAsItIs : Picture → Type 0
IsFittedAsItIs p = IsShowable p → fitted p ≡ p

-- the bytes of an answer that is a cut
abbrev pub cut_in : Answer → List ℕ
cut_in (bytes group) = group
cut_in answer = []

-- the screen of an answer that is a cut
abbrev pub screen_of_cut : Answer → Option Picture → List Picture
screen_of_cut (bytes group) (Some screen) = fitted screen ∷ []
screen_of_cut answer screen = []

-- the screens of the cuts in these answers, one after another, each from the session before its line
abbrev pub screens_in : (s : SessionView) (lines : List (List ℕ)) (answers : List Answer) (t : SessionView) →
    AreAnswered s lines answers t → List Picture
screens_in s (line ∷ lines) (answer ∷ answers) t all = screen_of_cut answer s.screen ++ screens_in all.0 lines answers t all.2
screens_in s lines answers t all = []

-- the cuts in the answers to all lines are those of the session's screens, and readers of their streams have these
pub record WritesCuts (lines : List (List ℕ)) (answers : List Answer) (last : SessionView)
    (all : AreAnswered no_session lines answers last) : Type 0 where
  pub cuts : flat_map cut_in answers ≡ bytes_of_cuts no_cut (screens_in no_session lines answers last all)
  pub shown : ShowsCuts (screens_in no_session lines answers last all)
