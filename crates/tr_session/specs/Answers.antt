-- The answer of a session to a line.
use Rattle.std.specs.Prelude.{◌≡◌, ℕ, Bool, true, false, ◌==◌, List, [], ◌∷◌, ◌++◌, length, count_by, Option, Some, None, is_some, codes, decimal}
use Rattle.std.specs.List.{flat_map}
use Rattle.tr_screen.specs.Pictures.{Picture}
use Rattle.tr_widget.specs.Widgets.{widget_words}
use Rattle.tr_grammar.specs.declared.Code.{Code}
use Rattle.tr_grammar.specs.declared.Code.TheVariants.{B5}
use Rattle.tr_grammar.specs.declared.Meaning.{Meaning}
use Rattle.tr_grammar.specs.declared.Meaning.TheVariants as meanings
use Rattle.tr_grammar.specs.Codes.{number_of_code}
use Rattle.tr_grammar.specs.Scripts.{refusal_of}
use Rattle.tr_script.specs.Apart.{meaning_of_line}
use Rattle.tr_dump.specs.Values.{line_text}
use Rattle.tr_dump.specs.Reports.{outcome_text}
use Rattle.tr_run.specs.declared.Mode.TheVariants.{Serial}
use Rattle.tr_run.specs.Texts.{texts_from}
use Rattle.tr_serial.specs.Outputs.{widgets}
use Rattle.tr_session.specs.declared.requests.Request.{Request}
use Rattle.tr_session.specs.declared.requests.Request.TheVariants.{Save, Cut, Quit, Script}
use Rattle.tr_session.specs.Cuts.{cut_bytes, fitted, with_cut}
use Rattle.tr_session.specs.Lines.{added_lines, fault_of_line, request_of}
use Rattle.tr_session.specs.Sessions.{IsSession, SessionView, script_so_far, journal_of, stage_state, lines_made_by, with_more_lines, saved_text}

-- ---- the bytes of an answer

-- an answer: lines; the lines of a script, and whether it is beyond a script's limits; bytes; a refusal; or a refusal for want of memory
pub data Answer : Type 0 where
  text : List ℕ → Answer
  saved : List ℕ → Bool → Answer
  bytes : List ℕ → Answer
  refused : Code → Answer
  no_memory : Answer

-- the number of line feeds of a text
abbrev pub line_count : List ℕ → ℕ
line_count t = count_by (λ b. b == 10) t

-- the end of the first line before the lines of a script, which may be beyond a script's limits
abbrev pub saved_tail : Bool → List ℕ
saved_tail true = codes " B7\n"
saved_tail false = codes "\n"

-- the bytes of an answer; its first line has the number of the lines or bytes after it
abbrev pub answer_bytes : Answer → List ℕ
answer_bytes (text t) = line_text (codes "ok" ∷ decimal (line_count t) ∷ []) ++ t
answer_bytes (saved t false) = line_text (codes "ok" ∷ decimal (line_count t) ∷ []) ++ t
answer_bytes (saved t true) = line_text (codes "ok" ∷ decimal (line_count t) ∷ codes "B7" ∷ []) ++ t
answer_bytes (bytes group) = line_text (codes "bytes" ∷ decimal (length group) ∷ []) ++ group
answer_bytes (refused code) = line_text (codes "refused" ∷ (codes "B" ++ decimal (number_of_code code)) ∷ [])
answer_bytes no_memory = codes "refused memory\n"

-- ---- the answer that is due

-- the text for a line without a fault: a step's outcome, a report's text, or nothing
abbrev pub text_for_line : SessionView → Option Meaning → List ℕ
text_for_line s (Some (meanings.Step actor step)) =
    flat_map (outcome_text (script_so_far s).names) (lines_made_by s (Some (meanings.Step actor step)))
text_for_line s (Some meanings.Sync) = flat_map (outcome_text (script_so_far s).names) (lines_made_by s (Some meanings.Sync))
text_for_line s (Some (meanings.Report query)) =
    texts_from widgets widget_words (script_so_far s).names Serial (journal_of s) (stage_state s)
    (lines_made_by s (Some (meanings.Report query)))
text_for_line s said = []

-- the answer to a line of a script with this fault, or without one
abbrev pub due_of_line : SessionView → List ℕ → Option Code → Answer
due_of_line s line (Some code) = refused code
due_of_line s line None = text (text_for_line s (meaning_of_line (script_so_far s) line))

-- the answer to `!save`; before `begin` there is no script to save
abbrev pub due_of_save : SessionView → Option Picture → Answer
due_of_save s None = refused B5
due_of_save s (Some screen) = saved (saved_text s) (is_some (refusal_of (saved_text s)))

-- the answer to `!cut`; before `begin` there is no screen
abbrev pub due_of_cut : SessionView → Option Picture → Answer
due_of_cut s None = refused B5
due_of_cut s (Some screen) = bytes (cut_bytes s.cuts (fitted screen))

-- the answer to a line with this request
abbrev pub due_for : SessionView → List ℕ → Request → Answer
due_for s line Save = due_of_save s s.screen
due_for s line Cut = due_of_cut s s.screen
due_for s line Quit = text []
due_for s line Script = due_of_line s line (fault_of_line (script_so_far s) line)

-- the request ends the session
abbrev pub is_quit : Request → Bool
is_quit Quit = true
is_quit request = false

-- the answer to a line
unfoldable pub due : SessionView → List ℕ → Answer
due s line = due_for s line (request_of line)

-- the session ends after this line
abbrev pub ends : List ℕ → Bool
ends line = is_quit (request_of line)

-- ---- the session after a line

-- after a line of a script; the screen is that of the stage afterwards
abbrev pub after_script_line : SessionView → List ℕ → Option Code → Option Picture → SessionView
after_script_line s line (Some code) screen = s
after_script_line s line None screen = with_more_lines s (added_lines (script_so_far s) line) screen

-- after a cut of this screen, if there is one
abbrev pub after_cut : SessionView → Option Picture → SessionView
after_cut s None = s
after_cut s (Some screen) = record s { cuts = with_cut s.cuts (fitted screen) }

-- after a line with this request
abbrev pub after_for : SessionView → List ℕ → Request → Option Picture → SessionView
after_for s line Save screen = s
after_for s line Cut screen = after_cut s s.screen
after_for s line Quit screen = s
after_for s line Script screen = after_script_line s line (fault_of_line (script_so_far s) line) screen

-- after a line that was answered
unfoldable pub after_reply : SessionView → List ℕ → Option Picture → SessionView
after_reply s line screen = after_for s line (request_of line) screen

-- after want of memory the session is unchanged, but that the bad points of the screen may have other pixels
abbrev pub DiffersByScreen : SessionView → SessionView → Type 0
DiffersByScreen s t = t ≡ record s { screen = t.screen }

-- the session t comes after s and this line, which got this answer; `!quit` needs no memory
abbrev pub ComesAfterLine : SessionView → List ℕ → Answer → SessionView → Type 0
ComesAfterLine s line no_memory t = DiffersByScreen s t × (ends line ≡ false)
ComesAfterLine s line answer t = (answer ≡ due s line) × (t ≡ after_reply s line t.screen)

-- so t does, and its screen is right
abbrev pub IsNextSession : SessionView → List ℕ → Answer → SessionView → Type 0
IsNextSession s line answer t = ComesAfterLine s line answer t × IsSession t

-- the session t comes after s and these lines, which got these answers
abbrev pub AreAnswered : SessionView → List (List ℕ) → List Answer → SessionView → Type 0
AreAnswered s [] [] t = t ≡ s
AreAnswered s (line ∷ lines) (answer ∷ answers) t =
    (now : SessionView) × IsNextSession s line answer now × AreAnswered now lines answers t
AreAnswered s lines answers t = ⊥
