-- The reports that a session wrote: those of `serial` for the text that it saves.
use Rattle.std.proofs.Common.{◌≡◌, ℕ, List, [], ◌∷◌, ◌++◌, Some, None, append_assoc, refl, sym, ap, subst, ◌∙◌}
use Rattle.std.specs.Prelude.{Option}
use Rattle.std.proofs.lemmas.List.{append-nil}
use Rattle.tr_screen.specs.Pictures.{Picture}
use Rattle.tr_grammar.specs.declared.Code.{Code}
use Rattle.tr_grammar.specs.declared.Meaning.{Meaning}
use Rattle.tr_grammar.specs.declared.Meaning.TheVariants as meanings
use Rattle.tr_grammar.specs.States.{nothing_yet}
use Rattle.tr_grammar.specs.Scripts.{whole}
use Rattle.tr_script.specs.Apart.{meaning_of_line}
use Rattle.tr_serial.specs.Outputs.{out_text}
use Rattle.tr_session.specs.declared.requests.Request.{Request}
use Rattle.tr_session.specs.declared.requests.Request.TheVariants.{Save, Cut, Quit, Script}
use Rattle.tr_session.specs.Answers.{Answer, AreAnswered, ComesAfterLine, after_cut, after_for, after_reply, after_script_line, bytes, due, due_for, due_of_cut, due_of_line, due_of_save, no_memory, refused, saved, text, text_for_line}
use Rattle.tr_session.specs.Laws.{WritesAsSerial, report_for, report_in, reports_in}
use Rattle.tr_session.specs.Lines.{fault_of_line, request_of}
use Rattle.tr_session.specs.Sessions.{IsSession, SessionView, no_session, script_so_far}
use Rattle.tr_session.proofs.ReportLemmas.{none_told, reports_all, reports_one}
use Rattle.tr_session.proofs.SessionLemmas.{no_session_is}

-- the text of `serial` for the lines so far
abbrev text_of : SessionView → List ℕ
text_of s = out_text (whole (script_so_far s))

-- ---- one line

-- an answer that isn't a report's
no_save : (s : SessionView) (screen : Option Picture) (said : Option Meaning) → report_in (due_of_save s screen) said ≡ []
no_save s None said = refl
no_save s (Some screen) said = refl

no_cut_told : (s : SessionView) (screen : Option Picture) (said : Option Meaning) → report_in (due_of_cut s screen) said ≡ []
no_cut_told s None said = refl
no_cut_told s (Some screen) said = refl

no_lines : (said : Option Meaning) → report_in (text []) said ≡ []
no_lines None = refl
no_lines (Some (meanings.Version n)) = refl
no_lines (Some (meanings.Item item)) = refl
no_lines (Some meanings.Begin) = refl
no_lines (Some (meanings.Step actor step)) = refl
no_lines (Some meanings.Sync) = refl
no_lines (Some (meanings.Report query)) = refl
no_lines (Some meanings.End) = refl

-- the answer to a line without a fault has its report, if it is one
report_told : (s : SessionView) (said : Option Meaning) → report_for s said ≡ report_in (text (text_for_line s said)) said
report_told s None = refl
report_told s (Some (meanings.Version n)) = refl
report_told s (Some (meanings.Item item)) = refl
report_told s (Some meanings.Begin) = refl
report_told s (Some (meanings.Step actor step)) = refl
report_told s (Some meanings.Sync) = refl
report_told s (Some (meanings.Report query)) = refl
report_told s (Some meanings.End) = refl

-- a cut changes no text
same_text : (s : SessionView) (screen : Option Picture) → text_of (after_cut s screen) ≡ text_of s
same_text s None = refl
same_text s (Some screen) = refl

module _ (s : SessionView) (line : List ℕ) (t : SessionView) (session : IsSession s) where
  abbrev said : Option Meaning
  said = meaning_of_line (script_so_far s) line

  -- the line added this text
  abbrev Adds : List ℕ → Type 0
  Adds more = text_of t ≡ text_of s ++ more

  adds_none : (more : List ℕ) → more ≡ [] → text_of t ≡ text_of s → Adds more
  adds_none more none same = same ∙ sym (append-nil (text_of s)) ∙ ap (λ (told : List ℕ). text_of s ++ told) (sym none)

  by_fault : (fault : Option Code) (answer : Answer) → fault_of_line (script_so_far s) line ≡ fault → answer ≡ due_of_line s line fault →
      t ≡ after_script_line s line fault t.screen → Adds (report_in answer said)
  by_fault (Some code) answer has is next = adds_none (report_in answer said) (ap (λ (told : Answer). report_in told said) is) (ap text_of next)
  by_fault None answer none is next =
      ap text_of next
      ∙ reports_one s line t.screen session none
      ∙ ap (λ (told : List ℕ). text_of s ++ told) (report_told s said ∙ ap (λ (told : Answer). report_in told said) (sym is))

  by_request : (r : Request) (answer : Answer) → answer ≡ due_for s line r → t ≡ after_for s line r t.screen → Adds (report_in answer said)
  by_request Save answer is next =
      adds_none (report_in answer said) (ap (λ (told : Answer). report_in told said) is ∙ no_save s s.screen said) (ap text_of next)
  by_request Cut answer is next =
      adds_none (report_in answer said) (ap (λ (told : Answer). report_in told said) is ∙ no_cut_told s s.screen said)
      (ap text_of next ∙ same_text s s.screen)
  by_request Quit answer is next =
      adds_none (report_in answer said) (ap (λ (told : Answer). report_in told said) is ∙ no_lines said) (ap text_of next)
  by_request Script answer is next = by_fault (fault_of_line (script_so_far s) line) answer refl is next

  due_told : (answer : Answer) → answer ≡ due s line → t ≡ after_reply s line t.screen → Adds (report_in answer said)
  unfolding due after_reply
  due_told answer is next = by_request (request_of line) answer is next

  one_told : (answer : Answer) → ComesAfterLine s line answer t → Adds (report_in answer said)
  -- after want of memory there is no other text
  one_told no_memory kept = adds_none [] refl (ap text_of kept.0)
  one_told (text told) is = due_told (text told) is.0 is.1
  one_told (saved told beyond) is = due_told (saved told beyond) is.0 is.1
  one_told (bytes group) is = due_told (bytes group) is.0 is.1
  one_told (refused code) is = due_told (refused code) is.0 is.1

-- ---- all lines

-- the last session of these lines
last_session : (s : SessionView) (lines : List (List ℕ)) (answers : List Answer) (t : SessionView) → IsSession s → AreAnswered s lines answers t →
    IsSession t
last_session s [] [] t session all = subst IsSession (sym all) session
last_session s [] (answer ∷ answers) t session all = absurd all
last_session s (line ∷ lines) [] t session all = absurd all
last_session s (line ∷ lines) (answer ∷ answers) t session all = last_session all.0 lines answers t all.1.1 all.2

all_told : (s : SessionView) (lines : List (List ℕ)) (answers : List Answer) (t : SessionView) → IsSession s → (all : AreAnswered s lines answers t) →
    text_of t ≡ text_of s ++ reports_in s lines answers t all
all_told s [] [] t session all = ap text_of all ∙ sym (append-nil (text_of s))
all_told s [] (answer ∷ answers) t session all = absurd all
all_told s (line ∷ lines) [] t session all = absurd all
all_told s (line ∷ lines) (answer ∷ answers) t session all =
    let now : SessionView = all.0 in
    let told : List ℕ = report_in answer (meaning_of_line (script_so_far s) line) in
    let later : List ℕ = reports_in now lines answers t all.2 in
    all_told now lines answers t all.1.1 all.2
    ∙ ap (λ (before : List ℕ). before ++ later) (one_told s line now session answer all.1.0)
    ∙ append_assoc (text_of s) told later

-- all reports are those of `serial` for the text that the session saves
pub writes_as_serial : (lines : List (List ℕ)) (answers : List Answer) (last : SessionView) → WritesAsSerial lines answers last
writes_as_serial lines answers last all within =
    reports_all last (last_session no_session lines answers last no_session_is all) within
    ∙ all_told no_session lines answers last no_session_is all
    ∙ ap (λ (before : List ℕ). before ++ reports_in no_session lines answers last all) (none_told nothing_yet refl refl)
