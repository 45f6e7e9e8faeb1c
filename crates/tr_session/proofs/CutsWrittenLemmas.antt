-- The cuts that a session wrote: those of its screens.
use Rattle.std.proofs.Common.{◌≡◌, ℕ, List, [], ◌∷◌, ◌++◌, Some, None, refl, sym, ap, subst, ◌∙◌}
use Rattle.std.specs.Prelude.{All, Option}
use Rattle.std.specs.List.{flat_map}
use Rattle.std.proofs.lemmas.List.Elements.{All-append, All-cons, All-nil}
use Rattle.tr_screen.specs.Pictures.{Picture}
use Rattle.tr_mirror.specs.Streams.{IsShowable}
use Rattle.tr_grammar.specs.declared.Code.{Code}
use Rattle.tr_session.specs.declared.requests.Request.{Request}
use Rattle.tr_session.specs.declared.requests.Request.TheVariants.{Save, Cut, Quit, Script}
use Rattle.tr_session.specs.Answers.{Answer, AreAnswered, ComesAfterLine, after_cut, after_for, after_reply, after_script_line, bytes, due, due_for, due_of_cut, due_of_line, due_of_save, no_memory, refused, saved, text}
use Rattle.tr_session.specs.Cuts.{CutsSoFar, bytes_of_cuts, cut_bytes, fitted}
use Rattle.tr_session.specs.Laws.{WritesCuts, cut_in, screen_of_cut, screens_in}
use Rattle.tr_session.specs.Lines.{fault_of_line, request_of}
use Rattle.tr_session.specs.Sessions.{IsRightScreen, IsSession, SessionView, no_session, script_so_far}
use Rattle.tr_session.proofs.CutLemmas.{cuts_are_shown}
use Rattle.tr_session.proofs.FitLemmas.{fitted_shows}
use Rattle.tr_session.proofs.SessionLemmas.{no_session_is}

-- ---- one line

module _ (s : SessionView) (line : List ℕ) (t : SessionView) where
  -- an answer and the cuts after it are those before it
  abbrev Goes : Answer → Type 0
  Goes answer = (more : List Picture) → cut_in answer ++ bytes_of_cuts t.cuts more ≡ bytes_of_cuts s.cuts (screen_of_cut answer s.screen ++ more)

  same_cuts : t.cuts ≡ s.cuts → (more : List Picture) → bytes_of_cuts t.cuts more ≡ bytes_of_cuts s.cuts more
  same_cuts same more = ap (λ (c : CutsSoFar). bytes_of_cuts c more) same

  -- an answer that is no cut
  save_goes : (screen : Option Picture) (answer : Answer) → answer ≡ due_of_save s screen → t.cuts ≡ s.cuts → Goes answer
  save_goes None answer is same = subst Goes (sym is) (same_cuts same)
  save_goes (Some screen) answer is same = subst Goes (sym is) (same_cuts same)

  line_goes : (fault : Option Code) (answer : Answer) → answer ≡ due_of_line s line fault → t ≡ after_script_line s line fault t.screen → Goes answer
  line_goes (Some code) answer is next = subst Goes (sym is) (same_cuts (ap (λ (u : SessionView). u.cuts) next))
  line_goes None answer is next = subst Goes (sym is) (same_cuts (ap (λ (u : SessionView). u.cuts) next))

  -- a cut
  cut_goes : (screen : Option Picture) → s.screen ≡ screen → (answer : Answer) → answer ≡ due_of_cut s screen → t ≡ after_cut s screen → Goes answer
  cut_goes None has answer is next = subst Goes (sym is) (same_cuts (ap (λ (u : SessionView). u.cuts) next))
  cut_goes (Some screen) has answer is next = subst Goes (sym is) (λ more.
      ap (λ (c : CutsSoFar). cut_bytes s.cuts (fitted screen) ++ bytes_of_cuts c more) (ap (λ (u : SessionView). u.cuts) next)
      ∙ ap (λ (shown : Option Picture). bytes_of_cuts s.cuts (screen_of_cut (bytes (cut_bytes s.cuts (fitted screen))) shown ++ more)) (sym has))

  request_goes : (r : Request) (answer : Answer) → answer ≡ due_for s line r → t ≡ after_for s line r t.screen → Goes answer
  request_goes Save answer is next = save_goes s.screen answer is (ap (λ (u : SessionView). u.cuts) next)
  request_goes Cut answer is next = cut_goes s.screen refl answer is next
  request_goes Quit answer is next = subst Goes (sym is) (same_cuts (ap (λ (u : SessionView). u.cuts) next))
  request_goes Script answer is next = line_goes (fault_of_line (script_so_far s) line) answer is next

  due_goes : (answer : Answer) → answer ≡ due s line → t ≡ after_reply s line t.screen → Goes answer
  unfolding due after_reply
  due_goes answer is next = request_goes (request_of line) answer is next

  one_goes : (answer : Answer) → ComesAfterLine s line answer t → Goes answer
  one_goes no_memory kept = same_cuts (ap (λ (u : SessionView). u.cuts) kept.0)
  one_goes (text told) is = due_goes (text told) is.0 is.1
  one_goes (saved told beyond) is = due_goes (saved told beyond) is.0 is.1
  one_goes (bytes group) is = due_goes (bytes group) is.0 is.1
  one_goes (refused code) is = due_goes (refused code) is.0 is.1

-- a stream can show the screen of a cut
one_shows : (s : SessionView) (answer : Answer) (screen : Option Picture) → IsRightScreen s screen → All IsShowable (screen_of_cut answer screen)
one_shows s (bytes group) None shown = All-nil IsShowable
one_shows s (bytes group) (Some screen) shown = All-cons IsShowable (fitted screen) [] (fitted_shows screen shown.0) (All-nil IsShowable)
one_shows s (text told) screen shown = All-nil IsShowable
one_shows s (saved told beyond) screen shown = All-nil IsShowable
one_shows s (refused code) screen shown = All-nil IsShowable
one_shows s no_memory screen shown = All-nil IsShowable

-- ---- all lines

all_go : (s : SessionView) (lines : List (List ℕ)) (answers : List Answer) (t : SessionView) (all : AreAnswered s lines answers t) →
    flat_map cut_in answers ≡ bytes_of_cuts s.cuts (screens_in s lines answers t all)
all_go s [] [] t all = refl
all_go s [] (answer ∷ answers) t all = absurd all
all_go s (line ∷ lines) [] t all = absurd all
all_go s (line ∷ lines) (answer ∷ answers) t all =
    ap (λ (later : List ℕ). cut_in answer ++ later) (all_go all.0 lines answers t all.2)
    ∙ one_goes s line all.0 answer all.1.0 (screens_in all.0 lines answers t all.2)

all_show : (s : SessionView) (lines : List (List ℕ)) (answers : List Answer) (t : SessionView) → IsSession s → (all : AreAnswered s lines answers t) →
    All IsShowable (screens_in s lines answers t all)
all_show s [] [] t session all = All-nil IsShowable
all_show s [] (answer ∷ answers) t session all = absurd all
all_show s (line ∷ lines) [] t session all = absurd all
all_show s (line ∷ lines) (answer ∷ answers) t session all =
    All-append IsShowable (screen_of_cut answer s.screen) (screens_in all.0 lines answers t all.2) (one_shows s answer s.screen session.shown)
    (all_show all.0 lines answers t all.1.1 all.2)

-- all cuts are those of the session's screens, which readers of their streams have
pub writes_cuts : (lines : List (List ℕ)) (answers : List Answer) (last : SessionView) (all : AreAnswered no_session lines answers last) →
    WritesCuts lines answers last all
writes_cuts lines answers last all = record {
  cuts = all_go no_session lines answers last all;
  shown = cuts_are_shown (screens_in no_session lines answers last all) (all_show no_session lines answers last no_session_is all);
}
