-- The answer to a line, by its request.
use Rattle.std.proofs.Common.{◌≡◌, false, ℕ, List, [], Some, None, Ok, Err, refl, sym, ap, ◌∙◌}
use Rattle.std.specs.Prelude.{OnErr, OnOk, Option, Result}
use Rattle.tr_screen.specs.Pictures.{Picture}
use Rattle.tr_grammar.specs.declared.Code.{Code}
use Rattle.tr_script.specs.Apart.{meaning_of_line}
use Rattle.tr_session.specs.declared.errors.Unanswered.{Unanswered}
use Rattle.tr_session.specs.declared.errors.Unanswered.TheVariants as unanswered
use Rattle.tr_session.specs.declared.requests.Request.{Request}
use Rattle.tr_session.specs.declared.requests.Request.TheVariants.{Save, Cut, Quit, Script}
use Rattle.tr_session.specs.Answering.{RepliesWith, Takes, TellsRefusal}
use Rattle.tr_session.specs.Answers.{Answer, ComesAfterLine, after_cut, after_for, after_reply, after_script_line, answer_bytes, bytes, due, due_for, due_of_cut, due_of_line, due_of_save, ends, is_quit, no_memory, refused, saved, text, text_for_line}
use Rattle.tr_session.specs.Lines.{request_of}
use Rattle.tr_session.specs.Sessions.{SessionView, script_so_far}

-- the reply to a line has the bytes of its answer
pub record IsTold (s : SessionView) (line : List ℕ) (t : SessionView) (reply : List ℕ) : Type 0 where
  pub answer : Answer
  pub is : reply ≡ answer_bytes answer
  pub answered : ComesAfterLine s line answer t

-- an answer that is due, unless memory ran out
answered_by : (s : SessionView) (line : List ℕ) (answer : Answer) (t : SessionView) → (answer ≡ no_memory → ⊥) → answer ≡ due s line →
    t ≡ after_reply s line t.screen → ComesAfterLine s line answer t
answered_by s line no_memory t other is next = absurd (other refl)
answered_by s line (text told) t other is next = (is, next)
answered_by s line (saved told beyond) t other is next = (is, next)
answered_by s line (bytes group) t other is next = (is, next)
answered_by s line (refused code) t other is next = (is, next)

module _ (s : SessionView) (line : List ℕ) (r : Request) (asked : request_of line ≡ r) where
  due_is : due s line ≡ due_for s line r
  unfolding due
  due_is = ap (due_for s line) asked

  after_is : (screen : Option Picture) → after_reply s line screen ≡ after_for s line r screen
  unfolding after_reply
  after_is screen = ap (λ (q : Request). after_for s line q screen) asked

-- ---- a line of the script

pub script_told : (s : SessionView) (line : List ℕ) (t : SessionView) (result : Result Unit Unanswered) (old new : List ℕ) → request_of line ≡ Script →
    Takes s line old result t → TellsRefusal result old new (Ok tt) → IsTold s line t new
script_told s line t (Ok done) old new asked takes tells = record {
  answer = text (text_for_line s (meaning_of_line (script_so_far s) line));
  is = tells.0 ∙ takes.1;
  answered = (
    sym (due_is s line Script asked ∙ ap (due_of_line s line) takes.0),
    takes.2 ∙ sym (after_is s line Script asked t.screen ∙ ap (λ (fault : Option Code). after_script_line s line fault t.screen) takes.0),
  );
}
script_told s line t (Err (unanswered.Fault code)) old new asked takes tells = record {
  answer = refused code;
  is = tells.0;
  answered = (
    sym (due_is s line Script asked ∙ ap (due_of_line s line) takes.0),
    takes.1 ∙ sym (after_is s line Script asked t.screen ∙ ap (λ (fault : Option Code). after_script_line s line fault t.screen) takes.0),
  );
}
script_told s line t (Err unanswered.NoMemory) old new asked takes tells = record { answer = no_memory; is = tells.0; answered = (takes, ap is_quit asked) }
script_told s line t (Err unanswered.Lost) old new asked takes tells = absurd cc

-- ---- the session's own words

-- an answer, or a refusal, that is due
told_by_due : (s : SessionView) (line : List ℕ) (t : SessionView) (answer : Answer) (result : Result Unit Unanswered) (old new : List ℕ) →
    ends line ≡ false → (answer ≡ no_memory → ⊥) → answer ≡ due s line → (result ≡ Err unanswered.NoMemory → t ≡ s) →
    ((result ≡ Err unanswered.NoMemory → ⊥) → t ≡ after_reply s line t.screen) → RepliesWith answer old result → TellsRefusal result old new (Ok tt) →
    IsTold s line t new
told_by_due s line t answer (Ok done) old new goes other is kept next answers tells = record {
  answer = answer;
  is = tells.0 ∙ answers;
  answered = answered_by s line answer t other is (next (λ lost. cc));
}
told_by_due s line t answer (Err (unanswered.Fault code)) old new goes other is kept next answers tells = record {
  answer = refused code;
  is = tells.0;
  answered = (sym answers ∙ is, next (λ lost. cc));
}
told_by_due s line t answer (Err unanswered.NoMemory) old new goes other is kept next answers tells = record {
  answer = no_memory;
  is = tells.0;
  answered = let same : t ≡ s = kept refl in (same ∙ ap (λ (v : SessionView). record s { screen = v.screen }) (sym same), goes);
}
told_by_due s line t answer (Err unanswered.Lost) old new goes other is kept next answers tells = absurd cc

save_due : (s : SessionView) (screen : Option Picture) → due_of_save s screen ≡ no_memory → ⊥
save_due s None is = cc
save_due s (Some screen) is = cc

pub save_told : (s : SessionView) (line : List ℕ) (result : Result Unit Unanswered) (old new : List ℕ) → request_of line ≡ Save →
    RepliesWith (due_of_save s s.screen) old result → TellsRefusal result old new (Ok tt) → IsTold s line s new
save_told s line result old new asked answers tells =
    told_by_due s line s (due_of_save s s.screen) result old new (ap is_quit asked) (save_due s s.screen) (sym (due_is s line Save asked)) (λ lost. refl)
    (λ whole. sym (after_is s line Save asked s.screen)) answers tells

cut_due : (s : SessionView) (screen : Option Picture) → due_of_cut s screen ≡ no_memory → ⊥
cut_due s None is = cc
cut_due s (Some screen) is = cc

-- after a refusal the cuts are the same
cut_refused : (s : SessionView) (screen : Option Picture) (code : Code) → due_of_cut s screen ≡ refused code → after_cut s screen ≡ s
cut_refused s None code is = refl
cut_refused s (Some screen) code is = absurd cc

-- what holds of a result that is a success, and of another one
ok_of : {X : Type 0} (r : Result Unit Unanswered) → OnOk r X → r ≡ Ok tt → X
ok_of (Ok done) holds is = holds
ok_of (Err e) holds is = absurd cc

err_of : {X : Type 0} (r : Result Unit Unanswered) → OnErr r X → (r ≡ Ok tt → ⊥) → X
err_of (Ok done) holds fails = absurd (fails refl)
err_of (Err e) holds fails = holds

pub cut_told : (s : SessionView) (line : List ℕ) (t : SessionView) (result : Result Unit Unanswered) (old new : List ℕ) → request_of line ≡ Cut →
    RepliesWith (due_of_cut s s.screen) old result → OnOk result (t ≡ after_cut s s.screen) → OnErr result (t ≡ s) →
    TellsRefusal result old new (Ok tt) → IsTold s line t new
cut_told s line t result old new asked answers on_ok on_err tells =
    let ok : result ≡ Ok tt → t ≡ after_cut s s.screen = λ done. ok_of result on_ok done in
    let err : (result ≡ Ok tt → ⊥) → t ≡ s = λ fails. err_of result on_err fails in
    told_by_due s line t (due_of_cut s s.screen) result old new (ap is_quit asked) (cut_due s s.screen) (sym (due_is s line Cut asked))
    (λ lost. err (λ done. absurd (lost_or_done result lost done)))
    (λ whole. next result answers ok err whole tells ∙ sym (after_is s line Cut asked t.screen)) answers tells
  where
    lost_or_done : (r : Result Unit Unanswered) → r ≡ Err unanswered.NoMemory → r ≡ Ok tt → ⊥
    lost_or_done r lost done = cc

    next : (r : Result Unit Unanswered) → RepliesWith (due_of_cut s s.screen) old r → (r ≡ Ok tt → t ≡ after_cut s s.screen) → ((r ≡ Ok tt → ⊥) → t ≡ s) →
        (r ≡ Err unanswered.NoMemory → ⊥) → TellsRefusal r old new (Ok tt) → t ≡ after_cut s s.screen
    next (Ok done) answers ok err whole told = ok refl
    next (Err (unanswered.Fault code)) answers ok err whole told = err (λ done. cc) ∙ sym (cut_refused s s.screen code answers)
    next (Err unanswered.NoMemory) answers ok err whole told = absurd (whole refl)
    next (Err unanswered.Lost) answers ok err whole told = absurd cc

pub quit_told : (s : SessionView) (line new : List ℕ) → request_of line ≡ Quit → new ≡ answer_bytes (text []) → IsTold s line s new
quit_told s line new asked is = record {
  answer = text [];
  is = is;
  answered = (sym (due_is s line Quit asked), sym (after_is s line Quit asked s.screen));
}
