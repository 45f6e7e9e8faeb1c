-- The stream that screens are appended to, one after another.
use Rattle.std.proofs.Common.{◌≡◌, ℕ, ◌+◌, Bool, true, false, cond, List, [], ◌∷◌, ◌++◌, length, Option, Some, None, Result, Ok, Err, OnOk, refl, sym, ap, subst, ◌∙◌, arith, append_assoc}
use Rattle.std.proofs.lemmas.List.{append-nil}
use Rattle.tr_screen.specs.Pictures.{Picture}
use Rattle.tr_client.specs.declared.Client.{Ghosts}
use Rattle.tr_mirror.specs.Readings.{last_of}
use Rattle.tr_mirror.specs.Records.{Record, spelled}
use Rattle.tr_mirror.specs.Streams.{group_of, groups_of, stream_of}
use Rattle.tr_mirror.specs.Updates.{HasSent, WriterView}
use Rattle.tr_mirror.proofs.UpdateLemmas.{spelled-append}
use Rattle.tr_journal.specs.Journals.{JournalLine}
use Rattle.tr_journal.specs.declared.Actor.TheVariants.{Player}
use Rattle.tr_journal.specs.declared.Item.{Item}
use Rattle.tr_journal.specs.declared.Step.TheVariants.{Sync}
use Rattle.tr_machine.specs.States.{State, start}
use Rattle.tr_machine.specs.Replays.{replay, replay_from}
use Rattle.tr_stage.specs.Stages.{state}
use Rattle.tr_run.specs.Runs.{Cue, makes, run_lines}
use Rattle.tr_run.specs.Views.{Does, RunView}
use Rattle.tr_run.proofs.RunLemmas.{Does-append, run_lines-append, state_adds}
use Rattle.tr_serial.specs.Screens.{screens_from}
use Rattle.tr_serial.specs.Streams.{Appends, IsAppended, IsStreamOf, Mirrors, StreamView}
use Rattle.tr_serial.proofs.ScreenLemmas.{screens_from-append}

-- ---- one screen more

-- the last screen, where some came before those of the list
abbrev last_from : Option Picture → List Picture → Option Picture
last_from last [] = last
last_from last (p ∷ ps) = last_from (Some p) ps

last_from-is : (p : Picture) (ps : List Picture) → last_from (Some p) ps ≡ last_of (p ∷ ps)
last_from-is p [] = refl
last_from-is p (q ∷ ps) = last_from-is q ps

last_from-none : (ps : List Picture) → last_from None ps ≡ last_of ps
last_from-none [] = refl
last_from-none (p ∷ ps) = last_from-is p ps

groups_more : (last : Option Picture) (number : ℕ) (screens : List Picture) (now : Picture) →
    groups_of last number (screens ++ now ∷ []) ≡ groups_of last number screens ++ group_of (last_from last screens) now (number + length screens)
groups_more last number [] now =
    let same : number ≡ number + 0 = omega arith in
    append-nil (group_of last now number) ∙ ap (λ (n : ℕ). group_of last now n) same
groups_more last number (p ∷ ps) now =
    let first : List Record = group_of last p number in
    let later : List Record = groups_of (Some p) (number + 1) ps in
    let same : number + 1 + length ps ≡ number + length (p ∷ ps) = omega arith in
    ap (λ (l : List Record). first ++ l) (groups_more (Some p) (number + 1) ps now)
    ∙ sym (append_assoc first later (group_of (last_from (Some p) ps) now (number + 1 + length ps)))
    ∙ ap (λ (n : ℕ). (first ++ later) ++ group_of (last_from (Some p) ps) now n) same

-- the stream of some screens and one more
stream_more : (screens : List Picture) (now : Picture) →
    stream_of (screens ++ now ∷ []) ≡ stream_of screens ++ spelled (group_of (last_of screens) now (length screens + 1))
stream_more screens now =
    let same : 1 + length screens ≡ length screens + 1 = omega arith in
    ap (λ (l : List Record). spelled l) (groups_more None 1 screens now)
    ∙ spelled-append (groups_of None 1 screens) (group_of (last_from None screens) now (1 + length screens))
    ∙ ap (λ (o : Option Picture). stream_of screens ++ spelled (group_of o now (1 + length screens))) (last_from-none screens)
    ∙ ap (λ (n : ℕ). stream_of screens ++ spelled (group_of (last_of screens) now n)) same

-- the writer's answer is that of the stream
pub appended : {E : Type 0} (r : Result (Unit {0}) E) (s t : StreamView) (now : Picture) →
    OnOk r (t.bytes ≡ s.bytes ++ spelled (group_of s.writer.last now (s.writer.cuts + 1))) →
    OnOk r (t.writer ≡ record { last = Some now; cuts = s.writer.cuts + 1 }) →
    OnOk r ((stream added : List ℕ) (screens : List Picture) → HasSent s.writer stream screens → t.bytes ≡ s.bytes ++ added →
    HasSent t.writer (stream ++ added) (screens ++ now ∷ [])) → OnOk r (IsAppended s t now)
appended (Err e) s t now group next sent = tt
appended (Ok x) s t now group next sent =
    let added : List ℕ = spelled (group_of s.writer.last now (s.writer.cuts + 1)) in
    record {
      group = group;
      sent = λ screens has. subst (λ (b : List ℕ). HasSent t.writer b (screens ++ now ∷ [])) (sym group) (sent s.bytes added screens has group);
      cuts = ap (λ (w : WriterView). w.cuts) next;
    }

pub appends_one : (s t : StreamView) (now : Picture) → IsAppended s t now → Appends s t (now ∷ [])
appends_one s t now a = λ screens is.
    let added : List ℕ = spelled (group_of s.writer.last now (s.writer.cuts + 1)) in
    record {
      bytes = a.group
          ∙ ap (λ (b : List ℕ). b ++ added) is.bytes
          ∙ ap (λ (o : Option Picture). stream_of screens ++ spelled (group_of o now (s.writer.cuts + 1))) is.sent.last
          ∙ ap (λ (k : ℕ). stream_of screens ++ spelled (group_of (last_of screens) now (k + 1))) is.sent.cuts
          ∙ sym (stream_more screens now);
      sent = a.sent screens is.sent;
    }

-- ---- screens in a row

pub appends_none : (s : StreamView) → Appends s s []
appends_none s = λ screens is. subst (λ (l : List Picture). IsStreamOf s l) (sym (append-nil screens)) is

pub appends_more : (s t u : StreamView) (xs ys : List Picture) → Appends s t xs → Appends t u ys → Appends s u (xs ++ ys)
appends_more s t u xs ys first second = λ screens is.
    subst (λ (l : List Picture). IsStreamOf u l) (append_assoc screens xs ys) (second (screens ++ xs) (first screens is))

-- ---- what becomes of a run and of the stream

module _ {C M : Type 0} (client : Ghosts C M) (words : M → List ℕ) where
  -- some cues were done that dump nothing
  pub mirrors_none : (a b : RunView C M) (cues : List (Cue M)) (s : StreamView) → Does client words a b cues →
      screens_from client (state client a.stage) (run_lines client (state client a.stage) cues) ≡ [] → Mirrors client words a b cues s s
  mirrors_none a b cues s did none = record {
    did = did;
    appended = subst (λ (l : List Picture). Appends s s l) (sym none) (appends_none s);
  }

  -- some cues were done, and then more, which together are these
  pub mirrors_more : (a b c : RunView C M) (xs ys together : List (Cue M)) (s t u : StreamView) → Mirrors client words a b xs s t →
      Mirrors client words b c ys t u → xs ++ ys ≡ together → Mirrors client words a c together s u
  mirrors_more a b c xs ys together s t u first second is =
      subst (λ (cues : List (Cue M)). Mirrors client words a c cues s u) is (record {
        did = Does-append client words a b c xs ys first.did second.did;
        appended = subst (λ (l : List Picture). Appends s u l) screens
            (appends_more s t u _ _ first.appended second.appended);
      })
    where
      was : State C M
      was = state client a.stage

      lines : List (JournalLine M)
      lines = run_lines client was xs

      screens : screens_from client was lines ++ screens_from client (state client b.stage) (run_lines client (state client b.stage) ys)
          ≡ screens_from client was (run_lines client was (xs ++ ys))
      screens =
          ap (λ (m : State C M). screens_from client was lines ++ screens_from client m (run_lines client m ys))
          (state_adds client a b lines first.did)
          ∙ sym (screens_from-append client was lines (run_lines client (replay_from client was lines) ys))
          ∙ ap (λ (ls : List (JournalLine M)). screens_from client was ls) (sym (run_lines-append client was xs ys))

  -- a sync dumps nothing
  pub begin_none : (m : State C M) (later : Bool) →
      screens_from client m (run_lines client m (cond later (makes Player Sync ∷ []) [])) ≡ []
  begin_none m true = refl
  begin_none m false = refl

  -- what all the cues of a run come to
  pub mirrors_whole : (a b : RunView C M) (items : List (Item C)) (done : List (Cue M)) (s t : StreamView) → a.stage.opening ≡ items →
      a.stage.journal ≡ [] → Mirrors client words a b done s t → IsStreamOf s [] →
      IsStreamOf t (screens_from client (start items) (run_lines client (start items) done))
  mirrors_whole a b items done s t opening journal mirrors none =
      subst (λ (m : State C M). IsStreamOf t (screens_from client m (run_lines client m done))) at_start (mirrors.appended [] none)
    where
      at_start : state client a.stage ≡ start items
      at_start =
          ap (λ (xs : List (Item C)). replay client xs a.stage.journal) opening
          ∙ ap (λ (ls : List (JournalLine M)). replay client items ls) journal
