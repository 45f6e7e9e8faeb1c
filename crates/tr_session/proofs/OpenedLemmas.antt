-- A session after a line up to `begin`.
use Rattle.std.proofs.Common.{◌≡◌, ℕ, Bool, true, false, List, [], ◌∷◌, ◌++◌, Some, None, Ok, refl, sym, ap, subst, ◌∙◌, Err}
use Rattle.std.specs.Prelude.{Option, IsSomeAnd, codes, is_some, OnErr, OnOk, Result}
use Rattle.tr_base.proofs.RectLemmas.{false-true}
use Rattle.tr_screen.specs.Pictures.{Picture}
use Rattle.tr_journal.specs.Journals.{JournalLine}
use Rattle.tr_journal.specs.declared.Item.{Item}
use Rattle.tr_widget.specs.declared.Widget.{Widget}
use Rattle.tr_widget.specs.declared.WidgetCmd.{WidgetCmd}
use Rattle.tr_machine.specs.States.{State}
use Rattle.tr_machine.specs.Replays.{replay}
use Rattle.tr_grammar.specs.declared.Place.{Place}
use Rattle.tr_grammar.specs.declared.Place.TheVariants as places
use Rattle.tr_machine.specs.Promises.{Agrees}
use Rattle.tr_stage.specs.Stages.{state}
use Rattle.tr_grammar.specs.declared.Meaning.{Meaning}
use Rattle.tr_grammar.specs.declared.Meaning.TheVariants as meanings
use Rattle.tr_grammar.specs.States.{SoFar, nothing_yet}
use Rattle.tr_grammar.specs.Texts.{is_silent}
use Rattle.tr_grammar.specs.Faults.{allows, fault_of, has_ended, step_line}
use Rattle.tr_grammar.specs.Scripts.{after_line, whole}
use Rattle.tr_grammar.proofs.ScriptLemmas.{after_all_lines-append}
use Rattle.tr_reader.specs.Adding.{is_at_steps, sort_of_meaning}
use Rattle.tr_script.specs.Apart.{meaning_of_line}
use Rattle.tr_serial.specs.Outputs.{serial_journal, widgets}
use Rattle.tr_session.specs.declared.errors.Unanswered.{Unanswered}
use Rattle.tr_session.specs.declared.errors.Unanswered.TheVariants as unanswered
use Rattle.tr_session.specs.declared.sessions.Session.{Session}
use Rattle.tr_session.specs.Answering.{Takes}
use Rattle.tr_session.specs.Answers.{answer_bytes, text, text_for_line}
use Rattle.tr_session.specs.Insides.{HasPlayedAllLines, HasItsLines, PartsAgree, HasStageOnceBegun, Starts, opening_of, screen_in, session_view}
use Rattle.tr_session.specs.Lines.{at_any_time, fault_of_line, has_begun}
use Rattle.tr_session.specs.Playing.{HasStarted, PlayedView, begun_by}
use Rattle.tr_session.specs.Sessions.{IsRightScreen, SessionView, script_so_far, stage_state, with_more_lines}
use Rattle.tr_session.proofs.OpenLemmas.{Opens, begins, no_report_yet, no_step_yet, opens, tried_fresh}
use Rattle.tr_session.proofs.ScriptLemmas.{silent_meaning}
use Rattle.tr_session.proofs.SessionLemmas.{together, view_is}
use Rattle.tr_session.proofs.TakenLemmas.{Rests, has_meaning, opening_is, rested_all, taken-append}

-- a line of the opening has no text
pub quiet : (s : SessionView) (line : List ℕ) → has_begun (script_so_far s).place ≡ false → fault_of_line (script_so_far s) line ≡ None →
    text_for_line s (meaning_of_line (script_so_far s) line) ≡ []
quiet s line fresh none = by_silence (is_silent line) refl
  where
    by_meaning : (m : Meaning) → allows (at_any_time (script_so_far s).place) (sort_of_meaning m) ≡ true → text_for_line s (Some m) ≡ []
    by_meaning (meanings.Version n) allowed = refl
    by_meaning (meanings.Item item) allowed = refl
    by_meaning meanings.Begin allowed = refl
    by_meaning (meanings.Step actor step) allowed = absurd (no_step_yet (script_so_far s).place fresh allowed)
    by_meaning meanings.Sync allowed = absurd (no_step_yet (script_so_far s).place fresh allowed)
    by_meaning (meanings.Report query) allowed = absurd (no_report_yet (script_so_far s).place fresh allowed)
    by_meaning meanings.End allowed = absurd (no_report_yet (script_so_far s).place fresh allowed)

    by_silence : (b : Bool) → is_silent line ≡ b → text_for_line s (meaning_of_line (script_so_far s) line) ≡ []
    by_silence true silent = ap (text_for_line s) (silent_meaning (script_so_far s) line silent)
    by_silence false loud =
        let has = has_meaning (script_so_far s) line none loud in
        ap (text_for_line s) has.said ∙ by_meaning has.m has.allowed

-- before `begin` no step was made, and the end wasn't read
fresh_end : (p : Place) → has_begun p ≡ false → has_ended p ≡ false
fresh_end places.Start fresh = refl
fresh_end places.Head fresh = refl
fresh_end places.Opening fresh = refl
fresh_end places.Gap fresh = refl
fresh_end places.Steps fresh = refl
fresh_end places.Ended fresh = absurd (false-true (sym fresh))

fresh_step : (p : Place) → has_begun p ≡ false → is_at_steps p ≡ false
fresh_step places.Start fresh = refl
fresh_step places.Head fresh = refl
fresh_step places.Opening fresh = refl
fresh_step places.Gap fresh = refl
fresh_step places.Steps fresh = absurd (false-true (sym fresh))
fresh_step places.Ended fresh = refl

-- a stage that `begin` starts has played the lines
pub begun_stage : (s : SessionView) (line : List ℕ) (p : PlayedView) (screen : Option Picture) → Rests (script_so_far s) →
    has_begun (script_so_far s).place ≡ false →
    fault_of_line (script_so_far s) line ≡ None → HasStarted p (begun_by s.lines line) → HasPlayedAllLines (with_more_lines s (line ∷ []) screen) p
begun_stage s line p screen rested fresh none start =
    let b = begins (script_so_far s) line rested fresh none in
    let all : begun_by s.lines line ≡ after_line (after_line (script_so_far s) line) (codes "end") =
    after_all_lines-append nothing_yet s.lines (line ∷ codes "end" ∷ []) in
    let next : script_so_far (with_more_lines s (line ∷ []) screen)
    ≡ after_line (script_so_far s) line = after_all_lines-append nothing_yet s.lines (line ∷ []) in
    record {
      opening = start.opening ∙ ap (λ (d : SoFar). d.items) all ∙ b.items ∙ ap (λ (d : SoFar). d.items) (sym next);
      names = start.names ∙ ap (λ (d : SoFar). d.names) all ∙ b.names ∙ ap (λ (d : SoFar). d.names) (sym next);
      journal = start.journal ∙ sym b.journal ∙ ap (λ (d : SoFar). serial_journal (whole d)) (sym next);
    }

-- its screen is right
pub begun_shown : (s : SessionView) (p : PlayedView) → HasPlayedAllLines s p → Agrees widgets (state widgets p.stage) p.stage.screen →
    Agrees widgets (stage_state s) p.stage.screen
begun_shown s p played shows =
    subst (λ (m : State Widget WidgetCmd). Agrees widgets m p.stage.screen)
    (ap (λ (items : List (Item Widget)). replay widgets items p.stage.journal) played.opening
    ∙ ap (λ (ls : List (JournalLine WidgetCmd)). replay widgets (script_so_far s).items ls) played.journal)
    shows

-- two parts: before a line of the opening, and after it
pub record TakesOpening (i j : Session) (line : List ℕ) : Type 0 where
  pub holds : PartsAgree i
  pub fresh : has_begun (script_so_far (session_view i)).place ≡ false
  pub none : fault_of i.script.reader 1 line ≡ None
  pub lines : j.script.saved.lines ≡ i.script.saved.lines ++ line ∷ []
  pub reader : j.script.reader ≡ after_line i.script.reader line
  pub ended : j.script.has_ended ≡ i.script.has_ended
  pub behind : j.script.is_behind_step ≡ i.script.is_behind_step
  pub cuts : j.cuts ≡ i.cuts

module _ (i j : Session) (line : List ℕ) (take : TakesOpening i j line) where
  abbrev pub s : SessionView
  s = session_view i

  abbrev pub c : SoFar
  c = script_so_far s

  abbrev pub t : SessionView
  t = with_more_lines s (line ∷ []) (screen_in j.played)

  rested : Rests c
  rested = rested_all nothing_yet s.lines take.holds.session.taken (refl, refl)

  reader_is : i.script.reader ≡ c
  reader_is = take.holds.reader ∙ opening_is c rested take.fresh

  pub none_in : fault_of_line c line ≡ None
  none_in =
      ap (λ (d : SoFar). fault_of d 1 line) (tried_fresh c take.fresh ∙ sym take.holds.reader) ∙ take.none

  o : Opens c line
  o = opens c line rested take.fresh none_in

  next : script_so_far t ≡ after_line c line
  next = after_all_lines-append nothing_yet s.lines (line ∷ [])

  view : session_view j ≡ t
  view = view_is j (s.lines ++ line ∷ []) (screen_in j.played) s.cuts take.lines refl take.cuts

  -- the parts after the line hold together, if the stage is there once `begin` was read
  pub opened : is_some (screen_in j.played) ≡ has_begun (after_line c line).place → IsRightScreen t (screen_in j.played) → HasStageOnceBegun t j.played →
      PartsAgree j
  opened begun shown played =
      together j t view (record {
        taken = taken-append nothing_yet s.lines (line ∷ []) take.holds.session.taken o.taken;
        begun = begun ∙ ap (λ (d : SoFar). has_begun d.place) (sym next);
        shown = shown;
        cuts = take.holds.session.cuts;
      })
      (take.reader ∙ ap (λ (d : SoFar). after_line d line) reader_is ∙ sym o.same ∙ ap opening_of (sym next))
      (take.ended ∙ take.holds.ended ∙ fresh_end c.place take.fresh ∙ sym o.early ∙ ap (λ (d : SoFar). has_ended d.place) (sym next))
      (take.behind ∙ take.holds.behind ∙ fresh_step c.place take.fresh ∙ sym o.steps ∙ ap (λ (d : SoFar). is_at_steps d.place) (sym next))
      played

  -- the line was taken, and its answer is empty
  pub opened_takes : (bytes : List ℕ) → bytes ≡ answer_bytes (text []) → Takes s line bytes (Ok tt) (session_view j)
  opened_takes bytes is = (
    none_in,
    is ∙ ap (λ (told : List ℕ). answer_bytes (text told)) (sym (quiet s line take.fresh none_in)),
    view
        ∙ ap (λ (more : List (List ℕ)). with_more_lines s more (screen_in j.played)) (sym o.lines),
  )

  -- ---- the two ways on

  -- no stage yet
  pub opened_early : allows j.script.reader.place step_line ≡ false → j.played ≡ i.played → PartsAgree j
  opened_early early same =
      let fresh : has_begun (after_line c line).place ≡ false =
      o.begun ∙ sym (ap (λ (d : SoFar). allows d.place step_line) (take.reader ∙ ap (λ (d : SoFar). after_line d line) reader_is)) ∙ early in
      let none : j.played ≡ None = same ∙ no_stage i.played (take.holds.session.begun ∙ take.fresh) in
      opened (ap (λ (p : Option PlayedView). is_some (screen_in p)) none ∙ sym fresh)
      (subst (λ (p : Option PlayedView). IsRightScreen (with_more_lines s (line ∷ []) (screen_in p)) (screen_in p)) (sym none) tt)
      (subst (λ (p : Option PlayedView). HasStageOnceBegun (with_more_lines s (line ∷ []) (screen_in p)) p) (sym none)
      (ap (λ (d : SoFar). has_begun d.place) (after_all_lines-append nothing_yet s.lines (line ∷ [])) ∙ fresh))
    where
      no_stage : (p : Option PlayedView) → is_some (screen_in p) ≡ false → p ≡ None
      no_stage None none = refl
      no_stage (Some p) none = absurd (false-true (sym none))

  -- the stage of `begin`
  pub opened_begun : allows j.script.reader.place step_line ≡ true → IsSomeAnd j.played (λ p. HasStarted p (begun_by s.lines line)) → PartsAgree j
  opened_begun begun stage = by_stage j.played refl stage
    where
      by_stage : (p : Option PlayedView) → j.played ≡ p → IsSomeAnd p (λ q. HasStarted q (begun_by s.lines line)) → PartsAgree j
      by_stage None is none = absurd none
      by_stage (Some p) is start =
          let has : HasPlayedAllLines (with_more_lines s (line ∷ []) (screen_in j.played)) p =
          begun_stage s line p (screen_in j.played) rested take.fresh none_in start in
          let now : has_begun (after_line c line).place ≡ true =
          o.begun ∙ sym (ap (λ (d : SoFar). allows d.place step_line) (take.reader ∙ ap (λ (d : SoFar). after_line d line) reader_is)) ∙ begun in
          let screen : screen_in j.played ≡ Some p.stage.screen = ap screen_in is in
          opened (ap (λ (shown : Option Picture). is_some shown) screen ∙ sym now)
          (subst (λ (shown : Option Picture). IsRightScreen (with_more_lines s (line ∷ []) (screen_in j.played)) shown) (sym screen)
          (start.picture, begun_shown (with_more_lines s (line ∷ []) (screen_in j.played)) p has start.shows))
          (subst (λ (q : Option PlayedView). HasStageOnceBegun (with_more_lines s (line ∷ []) (screen_in j.played)) q) (sym is) has)

-- a session whose reader took `begin`, before the stage is started
pub record TakesBegin (i k : Session) (line : List ℕ) : Type 0 where
  pub holds : PartsAgree i
  pub fresh : has_begun (script_so_far (session_view i)).place ≡ false
  pub none : fault_of i.script.reader 1 line ≡ None
  pub lines : k.script.saved.lines ≡ i.script.saved.lines
  pub reader : k.script.reader ≡ after_line i.script.reader line
  pub ended : k.script.has_ended ≡ i.script.has_ended
  pub behind : k.script.is_behind_step ≡ i.script.is_behind_step
  pub played : k.played ≡ i.played
  pub cuts : k.cuts ≡ i.cuts
  pub begun : allows k.script.reader.place step_line ≡ true

module _ (i k j : Session) (line : List ℕ) (take : TakesBegin i k line) where
  opening_taken : Starts k line j → TakesOpening i j line
  opening_taken starts = record {
    holds = take.holds;
    fresh = take.fresh;
    none = take.none;
    lines = starts.lines ∙ ap (λ (ls : List (List ℕ)). ls ++ line ∷ []) take.lines;
    reader = starts.reader ∙ take.reader;
    ended = starts.ended ∙ take.ended;
    behind = starts.behind ∙ take.behind;
    cuts = starts.cuts ∙ take.cuts;
  }

  -- `begin` has no fault
  begin_in : fault_of_line (script_so_far (session_view i)) line ≡ None
  begin_in =
      ap (λ (d : SoFar). fault_of d 1 line) (tried_fresh (script_so_far (session_view i)) take.fresh ∙ sym take.holds.reader) ∙ take.none

  pub start_takes : (bytes : List ℕ) (r : Result Unit Unanswered) → OnOk r (Starts k line j × (bytes ≡ answer_bytes (text []))) →
      OnErr r ((r ≡ Err unanswered.Lost) × (j ≡ k)) → Takes (session_view i) line bytes r (session_view j)
  start_takes bytes (Ok done) ok err = opened_takes i j line (opening_taken ok.0) bytes ok.1
  start_takes bytes (Err e) ok err = subst (λ (r : Result Unit Unanswered). Takes (session_view i) line bytes r (session_view j)) (sym err.0) begin_in

  pub start_holds : (bytes : List ℕ) (r : Result Unit Unanswered) → OnOk r (Starts k line j × (bytes ≡ answer_bytes (text []))) →
      OnErr r ((r ≡ Err unanswered.Lost) × (j ≡ k)) → (r ≡ Err unanswered.Lost → ⊥) → PartsAgree j
  start_holds bytes (Ok done) ok err other =
      opened_begun i j line (opening_taken ok.0) (ap (λ (d : SoFar). allows d.place step_line) ok.0.reader ∙ take.begun)
      (subst (λ (ls : List (List ℕ)). IsSomeAnd j.played (λ p. HasStarted p (begun_by ls line))) take.lines ok.0.stage)
  start_holds bytes (Err e) ok err other = absurd (other err.0)

  pub start_lost : (bytes : List ℕ) (r : Result Unit Unanswered) → OnErr r ((r ≡ Err unanswered.Lost) × (j ≡ k)) → r ≡ Err unanswered.Lost →
      HasItsLines i j
  start_lost bytes (Ok done) err lost = absurd cc
  start_lost bytes (Err e) err lost = record {
    lines = ap (λ (v : Session). v.script.saved.lines) err.1 ∙ take.lines;
    cuts = ap (λ (v : Session). v.cuts) err.1 ∙ take.cuts;
  }
