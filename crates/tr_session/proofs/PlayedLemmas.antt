-- A session after a line that was played.
use Rattle.std.proofs.Common.{◌≡◌, ℕ, Bool, true, false, ◌&&◌, ◌||◌, cond, List, [], ◌∷◌, ◌++◌, Some, None, Ok, Err, refl, sym, ap, subst, ◌∙◌, append_assoc}
use Rattle.std.specs.Prelude.{Option, IsSomeAnd, is_some, IfErr, Result}
use Rattle.tr_base.proofs.RectLemmas.{false-true}
use Rattle.tr_screen.specs.Pictures.{IsPicture}
use Rattle.tr_widget.specs.declared.Widget.{Widget}
use Rattle.tr_widget.specs.declared.WidgetCmd.{WidgetCmd}
use Rattle.tr_widget.specs.Widgets.{widget_words}
use Rattle.tr_machine.specs.States.{State}
use Rattle.tr_machine.specs.Promises.{Agrees}
use Rattle.tr_stage.specs.Stages.{StageView, state}
use Rattle.tr_run.specs.Views.{Does, RunView}
use Rattle.tr_grammar.specs.declared.Meaning.{Meaning}
use Rattle.tr_grammar.specs.declared.Meaning.TheVariants as meanings
use Rattle.tr_grammar.specs.States.{SoFar, nothing_yet}
use Rattle.tr_grammar.specs.Faults.{fault_of, has_ended}
use Rattle.tr_grammar.specs.Scripts.{after_all_lines}
use Rattle.tr_reader.specs.Adding.{is_at_steps}
use Rattle.tr_script.specs.Apart.{meaning_of_line}
use Rattle.tr_serial.specs.Outputs.{widgets}
use Rattle.tr_session.specs.declared.playing.Followed.{Followed}
use Rattle.tr_session.specs.declared.sessions.Session.{Session}
use Rattle.tr_session.specs.declared.errors.Unanswered.{Unanswered}
use Rattle.tr_session.specs.declared.errors.Unanswered.TheVariants as unanswered
use Rattle.tr_session.specs.declared.sorts.LineSort.{LineSort}
use Rattle.tr_session.specs.declared.sorts.LineSort.TheVariants as sorts
use Rattle.tr_session.specs.Answering.{Takes, Tells, behind_sort, sort_ends_steps, is_end, meaning_sort, tried_by}
use Rattle.tr_session.specs.Answers.{answer_bytes, text, text_for_line}
use Rattle.tr_session.specs.Insides.{HasPlayedAllLines, HasStageOnceBegun, PartsAgree, opening_of, screen_in, session_view}
use Rattle.tr_session.specs.Lines.{added_lines, ends_steps, fault_of_line, has_begun, needs_sync, sync_lines, tried_against}
use Rattle.tr_session.specs.Playing.{ActsBehindSync, FollowsLine, IsWantOfMemory, KeepsLines, PlayedView, as_run, cues_of_meaning}
use Rattle.tr_session.specs.Sessions.{SessionView, script_so_far, stage_state, with_more_lines}
use Rattle.tr_session.proofs.CueLemmas.{HasPlayedLines}
use Rattle.tr_session.proofs.KeepingLemmas.{AddsLine, Runs, behind_after, ended_after, follows, opening_after, stage_after}
use Rattle.tr_session.proofs.LineLemmas.{tried_is}
use Rattle.tr_session.proofs.SessionLemmas.{together, view_is}
use Rattle.tr_session.proofs.TakenLemmas.{Rests, rested_all}
use Rattle.tr_session.proofs.TellingLemmas.{session_after, session_same, so_far_after, state_of_lines, tells_text}

-- ---- small facts

meaning_tried : (c : SoFar) (line : List ℕ) → meaning_of_line (tried_against c) line ≡ meaning_of_line c line
unfolding meaning_of_line
meaning_tried c line = refl

ends_same : (said : Option Meaning) → sort_ends_steps (meaning_sort said) ≡ ends_steps said
ends_same None = refl
ends_same (Some (meanings.Version n)) = refl
ends_same (Some (meanings.Item item)) = refl
ends_same (Some meanings.Begin) = refl
ends_same (Some (meanings.Step actor step)) = refl
ends_same (Some meanings.Sync) = refl
ends_same (Some (meanings.Report query)) = refl
ends_same (Some meanings.End) = refl

-- a sync before a line doesn't change whether the line is behind a step
behind_once : (said : Option Meaning) (synced at : Bool) → synced ≡ (at && ends_steps said) →
    behind_sort (meaning_sort said) (cond synced false at) ≡ behind_sort (meaning_sort said) at
behind_once said false at is = refl
behind_once said true false is = absurd (false-true (sym is))
behind_once None true true is = absurd (false-true (sym is))
behind_once (Some (meanings.Version n)) true true is = absurd (false-true (sym is))
behind_once (Some (meanings.Item item)) true true is = absurd (false-true (sym is))
behind_once (Some meanings.Begin) true true is = absurd (false-true (sym is))
behind_once (Some (meanings.Step actor step)) true true is = refl
behind_once (Some meanings.Sync) true true is = refl
behind_once (Some (meanings.Report query)) true true is = refl
behind_once (Some meanings.End) true true is = refl

-- ---- before a line is read

-- a line up to `begin` comes before the stage, and one after it behind it
pub begun_if_played : (i : Session) (b : Bool) → PartsAgree i → is_some i.played ≡ b → has_begun (script_so_far (session_view i)).place ≡ b
begun_if_played i b holds is = sym holds.session.begun ∙ same i.played ∙ is
  where
    same : (o : Option PlayedView) → is_some (screen_in o) ≡ is_some o
    same None = refl
    same (Some p) = refl

-- the stages before and after a line
pub record Stages (o n : Option PlayedView) (R : PlayedView → PlayedView → Type 0) : Type 0 where
  pub p : PlayedView
  pub q : PlayedView
  pub was : o ≡ Some p
  pub now : n ≡ Some q
  pub rel : R p q

pub stages : (o n : Option PlayedView) (R : PlayedView → PlayedView → Type 0) → IsSomeAnd o (λ p. IsSomeAnd n (λ q. R p q)) → Stages o n R
stages None n R has = absurd has
stages (Some p) None R has = absurd has
stages (Some p) (Some q) R has = record { p = p; q = q; was = refl; now = refl; rel = has }

-- a text that can't be told loses the session
pub tells_err : (t : LineSort) (outcome report bytes : List ℕ) (e : Unanswered) → Tells t outcome report bytes (Err e) → e ≡ unanswered.Lost
tells_err sorts.Nothing outcome report bytes e tells = tells
tells_err sorts.Step outcome report bytes e tells = tells
tells_err sorts.Sync outcome report bytes e tells = tells
tells_err sorts.Report outcome report bytes e tells = tells
tells_err sorts.End outcome report bytes e tells = tells

-- ---- a line that was read and followed

-- the parts of a session before and after a line, whose meaning was followed from p to q
pub record PlaysLine (i j : Session) (line : List ℕ) (said : Option Meaning) (p q : PlayedView) (f : Followed) (outcome : List ℕ) : Type 0 where
  pub holds : PartsAgree i
  pub begun : has_begun (script_so_far (session_view i)).place ≡ true
  pub none : fault_of (tried_by i.script.reader i.script.has_ended) 1 line ≡ None
  pub means : said ≡ meaning_of_line (tried_by i.script.reader i.script.has_ended) line
  pub was : i.played ≡ Some p
  pub now : j.played ≡ Some q
  pub follows : FollowsLine p q said (i.script.is_behind_step && sort_ends_steps (meaning_sort said)) f [] outcome
  pub reader : j.script.reader ≡ i.script.reader
  pub cuts : j.cuts ≡ i.cuts

module _ (i j : Session) (line : List ℕ) (said : Option Meaning) (p q : PlayedView) (f : Followed) (outcome : List ℕ)
    (plays : PlaysLine i j line said p q f outcome) where
  abbrev pub s : SessionView
  s = session_view i

  abbrev pub c : SoFar
  c = script_so_far s

  abbrev pub b : RunView Widget WidgetCmd
  b = plays.follows.now

  -- a sync is needed before the line
  abbrev pub needs : Bool
  needs = i.script.is_behind_step && sort_ends_steps (meaning_sort said)

  abbrev acts : ActsBehindSync widgets (as_run p) b said needs f.result [] outcome
  acts = plays.follows.acts

  tried : tried_by i.script.reader i.script.has_ended ≡ tried_against c
  tried =
      ap (λ (d : SoFar). tried_by d i.script.has_ended) plays.holds.reader
      ∙ ap (λ (ended : Bool). tried_by (opening_of c) ended) plays.holds.ended
      ∙ sym (tried_is c plays.begun)

  none_in : fault_of_line c line ≡ None
  none_in = ap (λ (d : SoFar). fault_of d 1 line) (sym tried) ∙ plays.none

  said_in : said ≡ meaning_of_line c line
  said_in = plays.means ∙ ap (λ (d : SoFar). meaning_of_line d line) tried ∙ meaning_tried c line

  needs_is : needs ≡ needs_sync c said
  needs_is =
      ap (λ (at : Bool). at && sort_ends_steps (meaning_sort said)) plays.holds.behind
      ∙ ap (λ (ends : Bool). is_at_steps c.place && ends) (ends_same said)

  rested : Rests c
  rested = rested_all nothing_yet s.lines plays.holds.session.taken (refl, refl)

  played : HasPlayedLines c (as_run p)
  played =
      let has : HasPlayedAllLines s p = subst (λ (o : Option PlayedView). HasStageOnceBegun s o) plays.was plays.holds.played in
      record { opening = has.opening; names = has.names; journal = has.journal }

  names_are : q.names ≡ b.names
  names_are = plays.follows.names ∙ sym acts.names

  screen_right : IsPicture q.stage.screen × Agrees widgets (state widgets b.stage) q.stage.screen
  screen_right = (
    plays.follows.picture,
    subst (λ (g : StageView Widget WidgetCmd). Agrees widgets (state widgets g) q.stage.screen) plays.follows.stage plays.follows.shows,
  )

  -- what a run has played, the stage of the session has
  has_played : (t : SessionView) → HasPlayedLines (script_so_far t) b → HasStageOnceBegun t j.played
  has_played t lines = subst (λ (o : Option PlayedView). HasStageOnceBegun t o) (sym plays.now) (record {
    opening = ap (λ (g : StageView Widget WidgetCmd). g.opening) plays.follows.stage ∙ lines.opening;
    names = names_are ∙ lines.names;
    journal = ap (λ (g : StageView Widget WidgetCmd). g.journal) plays.follows.stage ∙ lines.journal;
  })

  -- ---- the line was done

  module _ (done : f.result ≡ Ok tt) (lines : j.script.saved.lines ≡ (i.script.saved.lines ++ sync_lines needs) ++ line ∷ [])
      (behind : j.script.is_behind_step ≡ behind_sort (meaning_sort said) (cond needs false i.script.is_behind_step))
      (ended : j.script.has_ended ≡ (i.script.has_ended || is_end (meaning_sort said))) where
    abbrev d : SoFar
    d = after_all_lines c (added_lines c line)

    abbrev t : SessionView
    t = with_more_lines s (added_lines c line) (Some q.stage.screen)

    adds : AddsLine c line d
    adds = follows c line plays.begun none_in

    runs : Runs c line needs (as_run p) acts.begun b
    runs = record {
      synced_is = needs_is ∙ ap (needs_sync c) said_in;
      sync = acts.sync done;
      did = subst (λ (m : Option Meaning). Does widgets widget_words acts.begun b (cues_of_meaning m)) said_in (acts.did done);
    }

    after : HasPlayedLines d b
    after = stage_after c line d needs (as_run p) acts.begun b plays.begun rested played runs adds

    next : script_so_far t ≡ d
    next = so_far_after s (added_lines c line) (Some q.stage.screen)

    lines_are : j.script.saved.lines ≡ s.lines ++ added_lines c line
    lines_are =
        lines
        ∙ append_assoc s.lines (sync_lines needs) (line ∷ [])
        ∙ ap (λ (synced : Bool). s.lines ++ (sync_lines synced ++ line ∷ [])) runs.synced_is

    view : session_view j ≡ t
    view = view_is j (s.lines ++ added_lines c line) (Some q.stage.screen) s.cuts lines_are (ap screen_in plays.now) plays.cuts

    pub played_holds : PartsAgree j
    played_holds =
        together j t view (session_after s line b q.stage.screen plays.holds.session none_in plays.begun after screen_right)
        (plays.reader ∙ plays.holds.reader ∙ sym (opening_after c line d plays.begun adds) ∙ ap opening_of (sym next))
        (ended
        ∙ ap (λ (e : Bool). e || is_end (meaning_sort said)) plays.holds.ended
        ∙ ap (λ (m : Option Meaning). has_ended c.place || is_end (meaning_sort m)) said_in
        ∙ sym (ended_after c line d adds)
        ∙ ap (λ (e : SoFar). has_ended e.place) (sym next))
        (behind
        ∙ ap (λ (at : Bool). behind_sort (meaning_sort said) (cond needs false at)) plays.holds.behind
        ∙ behind_once said needs (is_at_steps c.place) needs_is
        ∙ ap (λ (m : Option Meaning). behind_sort (meaning_sort m) (is_at_steps c.place)) said_in
        ∙ sym (behind_after c line d adds)
        ∙ ap (λ (e : SoFar). is_at_steps e.place) (sym next))
        (has_played t (subst (λ (e : SoFar). HasPlayedLines e b) (sym next) after))

    pub played_takes : (bytes : List ℕ) → Tells (meaning_sort said) outcome f.text bytes (Ok tt) → Takes s line bytes (Ok tt) (session_view j)
    played_takes bytes tells = (
      none_in,
      tells_text s said needs (as_run p) acts.begun b outcome bytes played refl refl needs_is (acts.sync done) (acts.did done)
          (acts.outcome done)
          (subst (λ (told : List ℕ). Tells (meaning_sort said) outcome told bytes (Ok tt)) plays.follows.text tells)
          ∙ ap (λ (m : Option Meaning). answer_bytes (text (text_for_line s m))) said_in,
      view_is j (s.lines ++ added_lines c line) (screen_in j.played) s.cuts lines_are refl plays.cuts,
    )

  -- ---- an error: the lines are the same

  module _ (e : Unanswered) (is : f.result ≡ Err e) (lines : j.script.saved.lines ≡ i.script.saved.lines)
      (behind : j.script.is_behind_step ≡ i.script.is_behind_step) (ended : j.script.has_ended ≡ i.script.has_ended) where
    -- for want of memory the stage is the same
    kept : f.result ≡ Err unanswered.NoMemory → PartsAgree j
    kept lost =
        let whole : KeepsLines p.stage b.stage = acts.whole lost in
        let now : HasPlayedLines c b = record {
          opening = whole.opening ∙ played.opening;
          names = acts.names ∙ played.names;
          journal = whole.journal ∙ played.journal;
        } in
        let t : SessionView = record s { screen = Some q.stage.screen } in
        let right : Agrees widgets (stage_state s) q.stage.screen =
        subst (λ (m : State Widget WidgetCmd). Agrees widgets m q.stage.screen) (state_of_lines s b now) screen_right.1 in
        together j t (view_is j s.lines (Some q.stage.screen) s.cuts lines (ap screen_in plays.now) plays.cuts)
        (session_same s q.stage.screen plays.holds.session plays.begun (screen_right.0, right))
        (plays.reader ∙ plays.holds.reader)
        (ended ∙ plays.holds.ended)
        (behind ∙ plays.holds.behind)
        (has_played t now)

    pub err_takes : (bytes : List ℕ) → Takes s line bytes (Err e) (session_view j)
    err_takes bytes = by_error e is
      where
        by_error : (e : Unanswered) → f.result ≡ Err e → Takes s line bytes (Err e) (session_view j)
        by_error (unanswered.Fault code) is = absurd (subst (λ (r : Result Unit Unanswered). IfErr r IsWantOfMemory) is acts.fault)
        by_error unanswered.NoMemory is = view_is j s.lines (screen_in j.played) s.cuts lines refl plays.cuts
        by_error unanswered.Lost is = none_in

    pub err_holds : (e ≡ unanswered.Lost → ⊥) → PartsAgree j
    err_holds other = by_error e is other
      where
        by_error : (e : Unanswered) → f.result ≡ Err e → (e ≡ unanswered.Lost → ⊥) → PartsAgree j
        by_error (unanswered.Fault code) is other = absurd (subst (λ (r : Result Unit Unanswered). IfErr r IsWantOfMemory) is acts.fault)
        by_error unanswered.NoMemory is other = kept is
        by_error unanswered.Lost is other = absurd (other refl)

  -- a text that can't be told loses the session
  pub untold_takes : (e : Unanswered) (bytes : List ℕ) (v : SessionView) → Tells (meaning_sort said) outcome f.text bytes (Err e) → Takes s line bytes (Err e) v
  untold_takes e bytes v tells =
      subst (λ (lost : Unanswered). Takes s line bytes (Err lost) v) (sym (tells_err (meaning_sort said) outcome f.text bytes e tells)) none_in
