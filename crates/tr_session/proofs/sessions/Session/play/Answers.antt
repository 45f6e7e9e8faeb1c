use Rattle.std.proofs.Common.{ℕ, Bool, false, ◌&&◌, ◌||◌, cond, List, [], ◌∷◌, ◌++◌, Ok, Err, ap, subst, ◌∙◌}
use Rattle.tr_session.specs.declared.scripts.Script.{Script}
use Rattle.tr_session.specs.declared.sessions.Session.{Session}
use Rattle.tr_session.specs.declared.errors.Unanswered.{Unanswered}
use Rattle.tr_session.specs.declared.sorts.LineSort.{LineSort}
use Rattle.tr_session.specs.Answering.{Tells, behind_sort, sort_ends_steps, is_end, meaning_sort, tried_by}
use Rattle.tr_session.specs.Insides.{session_view}
use Rattle.tr_session.specs.Lines.{sync_lines}
use Rattle.tr_session.specs.Playing.{FollowsLine, PlayedView}
use Rattle.tr_session.proofs.PlayedLemmas.{PlaysLine, err_holds, err_takes, played_holds, played_takes, stages, tells_err, untold_takes}
use Rattle.tr_session.proofs.TakenLemmas.{plain_if_taken}
use Rattle.tr_session.proofs.sessions.Session.play.Goals as goal

pub keep-requires-clause-plain : goal.keep-requires-clause-plain
keep-requires-clause-plain c =
    plain_if_taken (tried_by c.args.self.now.script.reader c.args.self.now.script.has_ended) 1 c.args.line.now c.in_ok-said.ensures.none

pub returns-in-Ok-tell : goal.returns-in-Ok-tell
returns-in-Ok-tell c =
    let i : Session = c.args.self.now in
    let line = c.args.line.now in
    let said = c.in_ok-said.said in
    let f = c.follow-result.result in
    let n : Session = c.follow-result.new.self in
    let outcome = n.outcome.items in
    let j : Session = record { alloc = n.alloc; arena = n.arena; script = c.keep.new.self; played = n.played; cuts = n.cuts; outcome = n.outcome } in
    let R : PlayedView → PlayedView → Type 0 = λ p q. FollowsLine p q said c.needs_sync-needs_sync.result f [] outcome in
    let st = stages i.played n.played R c.follow-result.ensures.followed in
    let needs = c.needs_sync-needs_sync.ensures ∙ ap (λ (t : LineSort). i.script.is_behind_step && sort_ends_steps t) c.sort_of-sort.ensures in
    let plays : PlaysLine i j line said st.p st.q f outcome = record {
      holds = c.requires.holds;
      begun = c.requires.begun;
      none = c.in_ok-said.ensures.none;
      means = c.in_ok-said.ensures.meaning;
      was = st.was;
      now = st.now;
      follows = subst (λ (b : Bool). FollowsLine st.p st.q said b f [] outcome) needs st.rel;
      reader = c.keep.ensures.reader ∙ c.keep_sync.ensures.reader ∙ ap (λ (s : Script). s.reader) c.follow-result.ensures.script;
      cuts = c.follow-result.ensures.cuts;
    } in
    let before = ap (λ (s : Script). s.saved.lines) c.follow-result.ensures.script ∙ c.reserve.ensures.lines in
    let synced_lines = c.keep_sync.ensures.lines ∙ ap (λ (ls : List (List ℕ)). ls ++ sync_lines c.needs_sync-needs_sync.result) before
    ∙ ap (λ (b : Bool). i.script.saved.lines ++ sync_lines b) needs in
    let synced_behind = c.keep_sync.ensures.behind
    ∙ ap (λ (s : Script). cond c.needs_sync-needs_sync.result false s.is_behind_step) c.follow-result.ensures.script
    ∙ ap (λ (b : Bool). cond b false i.script.is_behind_step) needs in
    let synced_ended = c.keep_sync.ensures.ended ∙ ap (λ (s : Script). s.has_ended) c.follow-result.ensures.script in
    let lines = c.keep.ensures.lines ∙ ap (λ (ls : List (List ℕ)). ls ++ line ∷ []) synced_lines in
    let behind = c.keep.ensures.behind ∙ ap (λ (t : LineSort). behind_sort t c.keep_sync.new.self.is_behind_step) c.sort_of-sort.ensures
    ∙ ap (λ (b : Bool). behind_sort (meaning_sort said) b) synced_behind in
    let ended = c.keep.ensures.ended ∙ ap (λ (t : LineSort). c.keep_sync.new.self.has_ended || is_end t) c.sort_of-sort.ensures
    ∙ ap (λ (b : Bool). b || is_end (meaning_sort said)) synced_ended in
    let tells = subst (λ (t : LineSort). Tells t outcome f.text c.tell.new.reply (Ok tt)) c.sort_of-sort.ensures
    (subst (λ (o : List ℕ). Tells c.sort_of-sort.result o f.text c.tell.new.reply (Ok tt)) c.deref.ensures.value c.in-Ok-tell.ensures) in
    record {
      takes = played_takes i j line said st.p st.q f outcome plays c.in-Ok.is lines behind ended c.tell.new.reply tells;
      holds = λ other. played_holds i j line said st.p st.q f outcome plays c.in-Ok.is lines behind ended;
      lost = λ lost. absurd (cc);
    }

pub returns-in-Err-tell-clause-takes : goal.returns-in-Err-tell-clause-takes
returns-in-Err-tell-clause-takes c =
    let i : Session = c.args.self.now in
    let line = c.args.line.now in
    let said = c.in_ok-said.said in
    let f = c.follow-result.result in
    let n : Session = c.follow-result.new.self in
    let outcome = n.outcome.items in
    let j : Session = record { alloc = n.alloc; arena = n.arena; script = n.script; played = n.played; cuts = n.cuts; outcome = n.outcome } in
    let R : PlayedView → PlayedView → Type 0 = λ p q. FollowsLine p q said c.needs_sync-needs_sync.result f [] outcome in
    let st = stages i.played n.played R c.follow-result.ensures.followed in
    let needs = c.needs_sync-needs_sync.ensures ∙ ap (λ (t : LineSort). i.script.is_behind_step && sort_ends_steps t) c.sort_of-sort.ensures in
    let plays : PlaysLine i j line said st.p st.q f outcome = record {
      holds = c.requires.holds;
      begun = c.requires.begun;
      none = c.in_ok-said.ensures.none;
      means = c.in_ok-said.ensures.meaning;
      was = st.was;
      now = st.now;
      follows = subst (λ (b : Bool). FollowsLine st.p st.q said b f [] outcome) needs st.rel;
      reader = ap (λ (s : Script). s.reader) c.follow-result.ensures.script;
      cuts = c.follow-result.ensures.cuts;
    } in
    let tells = subst (λ (t : LineSort). Tells t outcome f.text c.tell.new.reply (Err c.in-Err-tell.e)) c.sort_of-sort.ensures
    (subst (λ (o : List ℕ). Tells c.sort_of-sort.result o f.text c.tell.new.reply (Err c.in-Err-tell.e)) c.deref.ensures.value c.in-Err-tell.ensures) in
    untold_takes i j line said st.p st.q f outcome plays c.in-Err-tell.e c.tell.new.reply (session_view j) tells

pub returns-in-Err-tell-clause-holds : goal.returns-in-Err-tell-clause-holds
returns-in-Err-tell-clause-holds c = λ other.
    let f = c.follow-result.result in
    let lost = tells_err c.sort_of-sort.result c.deref.result.now f.text c.tell.new.reply c.in-Err-tell.e c.in-Err-tell.ensures in
    absurd (other (ap (λ (e : Unanswered). Err e) lost))

pub returns-in-Err : goal.returns-in-Err
returns-in-Err c =
    let i : Session = c.args.self.now in
    let line = c.args.line.now in
    let said = c.in_ok-said.said in
    let f = c.follow-result.result in
    let n : Session = c.follow-result.new.self in
    let outcome = n.outcome.items in
    let j : Session = record { alloc = n.alloc; arena = n.arena; script = n.script; played = n.played; cuts = n.cuts; outcome = n.outcome } in
    let R : PlayedView → PlayedView → Type 0 = λ p q. FollowsLine p q said c.needs_sync-needs_sync.result f [] outcome in
    let st = stages i.played n.played R c.follow-result.ensures.followed in
    let needs = c.needs_sync-needs_sync.ensures ∙ ap (λ (t : LineSort). i.script.is_behind_step && sort_ends_steps t) c.sort_of-sort.ensures in
    let plays : PlaysLine i j line said st.p st.q f outcome = record {
      holds = c.requires.holds;
      begun = c.requires.begun;
      none = c.in_ok-said.ensures.none;
      means = c.in_ok-said.ensures.meaning;
      was = st.was;
      now = st.now;
      follows = subst (λ (b : Bool). FollowsLine st.p st.q said b f [] outcome) needs st.rel;
      reader = ap (λ (s : Script). s.reader) c.follow-result.ensures.script;
      cuts = c.follow-result.ensures.cuts;
    } in
    let lines = ap (λ (s : Script). s.saved.lines) c.follow-result.ensures.script ∙ c.reserve.ensures.lines in
    let behind = ap (λ (s : Script). s.is_behind_step) c.follow-result.ensures.script in
    let ended = ap (λ (s : Script). s.has_ended) c.follow-result.ensures.script in
    record {
      takes = err_takes i j line said st.p st.q f outcome plays c.in-Err.e c.in-Err.is lines behind ended c.args.reply.now;
      holds = λ other. err_holds i j line said st.p st.q f outcome plays c.in-Err.e c.in-Err.is lines behind ended
          (λ lost. other (ap (λ (e : Unanswered). Err e) lost));
      lost = λ lost. record { lines = lines; cuts = c.follow-result.ensures.cuts };
    }
