use Rattle.std.proofs.Common.{ℕ, List, [], ◌∷◌, ◌++◌, refl, sym, ap, ◌∙◌}
use Rattle.tr_session.specs.declared.scripts.Script.{Script}
use Rattle.tr_session.specs.declared.sessions.Session.{Session}
use Rattle.tr_session.specs.Saving.{Saved}
use Rattle.tr_session.proofs.OpenedLemmas.{TakesBegin, TakesOpening, opened_early, opened_takes, start_holds, start_lost, start_takes}
use Rattle.tr_session.proofs.TakenLemmas.{plain_if_taken}
use Rattle.tr_session.proofs.sessions.Session.open.Goals as goal

pub start-requires-clause-plain : goal.start-requires-clause-plain
start-requires-clause-plain c = plain_if_taken c.args.self.now.script.reader 1 c.args.line.now c.in_ok-take.ensures.none

pub push-requires-clause-plain : goal.push-requires-clause-plain
push-requires-clause-plain c = plain_if_taken c.args.self.now.script.reader 1 c.args.line.now c.in_ok-take.ensures.none

pub returns-then-has_begun : goal.returns-then-has_begun
returns-then-has_begun c =
    let i : Session = c.args.self.now in
    let line = c.args.line.now in
    let lines = ap (λ (s : Saved). s.lines) c.take.ensures.saved ∙ c.reserve.ensures.lines in
    let k : Session = record { alloc = i.alloc; arena = i.arena; script = c.take.new.self; played = i.played; cuts = i.cuts; outcome = i.outcome } in
    let take : TakesBegin i k line = record {
      holds = c.requires.holds;
      fresh = c.requires.early;
      none = c.in_ok-take.ensures.none;
      lines = lines;
      reader = c.in_ok-take.ensures.next;
      ended = c.take.ensures.ended;
      behind = c.take.ensures.behind;
      played = refl;
      cuts = refl;
      begun = sym c.has_begun.ensures ∙ c.if-has_begun.true;
    } in
    record {
      takes = start_takes i k c.start.new.self line take c.start.new.reply c.start.result c.start.ensures.ok c.start.ensures.err;
      holds = λ other. start_holds i k c.start.new.self line take c.start.new.reply c.start.result c.start.ensures.ok c.start.ensures.err other;
      lost = λ lost. start_lost i k c.start.new.self line take c.start.new.reply c.start.result c.start.ensures.err lost;
    }

pub returns : goal.returns
returns c =
    let i : Session = c.args.self.now in
    let line = c.args.line.now in
    let lines = ap (λ (s : Saved). s.lines) c.take.ensures.saved ∙ c.reserve.ensures.lines in
    let script : Script = record {
      reader = c.take.new.self.reader;
      saved = c.push.new.self;
      is_behind_step = c.take.new.self.is_behind_step;
      has_ended = c.take.new.self.has_ended;
    } in
    let j : Session = record { alloc = i.alloc; arena = i.arena; script = script; played = i.played; cuts = i.cuts; outcome = i.outcome } in
    let take : TakesOpening i j line = record {
      holds = c.requires.holds;
      fresh = c.requires.early;
      none = c.in_ok-take.ensures.none;
      lines = c.push.ensures.lines ∙ ap (λ (ls : List (List ℕ)). ls ++ line ∷ []) lines;
      reader = c.in_ok-take.ensures.next;
      ended = c.take.ensures.ended;
      behind = c.take.ensures.behind;
      cuts = refl;
    } in
    record {
      takes = opened_takes i j line take c.set_empty.new.self c.set_empty.ensures;
      holds = λ other. opened_early i j line take (sym c.has_begun.ensures ∙ c.if-has_begun.false) refl;
      lost = λ lost. absurd (cc);
    }
