-- The end of a session, by its turns.
use Rattle.std.proofs.Common.{◌≡◌, inl, inr, ℕ, ◌+◌, ◌-◌, ◌≤◌, Bool, true, false, List, [], ◌∷◌, ◌++◌, Ok, Err, length, length-append, take, refl, sym, ap, subst, ◌∙◌, arith}
use Rattle.std.specs.Prelude.{◌^◌, ◌⊎◌, All, Option, Result, not}
use Rattle.std.specs.Result.{IsErrAnd}
use Rattle.std.proofs.lemmas.List.{take-take}
use Rattle.std.proofs.lemmas.List.Elements.{All-push, All-take}
use Rattle.std.proofs.Math.Seq.{take-length}
use Rattle.tr_io.specs.Streams.{Grew, GrewByPrefix}
use Rattle.tr_session.specs.declared.errors.Stopped.{Stopped}
use Rattle.tr_session.specs.declared.errors.Stopped.TheVariants as stopped
use Rattle.tr_session.specs.Answers.{Answer, AreAnswered, IsNextSession, answer_bytes, ends}
use Rattle.tr_session.specs.Arrivals.{ArrivalsView, first_bytes, whole_lines}
use Rattle.tr_session.specs.Calls.{AreAll, HasQuit, HasServed, SinkBytes, SourceBytes}
use Rattle.tr_session.specs.Sessions.{SessionView, no_session}
use Rattle.tr_session.specs.Turns.{AnswersInPart, ReadsNothing, Serving, TakesOneTurn, Writes}
use Rattle.tr_session.proofs.FrontLemmas.{ends_by_front}
use Rattle.tr_session.proofs.GatheringLemmas.{bytes_of, front_written, none_left, part_written}
use Rattle.tr_session.proofs.ServingLemmas.{HasCome, IsServed, all_whole, first_whole, line_begun, line_came, next_by_front, none_came, none_served, one_answered, one_served, quit_served, read_served, take_before_last, written_served}
use Rattle.tr_session.proofs.WritingLemmas.{change}

-- a sink whose bytes grew by a text grew by its front
grew_whole : (x y : Option (List ℕ)) (t : List ℕ) → Grew x y t → GrewByPrefix x y t
grew_whole x y t grew = (length t, subst (λ (front : List ℕ). Grew x y front) (sym (take-length t)) grew)

-- none of these lines ends the session
abbrev pub AreGoing : List (List ℕ) → Type 0
AreGoing lines = All (λ line. ends line ≡ false) lines

no_line_going : AreGoing []
no_line_going = λ k d within. absurd (omega (arith, within))

-- the first of the lines that were answered are the first whole ones
front_whole : (bytes : List ℕ) (lines : List (List ℕ)) (part : List ℕ) (a : ArrivalsView) → HasCome bytes lines part a → (m : ℕ) → m ≤ length lines →
    take m (whole_lines bytes) ≡ take m lines
front_whole bytes lines part a came m few =
    sym (take-take m (length lines) (whole_lines bytes) few) ∙ ap (take m) (first_whole bytes lines part a came)

-- so none of them but the last may end it
front_going : (bytes : List ℕ) (lines : List (List ℕ)) (part : List ℕ) (a : ArrivalsView) → HasCome bytes lines part a →
    AreGoing (take (length lines - 1) lines) → AreGoing (take (length lines - 1) (whole_lines bytes))
front_going bytes lines part a came going =
    subst AreGoing (sym (front_whole bytes lines part a came (length lines - 1) (omega arith))) going

-- ---- the answers were written

module _ (from : SourceBytes) (to : SinkBytes) (s : SessionView) (a : ArrivalsView) (served : IsServed from to s a [])
    (going : AreGoing (take (length served.lines - 1) served.lines)) where
  ends_whole : (result : Result Unit Stopped) → AreAll result from served.bytes (length served.lines) → HasServed from result to
  ends_whole result all =
      let wrote : Grew to.written to.written_new (bytes_of served.answers) = none_left to served.answers served.waits in
      record {
        bytes = served.bytes;
        came = served.came;
        count = length served.lines;
        answers = served.answers;
        last = s;
        answered = subst (λ (lines : List (List ℕ)). AreAnswered no_session lines served.answers s)
            (sym (first_whole served.bytes served.lines served.part a served.has)) served.answered;
        before = front_going served.bytes served.lines served.part a served.has going;
        all = all;
        begun = grew_whole to.written to.written_new (bytes_of served.answers) wrote;
        written = λ whole. wrote;
      }

  ends_unread : ReadsNothing a → HasServed from (Err stopped.Unread) to
  ends_unread nothing =
      let looked = none_came served.bytes served.lines served.part a nothing.looked served.has nothing.unbroken in
      ends_whole (Err stopped.Unread)
      (sym (ap length (all_whole served.bytes served.lines (served.part ++ a.rest) nothing.looked looked nothing.unbroken.rest)))

-- ---- some answers wait

module _ (from : SourceBytes) (to : SinkBytes) (s : SessionView) (a : ArrivalsView) (waiting : List ℕ) (served : IsServed from to s a waiting)
    (going : AreGoing (take (length served.lines - 1) served.lines)) where
  -- they were all written
  ends_flushed : (next : SinkBytes) (result : Result Unit Stopped) → AreAll result from served.bytes (length served.lines) →
      next.written ≡ to.written_new → Grew next.written next.written_new waiting → HasServed from result (change to.written next.written_new)
  unfolding written_served
  ends_flushed next result all joins grew =
      let wrote : Grew to.written_new next.written_new waiting = subst (λ (before : Option (List ℕ)). Grew before next.written_new waiting) joins grew in
      ends_whole from (change to.written next.written_new) s a (written_served from to s a waiting next.written_new served wrote) going result all

  -- they were written in part
  ends_in_front : (next : SinkBytes) → next.written ≡ to.written_new → GrewByPrefix next.written next.written_new waiting →
      HasServed from (Err stopped.Unwritten) (change to.written next.written_new)
  ends_in_front next joins grew = record {
    bytes = served.bytes;
    came = served.came;
    count = length served.lines;
    answers = served.answers;
    last = s;
    answered = subst (λ (lines : List (List ℕ)). AreAnswered no_session lines served.answers s)
        (sym (first_whole served.bytes served.lines served.part a served.has)) served.answered;
    before = front_going served.bytes served.lines served.part a served.has going;
    all = tt;
    begun = front_written to served.answers waiting served.waits next.written_new
        (subst (λ (before : Option (List ℕ)). GrewByPrefix before next.written_new waiting) joins grew);
    written = λ whole. absurd (whole refl);
  }

  -- a session that is over ends when they are written; no memory is needed for it
  ends_written : (next : SinkBytes) (result : Result Unit Stopped) → AreAll (Ok tt) from served.bytes (length served.lines) →
      next.written ≡ to.written_new → (result ≡ Err stopped.NoMemory → ⊥) → Writes waiting result next →
      HasServed from result (change to.written next.written_new)
  ends_written next (Ok done) all joins other writes = ends_flushed next (Ok tt) all joins writes
  ends_written next (Err stopped.Unread) all joins other writes = absurd writes
  ends_written next (Err stopped.Unwritten) all joins other writes = ends_in_front next joins writes
  ends_written next (Err stopped.NoMemory) all joins other writes = absurd (other refl)

-- one more answer was written in part
ends_in_part : (from : SourceBytes) (to : SinkBytes) (a : Serving) → (served : IsServed from to a.session a.arrivals a.waiting) → AreGoing served.lines →
    (next : SinkBytes) → next.written ≡ to.written_new → AnswersInPart a next → HasServed from (Err stopped.Unwritten) (change to.written next.written_new)
ends_in_part from to a served going next joins in_part =
    let part = in_part.part in
    let line : List ℕ = served.part ++ in_part.line.more in
    let begun = line_begun served.bytes served.lines served.part a.arrivals in_part.whole served.has in_part.line in
    let answered : IsNextSession a.session line part.answer part.last =
    next_by_front a.session part.last line in_part.whole.begun part.answer begun part.answered in
    let lines : List (List ℕ) = served.lines ++ line ∷ [] in
    let answers : List Answer = served.answers ++ part.answer ∷ [] in
    let left : ArrivalsView = record in_part.whole { begun = [] } in
    let has : HasCome served.bytes lines [] left =
    line_came served.bytes served.lines served.part a.arrivals in_part.whole served.has in_part.line in
    record {
      bytes = served.bytes;
      came = served.came;
      count = length lines;
      answers = answers;
      last = part.last;
      answered = subst (λ (ls : List (List ℕ)). AreAnswered no_session ls answers part.last)
          (sym (first_whole served.bytes lines [] left has))
          (one_answered no_session a.session part.last served.lines served.answers line part.answer served.answered answered);
      before = front_going served.bytes lines [] left has (subst AreGoing (sym (take_before_last served.lines line)) going);
      all = tt;
      begun = part_written to served.answers a.waiting served.waits next.written_new part.answer
          (subst (λ (before : Option (List ℕ)). GrewByPrefix before next.written_new (a.waiting ++ answer_bytes part.answer)) joins part.wrote);
      written = λ whole. absurd (whole refl);
    }

-- ---- by turns

-- after a turn with which the session goes on: there were no more turns than bytes and lines
pub record IsCounted (from : SourceBytes) (to : SinkBytes) (a : Serving) (turns : ℕ) : Type 0 where
  pub served : IsServed from to a.session a.arrivals a.waiting
  pub going : AreGoing served.lines
  pub few : turns ≤ length served.bytes + length served.lines

-- before the first turn
pub starts : (left written after : Option (List ℕ)) (s : SessionView) (a : ArrivalsView) (waiting : List ℕ) → s ≡ no_session → a.begun ≡ [] →
    a.rest ≡ [] → waiting ≡ [] → after ≡ written →
    IsCounted (record { left = left; left_new = left }) (change written after) (record { session = s; arrivals = a; waiting = waiting }) 0
unfolding none_served
starts left written after s a waiting view begun rest empty same =
    subst (λ (w : Option (List ℕ)). IsCounted (record { left = left; left_new = left }) (change written w)
    (record { session = s; arrivals = a; waiting = waiting }) 0) (sym same)
    (subst (λ (v : SessionView). IsCounted (record { left = left; left_new = left }) (change written written)
    (record { session = v; arrivals = a; waiting = waiting }) 0) (sym view)
    (record { served = none_served left written a waiting begun rest empty; going = no_line_going; few = omega arith }))

-- a line goes on or ends the session if its front does
ends_is : (line begun : List ℕ) (goes : Bool) → begun ≡ first_bytes line → goes ≡ not (ends begun) → ends line ≡ not goes
ends_is line begun goes is on =
    sym (ends_by_front line) ∙ ap ends (sym is) ∙ not_not (ends begun) ∙ ap (λ (b : Bool). not b) (sym on)
  where
    not_not : (b : Bool) → b ≡ not (not b)
    not_not true = refl
    not_not false = refl

pub goes_on : (from next_from : SourceBytes) (to next : SinkBytes) (a b : Serving) (turns : ℕ) → IsCounted from to a turns →
    next_from.left ≡ from.left_new → next.written ≡ to.written_new → TakesOneTurn a next_from (Ok true) next b →
    IsCounted (record { left = from.left; left_new = next_from.left_new }) (change to.written next.written_new) b (turns + 1)
unfolding one_served read_served
goes_on from next_from to next a b turns counted joins_from joins (inl one) =
    let served = counted.served in
    let after = one_served from to next a b true served joins one.0 in
    let line : List ℕ = served.part ++ one.0.line.more in
    let begun = line_begun served.bytes served.lines served.part a.arrivals one.0.whole served.has one.0.line in
    let same : next_from.left_new ≡ from.left_new = one.1 ∙ joins_from in
    let going : AreGoing after.lines =
    All-push (λ l. ends l ≡ false) served.lines line counted.going (ends_is line one.0.whole.begun true begun one.0.goes_on) in
    let longer : turns + 1 ≤ length after.bytes + length after.lines =
    omega (arith, counted.few, length-append served.lines (line ∷ [])) in
    subst (λ (left : Option (List ℕ)). IsCounted (record { left = from.left; left_new = left }) (change to.written next.written_new) b (turns + 1))
    (sym same) (record { served = after; going = going; few = longer })
goes_on from next_from to next a b turns counted joins_from joins (inr reads) =
    let served = counted.served in
    let after = read_served from next_from to next a b true served joins_from joins reads in
    let longer : turns + 1 ≤ length after.bytes + length after.lines =
    omega (arith, counted.few, reads.more refl, length-append served.bytes b.arrivals.rest) in
    record { served = after; going = counted.going; few = longer }

-- after a turn with which it ends, before the answers that wait are written
pub record IsEnding (from : SourceBytes) (to : SinkBytes) (a : Serving) : Type 0 where
  pub served : IsServed from to a.session a.arrivals a.waiting
  pub going : AreGoing (take (length served.lines - 1) served.lines)
  pub all : AreAll (Ok tt) from served.bytes (length served.lines)

pub ends_with : (from next_from : SourceBytes) (to next : SinkBytes) (a b : Serving) (turns : ℕ) → IsCounted from to a turns →
    next_from.left ≡ from.left_new → next.written ≡ to.written_new → TakesOneTurn a next_from (Ok false) next b →
    IsEnding (record { left = from.left; left_new = next_from.left_new }) (change to.written next.written_new) b
unfolding one_served read_served
ends_with from next_from to next a b turns counted joins_from joins (inl one) =
    let served = counted.served in
    let after = one_served from to next a b false served joins one.0 in
    let line : List ℕ = served.part ++ one.0.line.more in
    let begun = line_begun served.bytes served.lines served.part a.arrivals one.0.whole served.has one.0.line in
    let quit : HasQuit (served.lines ++ line ∷ []) =
    quit_served served.lines line (ends_is line one.0.whole.begun false begun one.0.goes_on) in
    let same : next_from.left_new ≡ from.left_new = one.1 ∙ joins_from in
    subst (λ (left : Option (List ℕ)). IsEnding (record { left = from.left; left_new = left }) (change to.written next.written_new) b) (sym same) (record {
      served = after;
      going = subst AreGoing (sym (take_before_last served.lines line)) counted.going;
      all = inl (subst HasQuit (sym (first_whole after.bytes after.lines after.part b.arrivals after.has)) quit);
    })
ends_with from next_from to next a b turns counted joins_from joins (inr reads) =
    let served = counted.served in
    let after = read_served from next_from to next a b false served joins_from joins reads in
    let over = reads.over refl in
    record {
      served = after;
      going = All-take (λ l. ends l ≡ false) (length served.lines - 1) served.lines counted.going;
      all = inr (inl (sym (ap length (all_whole after.bytes after.lines after.part b.arrivals after.has over.0)), over.1));
    }

-- the answers that wait are written after that turn
pub ends_after : (from : SourceBytes) (to next : SinkBytes) (a : Serving) (result : Result Unit Stopped) → IsEnding from to a →
    next.written ≡ to.written_new → (result ≡ Err stopped.NoMemory → ⊥) → Writes a.waiting result next →
    HasServed from result (change to.written next.written_new)
ends_after from to next a result ending joins other writes =
    ends_written from to a.session a.arrivals a.waiting ending.served ending.going next result ending.all joins other writes

-- none of the lines so far ends the session
all_going : (from : SourceBytes) (to : SinkBytes) (a : Serving) (turns : ℕ) → (counted : IsCounted from to a turns) →
    AreGoing (take (length counted.served.lines - 1) counted.served.lines)
all_going from to a turns counted =
    All-take (λ l. ends l ≡ false) (length counted.served.lines - 1) counted.served.lines counted.going

-- or after more turns than any process lasts
pub ends_late : (from : SourceBytes) (to next : SinkBytes) (a : Serving) (turns : ℕ) (result : Result Unit Stopped) → IsCounted from to a turns →
    2 ^ 64 - 1 ≤ turns → next.written ≡ to.written_new → (result ≡ Err stopped.NoMemory → ⊥) → Writes a.waiting result next →
    HasServed from result (change to.written next.written_new)
ends_late from to next a turns result counted late joins other writes =
    ends_written from to a.session a.arrivals a.waiting counted.served (all_going from to a turns counted) next result
    (inr (inr (omega (arith, late, counted.few)))) joins other writes

-- after a turn that stops it
pub stops_with : (from next_from : SourceBytes) (to next : SinkBytes) (a b : Serving) (turns : ℕ) (e : Stopped) → IsCounted from to a turns →
    next_from.left ≡ from.left_new → next.written ≡ to.written_new → TakesOneTurn a next_from (Err e) next b →
    HasServed (record { left = from.left; left_new = next_from.left_new }) (Err e) (change to.written next.written_new)
unfolding written_served
stops_with from next_from to next a b turns stopped.Unread counted joins_from joins turned =
    let wrote : Grew to.written_new next.written_new a.waiting =
    subst (λ (before : Option (List ℕ)). Grew before next.written_new a.waiting) joins turned.1 in
    subst (λ (l : Option (List ℕ)). HasServed (record { left = from.left; left_new = l }) (Err stopped.Unread) (change to.written next.written_new))
    (sym (turned.2 ∙ joins_from))
    (ends_unread from (change to.written next.written_new) a.session a.arrivals
    (written_served from to a.session a.arrivals a.waiting next.written_new counted.served wrote) (all_going from to a turns counted) turned.0)
stops_with from next_from to next a b turns stopped.Unwritten counted joins_from joins turned =
    subst (λ (l : Option (List ℕ)). HasServed (record { left = from.left; left_new = l }) (Err stopped.Unwritten) (change to.written next.written_new))
    (sym (turned.1 ∙ joins_from)) (by_part turned.0)
  where
    by_part : AnswersInPart a next ⊎ GrewByPrefix next.written next.written_new a.waiting →
        HasServed from (Err stopped.Unwritten) (change to.written next.written_new)
    by_part (inl in_part) = ends_in_part from to a counted.served counted.going next joins in_part
    by_part (inr grew) =
        ends_in_front from to a.session a.arrivals a.waiting counted.served (all_going from to a turns counted) next joins grew
stops_with from next_from to next a b turns stopped.NoMemory counted joins_from joins turned =
    subst (λ (l : Option (List ℕ)). HasServed (record { left = from.left; left_new = l }) (Err stopped.NoMemory) (change to.written next.written_new))
    (sym (turned.1 ∙ joins_from))
    (ends_flushed from to a.session a.arrivals a.waiting counted.served (all_going from to a turns counted) next (Err stopped.NoMemory) tt joins turned.0)

-- a session for which there was no memory at the start
pub none_ends : (left written after : Option (List ℕ)) (e : Stopped) → after ≡ written → e ≡ stopped.NoMemory →
    HasServed (record { left = left; left_new = left }) (Err e) (record { written = written; written_new = after })
unfolding none_served
none_ends left written after e same is =
    let none : ArrivalsView = record { begun = []; rest = [] } in
    subst (λ (w : Option (List ℕ)). HasServed (record { left = left; left_new = left }) (Err e) (record { written = written; written_new = w })) (sym same)
    (subst (λ (stops : Stopped). HasServed (record { left = left; left_new = left }) (Err stops) (record { written = written; written_new = written })) (sym is)
    (ends_whole (record { left = left; left_new = left }) (record { written = written; written_new = written }) no_session none
    (none_served left written none [] refl refl refl) no_line_going (Err stopped.NoMemory) tt))

-- or for which the sink had no room
pub none_fails : (left written after : Option (List ℕ)) (r : Result Unit Stopped) → after ≡ written → IsErrAnd r (λ e. e ≡ stopped.NoMemory) →
    HasServed (record { left = left; left_new = left }) r (record { written = written; written_new = after })
none_fails left written after (Ok done) same fails = absurd fails
none_fails left written after (Err e) same fails = none_ends left written after e same fails
