-- Answers that are written, at once or with those that wait.
use Rattle.std.proofs.Common.{◌≡◌, inl, inr, ℕ, ◌+◌, Bool, List, [], ◌++◌, Ok, Err, length, take, refl, sym, subst}
use Rattle.std.specs.Prelude.{◌≢◌, ◌⊎◌, OnOk, Option, Result, not}
use Rattle.std.proofs.Math.Seq.{take-append-add}
use Rattle.tr_io.specs.Streams.{Grew, GrewByPrefix}
use Rattle.tr_output.proofs.SendingLemmas.{grew_on, prefix_later, prefix_more}
use Rattle.tr_session.specs.declared.errors.Stopped.{Stopped}
use Rattle.tr_session.specs.declared.errors.Stopped.TheVariants as stopped
use Rattle.tr_session.specs.Answers.{Answer, IsNextSession, answer_bytes, ends}
use Rattle.tr_session.specs.Arrivals.{ArrivalsView, HasLine}
use Rattle.tr_session.specs.Calls.{SinkBytes, SourceBytes}
use Rattle.tr_session.specs.Sessions.{SessionView}
use Rattle.tr_session.specs.Turns.{AddsAnswer, AnswersInPart, AnswersLine, Flushes, IsAnsweredInPart, Serving, TakesOneTurn, Writes}

-- a change of a sink's bytes
abbrev pub change : Option (List ℕ) → Option (List ℕ) → SinkBytes
change before after = record { written = before; written_new = after }

-- the first piece wasn't written whole
pub writes_first : (x y z : Option (List ℕ)) (head body : List ℕ) (e : Stopped) → y ≡ x → (e ≡ stopped.NoMemory → ⊥) →
    Writes head (Err e) (change y z) → Writes (head ++ body) (Err e) (change x z)
writes_first x y z head body stopped.Unread same memory writes = writes
writes_first x y z head body stopped.Unwritten same memory writes =
    subst (λ (before : Option (List ℕ)). GrewByPrefix before z (head ++ body)) same (prefix_more y z head body writes)
writes_first x y z head body stopped.NoMemory same memory writes = absurd (memory refl)

-- the first piece was written, and then the second, or a part of it
pub writes_both : (x y w z : Option (List ℕ)) (head body : List ℕ) (result : Result Unit Stopped) → y ≡ x → Grew y w head →
    result ≢ Err stopped.NoMemory → Writes body result (change w z) → Writes (head ++ body) result (change x z)
writes_both x y w z head body (Ok done) same first memory writes =
    subst (λ (before : Option (List ℕ)). Grew before z (head ++ body)) same (grew_on y w z head body first writes)
writes_both x y w z head body (Err stopped.Unread) same first memory writes = writes
writes_both x y w z head body (Err stopped.Unwritten) same first memory writes =
    subst (λ (before : Option (List ℕ)). GrewByPrefix before z (head ++ body)) same (
      length head + writes.0,
      subst (λ (t : List ℕ). Grew y z t) (sym (take-append-add head body writes.0))
          (grew_on y w z head (take writes.0 body) first writes.1),
    )
writes_both x y w z head body (Err stopped.NoMemory) same first memory writes = absurd (memory refl)

-- ---- an answer that is added

-- for want of room those that wait were written, and then this one
pub adds_after : (x y z : Option (List ℕ)) (was answer is : List ℕ) (result : Result Unit Stopped) → Grew x y was → is ≡ [] →
    Writes answer result (change y z) → AddsAnswer was answer result (change x z) is
adds_after x y z was answer is (Ok done) first none writes = inr (none, grew_on x y z was answer first writes)
adds_after x y z was answer is (Err stopped.Unread) first none writes = writes
adds_after x y z was answer is (Err stopped.Unwritten) first none writes = prefix_later x y z was answer first writes
adds_after x y z was answer is (Err stopped.NoMemory) first none writes = subst (λ (after : Option (List ℕ)). Grew x after was) (sym writes) first

-- those that wait weren't all written
pub adds_none : (was answer is : List ℕ) (e : Stopped) (to : SinkBytes) → (e ≡ stopped.NoMemory → ⊥) → Writes was (Err e) to →
    AddsAnswer was answer (Err e) to is
adds_none was answer is stopped.Unread to other writes = writes
adds_none was answer is stopped.Unwritten to other writes = prefix_more to.written to.written_new was answer writes
adds_none was answer is stopped.NoMemory to other writes = absurd (other refl)

-- the same, with no answer to come
pub flushes_none : (was : List ℕ) (e : Stopped) (to : SinkBytes) → (e ≡ stopped.NoMemory → ⊥) → Writes was (Err e) to → Flushes was (Err e) to
flushes_none was stopped.Unread to other writes = writes
flushes_none was stopped.Unwritten to other writes = writes
flushes_none was stopped.NoMemory to other writes = absurd (other refl)

-- ---- a line that was answered

module _ (s t : SessionView) (line was reply is : List ℕ) (to : SinkBytes) where
  module _ (answer : Answer) (told : reply ≡ answer_bytes answer) (answered : IsNextSession s line answer t) where
    pub answers_ok : (goes : Bool) → AddsAnswer was reply (Ok tt) to is → goes ≡ not (ends line) → AnswersLine s line was (Ok goes) to t is
    answers_ok goes adds on =
        (answer, answered, subst (λ (bytes : List ℕ). AddsAnswer was bytes (Ok tt) to is) told adds, on)

    pub answers_err : (e : Stopped) → AddsAnswer was reply (Err e) to is → AnswersLine s line was (Err e) to t is
    answers_err stopped.Unread adds = adds
    answers_err stopped.Unwritten adds = inl (record {
      answer = answer;
      last = t;
      answered = answered;
      wrote = subst (λ (bytes : List ℕ). GrewByPrefix to.written to.written_new (was ++ bytes)) told adds;
    })
    answers_err stopped.NoMemory adds = adds

  -- the session is lost, and those that wait weren't all written either
  pub answers_none : (e : Stopped) → (e ≡ stopped.NoMemory → ⊥) → Writes was (Err e) to → AnswersLine s line was (Err e) to t is
  answers_none stopped.Unread other writes = writes
  answers_none stopped.Unwritten other writes = inr writes
  answers_none stopped.NoMemory other writes = absurd (other refl)

-- ---- a turn

-- a whole line was answered, and nothing was read
pub turns_line : (a : Serving) (w : ArrivalsView) (r : Result Bool Stopped) (from : SourceBytes) (to : SinkBytes) (t : SessionView) (b : ArrivalsView)
    (is : List ℕ) → HasLine a.arrivals w → from.left_new ≡ from.left → AnswersLine a.session w.begun a.waiting r to t is →
    OnOk r (b ≡ record w { begun = [] }) → TakesOneTurn a from r to (record { session = t; arrivals = b; waiting = is })
turns_line a w (Ok goes) from to t b is line same answers rest = inl (
  record { whole = w; line = line; answer = answers.0; answered = answers.1; adds = answers.2; goes_on = answers.3; rest = rest },
  same,
)
turns_line a w (Err stopped.Unread) from to t b is line same answers rest = absurd answers
turns_line a w (Err stopped.Unwritten) from to t b is line same answers rest = (by_part answers, same)
  where
    by_part : IsAnsweredInPart a.session w.begun a.waiting to ⊎ GrewByPrefix to.written to.written_new a.waiting →
        AnswersInPart a to ⊎ GrewByPrefix to.written to.written_new a.waiting
    by_part (inl part) = inl (record { whole = w; line = line; part = part })
    by_part (inr grew) = inr grew
turns_line a w (Err stopped.NoMemory) from to t b is line same answers rest = (answers, same)

-- what waited was flushed, and nothing was read
pub turns_unwritten : (a b : Serving) (e : Stopped) (from : SourceBytes) (to : SinkBytes) → from.left_new ≡ from.left → Flushes a.waiting (Err e) to →
    TakesOneTurn a from (Err e) to b
turns_unwritten a b stopped.Unread from to same flushes = absurd flushes
turns_unwritten a b stopped.Unwritten from to same flushes = (inr flushes, same)
turns_unwritten a b stopped.NoMemory from to same flushes = (flushes, same)
