-- Private contracts alone cite this file.
-- One turn of a session: a line is answered, or the answers that wait are written and something is read.
use Rattle.std.specs.Prelude.{◌≡◌, ◌⊎◌, ◌≤◌, List, ℕ, Bool, true, false, length, not, [], ◌++◌, Result, Ok, Err, IfSome, Vec, vec_len, vec_capacity}
use Rattle.tr_io.specs.Streams.{Fell, Grew, GrewByPrefix}
use Rattle.tr_session.specs.declared.errors.Stopped.{Stopped}
use Rattle.tr_session.specs.declared.errors.Stopped.TheVariants as stopped
use Rattle.tr_session.specs.Answers.{Answer, IsNextSession, answer_bytes, ends}
use Rattle.tr_session.specs.Arrivals.{ArrivalsView, HasLine, IsWithoutLine}
use Rattle.tr_session.specs.Calls.{SinkBytes, SourceBytes}
use Rattle.tr_session.specs.Sessions.{SessionView}

-- a session, the bytes that have arrived for it, and the answers that wait to be written
pub record Serving : Type 0 where
  pub session : SessionView
  pub arrivals : ArrivalsView
  pub waiting : List ℕ

-- ---- bytes

-- the room for answers that wait
abbrev pub waiting_room : ℕ
waiting_room = 65536

-- there is room for answers that wait, and the sink has room for as many bytes
pub record HasRoomForAnswers {A : Type 0} (waiting : Vec ℕ A) (room : ℕ) : Type 0 where
  pub few : vec_len waiting ≤ waiting_room
  pub here : waiting_room ≤ vec_capacity waiting
  pub there : waiting_room ≤ room

-- these bytes were written; or some of the first of them, if the sink had a fault; or none
abbrev pub Writes : List ℕ → Result Unit Stopped → SinkBytes → Type 0
Writes bytes (Ok done) to = Grew to.written to.written_new bytes
Writes bytes (Err stopped.Unwritten) to = GrewByPrefix to.written to.written_new bytes
Writes bytes (Err stopped.NoMemory) to = to.written_new ≡ to.written
Writes bytes (Err stopped.Unread) to = ⊥

-- these bytes were written, also if memory ran out; or some of the first of them, if the sink had a fault
abbrev pub Flushes : List ℕ → Result Unit Stopped → SinkBytes → Type 0
Flushes bytes (Err stopped.Unwritten) to = GrewByPrefix to.written to.written_new bytes
Flushes bytes (Err stopped.Unread) to = ⊥
Flushes bytes result to = Grew to.written to.written_new bytes

-- bytes waited, and an answer came: it waits with them, or all were written
abbrev pub AddsOrWrites : List ℕ → List ℕ → SinkBytes → List ℕ → Type 0
AddsOrWrites was answer to is =
    ((is ≡ was ++ answer) × (to.written_new ≡ to.written)) ⊎ ((is ≡ []) × Grew to.written to.written_new (was ++ answer))

-- the same; if the sink had a fault, some of the first of the bytes were written, and for want of memory those that waited
abbrev pub AddsAnswer : List ℕ → List ℕ → Result Unit Stopped → SinkBytes → List ℕ → Type 0
AddsAnswer was answer (Ok done) to is = AddsOrWrites was answer to is
AddsAnswer was answer (Err stopped.Unwritten) to is = GrewByPrefix to.written to.written_new (was ++ answer)
AddsAnswer was answer (Err stopped.NoMemory) to is = Grew to.written to.written_new was
AddsAnswer was answer (Err stopped.Unread) to is = ⊥

-- ---- a line

-- a line was answered, and of the answers that waited and this one some of the first bytes were written
pub record IsAnsweredInPart (s : SessionView) (line was : List ℕ) (to : SinkBytes) : Type 0 where
  pub answer : Answer
  pub last : SessionView
  pub answered : IsNextSession s line answer last
  pub wrote : GrewByPrefix to.written to.written_new (was ++ answer_bytes answer)

-- a whole line was answered, and its answer waits or was written; or the sink had a fault; or memory ran out, and what waited was written
abbrev pub AnswersLine : SessionView → List ℕ → List ℕ → Result Bool Stopped → SinkBytes → SessionView → List ℕ → Type 0
AnswersLine s line was (Ok goes) to t is =
    (answer : Answer) × IsNextSession s line answer t × AddsOrWrites was (answer_bytes answer) to is × (goes ≡ not (ends line))
AnswersLine s line was (Err stopped.Unwritten) to t is = IsAnsweredInPart s line was to ⊎ GrewByPrefix to.written to.written_new was
AnswersLine s line was (Err stopped.NoMemory) to t is = Grew to.written to.written_new was
AnswersLine s line was (Err stopped.Unread) to t is = ⊥

-- ---- a turn

-- a line became whole and was answered; the session goes on, unless the line ends it
pub record AnswersOne (a : Serving) (goes : Bool) (to : SinkBytes) (b : Serving) : Type 0 where
  pub whole : ArrivalsView
  pub line : HasLine a.arrivals whole
  pub answer : Answer
  pub answered : IsNextSession a.session whole.begun answer b.session
  pub adds : AddsOrWrites a.waiting (answer_bytes answer) to b.waiting
  pub goes_on : goes ≡ not (ends whole.begun)
  pub rest : b.arrivals ≡ record whole { begun = [] }

-- no line was whole, the answers that waited were written, and these bytes came; if none came, the source has no more
pub record ReadsOnce (a : Serving) (from : SourceBytes) (goes : Bool) (to : SinkBytes) (b : Serving) : Type 0 where
  pub looked : ArrivalsView
  pub unbroken : IsWithoutLine a.arrivals looked
  pub wrote : Grew to.written to.written_new a.waiting
  pub none : b.waiting ≡ []
  pub came : Fell from.left from.left_new b.arrivals.rest
  pub begun : b.arrivals.begun ≡ looked.begun
  pub session : b.session ≡ a.session
  pub more : goes ≡ true → 1 ≤ length b.arrivals.rest
  pub over : goes ≡ false → (b.arrivals.rest ≡ []) × IfSome from.left_new (λ rest. rest ≡ [])

-- a line became whole and was answered in part
pub record AnswersInPart (a : Serving) (to : SinkBytes) : Type 0 where
  pub whole : ArrivalsView
  pub line : HasLine a.arrivals whole
  pub part : IsAnsweredInPart a.session whole.begun a.waiting to

-- no line was whole, and nothing could be read
pub record ReadsNothing (a : ArrivalsView) : Type 0 where
  pub looked : ArrivalsView
  pub unbroken : IsWithoutLine a looked

-- one turn: a line is answered and nothing is read, or what waits is written and then something is read
abbrev pub TakesOneTurn : Serving → SourceBytes → Result Bool Stopped → SinkBytes → Serving → Type 0
TakesOneTurn a from (Ok goes) to b = (AnswersOne a goes to b × (from.left_new ≡ from.left)) ⊎ ReadsOnce a from goes to b
TakesOneTurn a from (Err stopped.Unread) to b = ReadsNothing a.arrivals × Grew to.written to.written_new a.waiting
    × (from.left_new ≡ from.left)
TakesOneTurn a from (Err stopped.Unwritten) to b =
    (AnswersInPart a to ⊎ GrewByPrefix to.written to.written_new a.waiting) × (from.left_new ≡ from.left)
TakesOneTurn a from (Err stopped.NoMemory) to b = Grew to.written to.written_new a.waiting × (from.left_new ≡ from.left)
