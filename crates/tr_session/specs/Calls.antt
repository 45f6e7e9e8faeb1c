-- The effect of a session on its source and its sink.
use Rattle.std.specs.Prelude.{◌≡◌, ◌≢◌, ◌⊎◌, ⊤, ℕ, ◌+◌, ◌-◌, ◌^◌, ◌≤◌, true, false, List, [], length, take, All, slice_get, Option, Result, Ok, Err, IfSome, IsSomeAnd}
use Rattle.std.specs.List.{flat_map}
use Rattle.tr_io.specs.declared.streams.Source.{Ghosts as SourceGhosts}
use Rattle.tr_io.specs.declared.streams.Sink.{Ghosts as SinkGhosts}
use Rattle.tr_io.specs.Streams.{Fell, Grew, GrewByPrefix}
use Rattle.tr_session.specs.declared.errors.Stopped.{Stopped}
use Rattle.tr_session.specs.declared.errors.Stopped.TheVariants.{Unread, Unwritten}
use Rattle.tr_session.specs.Answers.{Answer, AreAnswered, answer_bytes, ends}
use Rattle.tr_session.specs.Arrivals.{whole_lines}
use Rattle.tr_session.specs.Sessions.{SessionView, no_session}

-- the bytes that a source has left, before and after a call
pub record SourceBytes : Type 0 where
  pub left : Option (List ℕ)
  pub left_new : Option (List ℕ)

-- the change by a call, for any source
abbrev pub change_of_source : {S : Type 0} → SourceGhosts S → S → S → SourceBytes
change_of_source source before after = record { left = source.left before; left_new = source.left after }

-- the bytes that a sink has taken, before and after a call
pub record SinkBytes : Type 0 where
  pub written : Option (List ℕ)
  pub written_new : Option (List ℕ)

-- the change by a call, for any sink
abbrev pub change_of_sink : {K : Type 0} → SinkGhosts K → K → K → SinkBytes
change_of_sink sink before after = record { written = sink.written before; written_new = sink.written after }

-- the last of these lines ends the session
abbrev pub HasQuit : List (List ℕ) → Type 0
HasQuit lines = IsSomeAnd (slice_get lines (length lines - 1)) (λ line. ends line ≡ true)

-- all whole lines were answered, and the source has nothing left, if it tells that
abbrev pub IsOver : Option (List ℕ) → List ℕ → ℕ → Type 0
IsOver left bytes count = (count ≡ length (whole_lines bytes)) × IfSome left (λ rest. rest ≡ [])

-- the number of lines that were answered: all of them, unless the session ended before, or took more turns than any process lasts
abbrev pub AreAll : Result Unit Stopped → SourceBytes → List ℕ → ℕ → Type 0
AreAll (Ok done) from bytes count =
    HasQuit (take count (whole_lines bytes)) ⊎ (IsOver from.left_new bytes count ⊎ (2 ^ 64 - 1 ≤ length bytes + count))
AreAll (Err Unread) from bytes count = count ≡ length (whole_lines bytes)
AreAll (Err stopped) from bytes count = ⊤

-- these bytes came, the first of their whole lines were answered, none of them after one that ends the session, and the answers were
-- written; if the sink had a fault, some of the first of their bytes
pub record HasServed (from : SourceBytes) (result : Result Unit Stopped) (to : SinkBytes) : Type 0 where
  pub bytes : List ℕ
  pub came : Fell from.left from.left_new bytes
  pub count : ℕ
  pub answers : List Answer
  pub last : SessionView
  pub answered : AreAnswered no_session (take count (whole_lines bytes)) answers last
  pub before : All (λ line. ends line ≡ false) (take (count - 1) (whole_lines bytes))
  pub all : AreAll result from bytes count
  pub begun : GrewByPrefix to.written to.written_new (flat_map answer_bytes answers)
  pub written : result ≢ Err Unwritten → Grew to.written to.written_new (flat_map answer_bytes answers)
