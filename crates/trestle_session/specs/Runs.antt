-- The end of the program.
use Rattle.std.specs.Prelude.{◌≡◌, ℕ, Result, Ok, Err}
use Rattle.tr_session.specs.declared.errors.Stopped.{Stopped}
use Rattle.tr_session.specs.Calls.{HasServed, SinkBytes, SourceBytes}
use Rattle.tr_session.specs.Refusals.{status_of_stopped}

-- the status after a session that ended in this way
abbrev pub status_of_end : Result Unit Stopped → ℕ
status_of_end (Ok done) = 0
status_of_end (Err stopped) = status_of_stopped stopped

-- a session was served, and the status is that of its end
abbrev pub IsSessionEnd : SourceBytes → ℕ → SinkBytes → Type 0
IsSessionEnd from status to = (end : Result Unit Stopped) × (status ≡ status_of_end end) × HasServed from end to
