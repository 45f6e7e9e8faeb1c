-- Why a line has no answer of its own, and the exit status of a session that stops.
use Rattle.std.specs.Prelude.{ℕ}
use Rattle.tr_grammar.specs.declared.LineRefused.{LineRefused}
use Rattle.tr_grammar.specs.declared.LineRefused.TheVariants as refused
use Rattle.tr_session.specs.declared.errors.Unanswered.{Unanswered}
use Rattle.tr_session.specs.declared.errors.Unanswered.TheVariants as unanswered
use Rattle.tr_session.specs.declared.errors.Stopped.{Stopped}
use Rattle.tr_session.specs.declared.errors.Stopped.TheVariants as stopped

-- a refusal of the reader
abbrev pub unanswered_of : LineRefused → Unanswered
unanswered_of refused.NoMemory = unanswered.NoMemory
unanswered_of (refused.Fault code) = unanswered.Fault code

-- the exit status
abbrev pub status_of_stopped : Stopped → ℕ
status_of_stopped stopped.Unread = 4
status_of_stopped stopped.Unwritten = 5
status_of_stopped stopped.NoMemory = 6
