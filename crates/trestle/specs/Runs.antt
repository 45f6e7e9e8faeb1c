-- The end of the program.
use Rattle.std.specs.Prelude.{◌≡◌, ℕ, Option}
use Rattle.tr_arguments.specs.declared.Command.{Command}
use Rattle.tr_player.specs.declared.Outcome.{Outcome}
use Rattle.tr_io.specs.Streams.{Grew}
use Rattle.tr_grammar.specs.Scripts.{Script}
use Rattle.tr_threads.specs.declared.plays.Threaded.{Threaded}
use Rattle.tr_threads.specs.Threads.{IsThreaded}
use Rattle.tr_player.specs.Answers.{IsAnswered, SinkChange, SourceChange}

-- the program's end is that of a call with this status; the stage of the call ends with the process
abbrev pub IsEnd : Option Command → SourceChange → ℕ → SinkChange → Type 0
IsEnd asked from status to = (out : Outcome) × (out.status ≡ status) × IsAnswered asked from out to

-- a script was played, by threads if nothing differed, and its text was written; the stage ends with the process
abbrev pub IsPrinted : Script → SinkChange → Type 0
IsPrinted s to = (end : Threaded) × IsThreaded s end × Grew to.written to.written_new end.text
