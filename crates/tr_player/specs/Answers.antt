-- The answers of a call, and their causes.
use Rattle.std.specs.Prelude.{◌≡◌, ◌≢◌, ◌⊎◌, ⊤, ℕ, ◌+◌, List, ◌++◌, take, Option, Some, None, IsSomeAnd, codes, decimal}
use Rattle.std.specs.List.{filter}
use Rattle.tr_io.specs.declared.streams.Source.{Ghosts as SourceGhosts}
use Rattle.tr_io.specs.declared.streams.Sink.{Ghosts as SinkGhosts}
use Rattle.tr_io.specs.Faults.{HasFault}
use Rattle.tr_io.specs.Streams.{Grew, GrewByPrefix, OfFirst, IsReadUpTo}
use Rattle.tr_widget.specs.declared.Widget.{Widget}
use Rattle.tr_widget.specs.declared.WidgetCmd.{WidgetCmd}
use Rattle.tr_grammar.specs.Scripts.{Refusal, Script, most_script_bytes, refusal_of, script_of}
use Rattle.tr_stage.specs.Stages.{StageView}
use Rattle.tr_server.specs.Differing.{DiffersView}
use Rattle.tr_mirror.specs.declared.faults.MirrorFault.{MirrorFault}
use Rattle.tr_mirror.specs.Readings.{fault_number, first_fault, longest_stream}
use Rattle.tr_show.specs.Shows.{shown_text}
use Rattle.tr_serial.specs.Outputs.{out_text, check_text, gen_text, drawn, serial_journal}
use Rattle.tr_serial.specs.Reports.{is_dump, reports_of, report_texts}
use Rattle.tr_serial.specs.Screens.{mirror_bytes}
use Rattle.tr_threads.specs.declared.plays.Threaded.{Threaded}
use Rattle.tr_threads.specs.Threads.{IsThreaded}
use Rattle.tr_arguments.specs.declared.Command.{Command}
use Rattle.tr_arguments.specs.declared.Command.TheVariants as commands
use Rattle.tr_arguments.specs.Commands.{command_of}
use Rattle.tr_player.specs.declared.calls.Outcome.{Outcome}
use Rattle.tr_player.specs.declared.statuses.Status.{Status}
use Rattle.tr_player.specs.declared.statuses.Status.TheVariants.{Done, Usage, Refused, ReadFault, WriteFault, NoMemory}
use Rattle.tr_player.specs.Statuses.{code}
use Rattle.tr_player.specs.Checks.{check_refusal}

-- ---- the command

-- the commands of one thread: all but `play`
abbrev pub of_one_thread : Option Command → Option Command
of_one_thread (Some commands.Play) = None
of_one_thread command = command

-- the command of one thread that the words after the program's name give, if they give one
abbrev pub asked_by : List (List ℕ) → Option Command
asked_by words = of_one_thread (command_of words)

-- the call reads nothing: there is no command, or it is `gen`
abbrev pub ReadsNone : Option Command → Type 0
ReadsNone None = ⊤
ReadsNone (Some (commands.Gen number)) = ⊤
ReadsNone (Some command) = ⊥

-- ---- the bytes that are read

-- the most bytes that are read: one more than a stream or a script may have, which shows that it is too long
abbrev pub most_read : Command → ℕ
most_read commands.Show = longest_stream + 1
most_read command = most_script_bytes + 1

-- a fact of the bytes that are read; if the source doesn't tell its remaining bytes, of some bytes
abbrev pub OfBytesRead : Command → Option (List ℕ) → (List ℕ → Type 0) → Type 0
OfBytesRead command left P = OfFirst (most_read command) left P

-- the source was read to its end, or to the most bytes that are read
abbrev pub IsReadThrough : Command → Option (List ℕ) → Option (List ℕ) → Type 0
IsReadThrough command before after = IsReadUpTo (most_read command) before after

-- the first refusal if there is one, else the second
abbrev pub or_else : Option Refusal → Option Refusal → Option Refusal
or_else (Some r) later = Some r
or_else None later = later

-- the refusal of a text, if it has one: it is no script, or its check is beyond the limits
abbrev pub refusal_for : Command → List ℕ → Option Refusal
refusal_for commands.Check bytes = or_else (refusal_of bytes) (check_refusal (script_of bytes))
refusal_for command bytes = refusal_of bytes

-- the text of a script that one thread plays
abbrev pub text_for : Command → Script → List ℕ
text_for commands.Check s = check_text s
text_for commands.Mirror s = mirror_bytes s
text_for command s = out_text s

-- `mirror` writes a stream. `show` writes the dumps of this stream: they are the dumps among the reports that `serial` writes of the
-- same script, in order.
abbrev pub IsReadBack : Command → Script → Type 0
IsReadBack commands.Mirror s =
    (first_fault (mirror_bytes s) ≡ None)
    × (shown_text (mirror_bytes s) ≡ report_texts (filter is_dump (reports_of s)))
    × (out_text s ≡ report_texts (reports_of s))
IsReadBack command s = ⊤

-- the text that one thread writes of a script; for `mirror` it is a stream that can be read back; `play` has many threads
abbrev pub IsWritten : Command → Script → List ℕ → Type 0
IsWritten commands.Play s text = ⊥
IsWritten command s text = (text ≡ text_for command s) × IsReadBack command s

-- threads played the script, as `play` does
abbrev pub IsByThreads : Command → Script → Threaded → Type 0
IsByThreads commands.Play s end = IsThreaded s end
IsByThreads command s end = ⊥

-- ---- the answer that is due

-- the text for words that are no command
abbrev pub usage_text : List ℕ
usage_text = codes "usage: trestle play|serial|check|mirror|show|gen N\n"

-- the text for a fault of the source
abbrev pub read_fault_text : List ℕ
read_fault_text = codes "read fault\n"

-- the text for refused bytes: the line and its fault
abbrev pub refused_text : Refusal → List ℕ
refused_text r = codes "refused: line " ++ decimal r.line ++ codes " B" ++ decimal r.code ++ codes "\n"

-- the text for bytes that are no stream: the place of their first fault, and its number
abbrev pub faulty_text : MirrorFault → List ℕ
faulty_text f = codes "refused: byte " ++ decimal f.place ++ codes " M" ++ decimal (fault_number f.fault) ++ codes "\n"

-- the answer of a call before it is written. The last three are a script that one thread played, one that threads played, and a
-- stream that was read, each with its text
pub data Due : Type 0 where
  usage : Due
  read_fault : Due
  refused : Refusal → Due
  faulty : MirrorFault → Due
  played : Script → List ℕ → Due
  threaded : Script → Threaded → Due
  shown : List ℕ → Due

-- the status of each answer
abbrev pub status_of : Due → Status
status_of usage = Usage
status_of read_fault = ReadFault
status_of (refused r) = Refused
status_of (faulty f) = Refused
status_of (played s text) = Done
status_of (threaded s end) = Done
status_of (shown text) = Done

-- the text of each answer
abbrev pub due_text : Due → List ℕ
due_text usage = usage_text
due_text read_fault = read_fault_text
due_text (refused r) = refused_text r
due_text (faulty f) = faulty_text f
due_text (played s text) = text
due_text (threaded s end) = end.text
due_text (shown text) = text

-- a source before and after a call: its remaining bytes and its count of faults
pub record SourceChange : Type 0 where
  pub left : Option (List ℕ)
  pub left_new : Option (List ℕ)
  pub faults : ℕ
  pub faults_new : ℕ

-- the change of any source
abbrev pub source_change : {S : Type 0} → SourceGhosts S → S → S → SourceChange
source_change source before after = record {
  left = source.left before;
  left_new = source.left after;
  faults = source.faults before;
  faults_new = source.faults after;
}

-- nothing was read
pub record IsUnread (from : SourceChange) : Type 0 where
  pub left : from.left_new ≡ from.left
  pub faults : from.faults_new ≡ from.faults

-- the answer to a script in a source: a read fault if the source had one, else the refusal of the bytes, or the result of their script
abbrev pub IsDueOfBytes : Command → SourceChange → Due → Type 0
IsDueOfBytes command from read_fault = HasFault from.faults from.faults_new
IsDueOfBytes command from (refused r) =
    IsReadThrough command from.left from.left_new × OfBytesRead command from.left (λ bytes. refusal_for command bytes ≡ Some r)
IsDueOfBytes command from (played s text) =
    IsReadThrough command from.left from.left_new
    × OfBytesRead command from.left (λ bytes. (refusal_for command bytes ≡ None) × (s ≡ script_of bytes))
    × IsWritten command s text
IsDueOfBytes command from (threaded s end) =
    IsReadThrough command from.left from.left_new
    × OfBytesRead command from.left (λ bytes. (refusal_for command bytes ≡ None) × (s ≡ script_of bytes))
    × IsByThreads command s end
IsDueOfBytes command from due = ⊥

-- the answer to a stream in a source: a read fault if the source had one, else the first fault of the bytes, or the dumps of their screens
abbrev pub IsDueOfStream : SourceChange → Due → Type 0
IsDueOfStream from read_fault = HasFault from.faults from.faults_new
IsDueOfStream from (faulty f) =
    IsReadThrough commands.Show from.left from.left_new
    × OfBytesRead commands.Show from.left (λ bytes. first_fault bytes ≡ Some f)
IsDueOfStream from (shown text) =
    IsReadThrough commands.Show from.left from.left_new
    × OfBytesRead commands.Show from.left (λ bytes. (first_fault bytes ≡ None) × (text ≡ shown_text bytes))
IsDueOfStream from due = ⊥

-- an answer is due: the usage without a command, the summary of the script for a number; in both cases nothing is read
abbrev pub IsDue : Option Command → SourceChange → Due → Type 0
IsDue None from due = (due ≡ usage) × IsUnread from
IsDue (Some (commands.Gen number)) from due = (due ≡ played (drawn number) (gen_text number)) × IsUnread from
IsDue (Some commands.Show) from due = IsDueOfStream from due
IsDue (Some command) from due = IsDueOfBytes command from due

-- ---- the delivery of the answer

-- a sink before and after a call: the bytes that it has taken and its count of faults
pub record SinkChange : Type 0 where
  pub written : Option (List ℕ)
  pub written_new : Option (List ℕ)
  pub faults : ℕ
  pub faults_new : ℕ

-- the change of any sink
abbrev pub sink_change : {K : Type 0} → SinkGhosts K → K → K → SinkChange
sink_change sink before after = record {
  written = sink.written before;
  written_new = sink.written after;
  faults = sink.faults before;
  faults_new = sink.faults after;
}

-- a stage on which one thread has played a script
pub record HasPlayed (s : Script) (stage : StageView Widget WidgetCmd) : Type 0 where
  pub opening : stage.opening ≡ s.opening
  pub journal : stage.journal ≡ serial_journal s

-- the stage in an outcome: that of the script that was played, else none
abbrev pub IsStageOf : Due → Option (StageView Widget WidgetCmd) → Type 0
IsStageOf (played s text) stage = IsSomeAnd stage (λ stage. HasPlayed s stage)
IsStageOf (threaded s end) stage = stage ≡ Some end.stage
IsStageOf due stage = stage ≡ None

-- the difference in an outcome: one that a session of threads found
abbrev pub IsDifferenceOf : Due → Option (DiffersView Widget WidgetCmd) → Type 0
IsDifferenceOf (threaded s end) differs = differs ≡ end.differs
IsDifferenceOf due differs = differs ≡ None

-- the text was delivered, by the status: the sink got all of it, or a prefix and then a write fault, or nothing for want of memory;
-- only the first outcome has a stage or a difference
abbrev pub IsDelivered : Due → Outcome → SinkChange → Type 0
IsDelivered due out to =
    ((out.status ≡ code (status_of due)) × IsStageOf due out.stage × Grew to.written to.written_new (due_text due)
    × IsDifferenceOf due out.differs)
    ⊎ (((out.status ≡ code WriteFault) × (out.stage ≡ None) × HasFault to.faults to.faults_new
    × GrewByPrefix to.written to.written_new (due_text due) × (out.differs ≡ None))
    ⊎ ((out.status ≡ code NoMemory) × (out.stage ≡ None) × (to.written_new ≡ to.written) × (out.differs ≡ None)))

-- all that a call does: it found no answer for want of memory, or an answer was due and was delivered
abbrev pub IsAnswered : Option Command → SourceChange → Outcome → SinkChange → Type 0
IsAnswered asked from out to =
    ((out.status ≡ code NoMemory) × (out.stage ≡ None) × (to.written_new ≡ to.written) × (ReadsNone asked → IsUnread from)
    × (out.differs ≡ None))
    ⊎ ((due : Due) × IsDue asked from due × IsDelivered due out to)

-- ---- words of the clauses

-- a fact of every answer but a write fault and want of memory
abbrev pub Yields : ℕ → Type 0 → Type 0
Yields status P = status ≢ code WriteFault → status ≢ code NoMemory → P

-- if something is read, a fact of the command
abbrev pub OfReader : Option Command → (Command → Type 0) → Type 0
OfReader None P = ⊤
OfReader (Some (commands.Gen number)) P = ⊤
OfReader (Some command) P = P command

-- if a script is read, a fact of the command and of the bytes that are read
abbrev pub OfScriptRead : Option Command → Option (List ℕ) → (Command → List ℕ → Type 0) → Type 0
OfScriptRead None left P = ⊤
OfScriptRead (Some (commands.Gen number)) left P = ⊤
OfScriptRead (Some commands.Show) left P = ⊤
OfScriptRead (Some command) left P = OfBytesRead command left (λ bytes. P command bytes)

-- if one thread plays a script that is read, a fact of the command and of the bytes that are read
abbrev pub OfOneThread : Option Command → Option (List ℕ) → (Command → List ℕ → Type 0) → Type 0
OfOneThread (Some commands.Play) left P = ⊤
OfOneThread asked left P = OfScriptRead asked left P

-- if threads play a script that is read, a fact of the bytes
abbrev pub OfThreads : Option Command → Option (List ℕ) → (List ℕ → Type 0) → Type 0
OfThreads (Some commands.Play) left P = OfBytesRead commands.Play left P
OfThreads asked left P = ⊤

-- if a stream is read, a fact of the bytes that are read
abbrev pub OfStreamRead : Option Command → Option (List ℕ) → (List ℕ → Type 0) → Type 0
OfStreamRead (Some commands.Show) left P = OfBytesRead commands.Show left P
OfStreamRead asked left P = ⊤

-- if the script of a number is summed up, a fact of the number
abbrev pub OfNumber : Option Command → (ℕ → Type 0) → Type 0
OfNumber (Some (commands.Gen number)) P = P number
OfNumber command P = ⊤

-- there is a command, and its script or stream, which the source tells, isn't refused
abbrev pub IsAllowed : Option Command → Option (List ℕ) → Type 0
IsAllowed None left = ⊥
IsAllowed (Some (commands.Gen number)) left = ⊤
IsAllowed (Some commands.Show) left =
    IsSomeAnd left (λ bytes. first_fault (take (most_read commands.Show) bytes) ≡ None)
IsAllowed (Some command) left =
    IsSomeAnd left (λ bytes. refusal_for command (take (most_read command) bytes) ≡ None)
