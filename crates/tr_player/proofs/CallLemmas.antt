-- What follows of an answered call, clause by clause.
use Rattle.std.proofs.Common.{◌≡◌, ◌≢◌, ◌⊎◌, ◌↔◌, ℕ, ◌+◌, ◌<◌, Bool, true, false, nat_lt, List, [], length, take, drop, refl, sym, ◌∙◌, ap, subst, arith, inl, inr}
use Rattle.std.specs.Prelude.{◌++◌, Option, Some, None, Result, Ok, Err, IfOk, IfSome, IsNone, IsSome, IsSomeAnd, OnErr, if◌then◌else◌}
use Rattle.std.specs.Option.{option_map}
use Rattle.std.proofs.lemmas.Bool.Decides.{nat_tests}
use Rattle.std.proofs.lemmas.Grind.{common_steps}
use Rattle.std.proofs.lemmas.Option.{none-some}
use Rattle.tr_io.specs.Faults.{HasFault}
use Rattle.tr_io.specs.Streams.{Grew, GrewByPrefix}
use Rattle.tr_grammar.specs.declared.Code.TheVariants.{B7}
use Rattle.tr_grammar.specs.States.{nothing_yet}
use Rattle.tr_grammar.specs.Texts.{lines_of}
use Rattle.tr_grammar.specs.Scripts.{Refusal, Script, most_script_bytes, refusal_of, refused_at, first_bad_line as first_refusal, script_of}
use Rattle.tr_mirror.specs.declared.faults.MirrorFault.{MirrorFault}
use Rattle.tr_mirror.specs.declared.faults.StreamFault.TheVariants.{TooMany}
use Rattle.tr_mirror.specs.Records.{fault_in}
use Rattle.tr_mirror.specs.Readings.{fault_at_end, first_fault, longest_stream, reading_of}
use Rattle.tr_show.specs.Shows.{shown_text}
use Rattle.tr_serial.specs.Outputs.{gen_text, drawn, out_text, widgets}
use Rattle.tr_parts.specs.Plays.{HasInterleaved}
use Rattle.tr_server.specs.Differing.{DiffersView}
use Rattle.tr_stage.specs.Stages.{StageView}
use Rattle.tr_widget.specs.declared.Widget.{Widget}
use Rattle.tr_widget.specs.declared.WidgetCmd.{WidgetCmd}
use Rattle.tr_threads.specs.declared.plays.Threaded.{Threaded}
use Rattle.tr_threads.specs.Threads.{HasDifferedIn, IsPlayed, IsThreaded, again_text, threads_text}
use Rattle.tr_arguments.specs.declared.Command.{Command}
use Rattle.tr_arguments.specs.declared.Command.TheVariants as commands
use Rattle.tr_player.specs.declared.calls.Outcome.{Outcome}
use Rattle.tr_player.specs.declared.responses.Response.{Response}
use Rattle.tr_player.specs.declared.statuses.Status.{Status}
use Rattle.tr_player.specs.declared.statuses.Status.TheVariants.{NoMemory, WriteFault}
use Rattle.tr_player.specs.Statuses.{code}
use Rattle.tr_player.specs.Checks.{check_refusal}
use Rattle.tr_player.specs.Answers.{most_read, OfBytesRead, IsReadThrough, or_else, refusal_for, text_for, usage_text, read_fault_text, refused_text, faulty_text, IsReadBack, IsWritten, IsByThreads, Due, usage, read_fault, refused, faulty, played, threaded, shown, status_of, due_text, SourceChange, IsDueOfBytes, IsDueOfStream, IsDue, SinkChange, HasPlayed, IsStageOf, IsDifferenceOf, IsDelivered, IsAnswered, IsUnread, ReadsNone, Yields, OfReader, OfScriptRead, OfOneThread, OfThreads, OfStreamRead, OfNumber, IsAllowed, of_one_thread}
use Rattle.tr_player.specs.Responses.{IsResponse}

-- ---- the bytes that were read

-- what follows of the bytes that were read
pub of_read : (command : Command) (P Q : List ℕ → Type 0) → ((bytes : List ℕ) → P bytes → Q bytes) → (left : Option (List ℕ)) →
    OfBytesRead command left P → OfBytesRead command left Q
of_read command P Q f None (bytes, p) = (bytes, f bytes p)
of_read command P Q f (Some xs) p = f (take (most_read command) xs) p

none_first : (r later : Option Refusal) → or_else r later ≡ None → r ≡ None
none_first (Some r) later h = h
none_first None later h = refl

not_refused : (command : Command) (bytes : List ℕ) → refusal_for command bytes ≡ None → refusal_of bytes ≡ None
not_refused commands.Check bytes h = none_first (refusal_of bytes) (check_refusal (script_of bytes)) h
not_refused command bytes h = h

none_else : {A : Type 0} (b : Bool) (r : A) (later : Option A) → (if b then Some r else later) ≡ None → b ≡ false
none_else true r later h = absurd (cc)
none_else false r later h = refl

below_more : (most n : ℕ) → nat_lt most n ≡ false → n < most + 1
below_more most n h = grind (arith, nat_tests)

-- a text that isn't refused has fewer bytes than are read at most
short_text : (bytes : List ℕ) → refusal_of bytes ≡ None → length bytes < most_script_bytes + 1
unfolding refusal_of
short_text bytes h =
    below_more most_script_bytes (length bytes)
    (none_else (nat_lt most_script_bytes (length bytes)) (refused_at 0 B7) (first_refusal nothing_yet 1 (lines_of bytes)) h)

not_too_long : (command : Command) (bytes : List ℕ) → refusal_of bytes ≡ None → length bytes < most_read command
not_too_long commands.Show bytes h = omega (arith, short_text bytes h)
not_too_long command bytes h = short_text bytes h

-- and so has a stream
stream_not_too_long : (bytes : List ℕ) → first_fault bytes ≡ None → length bytes < most_read commands.Show
stream_not_too_long bytes h =
    below_more longest_stream (length bytes)
    (none_else (nat_lt longest_stream (length bytes)) (record { place = 0; fault = TooMany }) (fault_at_end (reading_of bytes) (fault_in bytes)) h)

-- where fewer bytes are read than may be, none is left
all_read : (most : ℕ) (xs : List ℕ) → length (take most xs) < most → drop most xs ≡ []
all_read most xs h = grind (arith, common_steps)

-- a source of bytes that aren't too many is read to its end
all_of : (command : Command) (P : List ℕ → Type 0) → ((bytes : List ℕ) → P bytes → length bytes < most_read command) → (left left_new : Option (List ℕ)) →
    OfBytesRead command left P → IsReadThrough command left left_new → IfSome left_new (λ rest. rest ≡ [])
all_of command P few left left_new h e = subst (λ (x : Option (List ℕ)). IfSome x (λ rest. rest ≡ [])) (sym e) (by_cases left h)
  where
    by_cases : (x : Option (List ℕ)) → OfBytesRead command x P → IfSome (option_map (λ bytes. drop (most_read command) bytes) x) (λ rest. rest ≡ [])
    by_cases None h = tt
    by_cases (Some xs) h = all_read (most_read command) xs (few (take (most_read command) xs) h)

-- a source of a script that isn't refused, or of a stream
all_of_script : (command : Command) (left left_new : Option (List ℕ)) → OfBytesRead command left (λ bytes. refusal_for command bytes ≡ None) →
    IsReadThrough command left left_new → IfSome left_new (λ rest. rest ≡ [])
all_of_script command =
    all_of command (λ bytes. refusal_for command bytes ≡ None) (λ bytes h. not_too_long command bytes (not_refused command bytes h))

all_of_stream : (left left_new : Option (List ℕ)) → OfBytesRead commands.Show left (λ bytes. first_fault bytes ≡ None) →
    IsReadThrough commands.Show left left_new → IfSome left_new (λ rest. rest ≡ [])
all_of_stream = all_of commands.Show (λ bytes. first_fault bytes ≡ None) stream_not_too_long

-- the bytes that are read have no fault of this sort
abbrev AreAllowed : {A : Type 0} → (List ℕ → Option A) → Command → Option (List ℕ) → Type 0
AreAllowed fault command left = IsSomeAnd left (λ bytes. fault (take (most_read command) bytes) ≡ None)

-- bytes that are refused aren't bytes that aren't
not_both : {A : Type 0} (fault : List ℕ → Option A) (command : Command) (r : A) (left : Option (List ℕ)) →
    OfBytesRead command left (λ bytes. fault bytes ≡ Some r) → AreAllowed fault command left → ⊥
not_both fault command r None h allowed = allowed
not_both fault command r (Some xs) h allowed = none-some r (sym allowed ∙ h)

some_is : {A : Type 0} (o : Option A) (x : A) → o ≡ Some x → IsSome o
some_is {A = A} o x e = subst (λ (v : Option A). IsSome v) (sym e) refl

none_is_not : {A : Type 0} (o : Option A) → o ≡ None → IsSome o → ⊥
none_is_not {A = A} o e some = let none : IsSome {T = A} None = subst (λ (v : Option A). IsSome v) e some in cc

and_is : {A : Type 0} (o : Option A) (P : A → Type 0) → IsSomeAnd o P → IsSome o
and_is None P h = absurd h
and_is (Some x) P h = refl

-- the bytes aren't refused, and the script is what they say
abbrev IsRead : Command → Script → List ℕ → Type 0
IsRead command s bytes = (refusal_for command bytes ≡ None) × (s ≡ script_of bytes)

-- the bytes are a stream, and the text is what they show
abbrev IsShown : List ℕ → List ℕ → Type 0
IsShown text bytes = (first_fault bytes ≡ None) × (text ≡ shown_text bytes)

-- ---- the response to what was read

-- what one thread wrote
written_text : (command : Command) (s : Script) (text : List ℕ) → IsWritten command s text → (text ≡ text_for command s) × IsReadBack command s
written_text commands.Play s text is = absurd is
written_text command s text is = is

-- threads do what `play` asks for, and nothing else
for_play : (command : Command) (s : Script) (end : Threaded) → IsByThreads command s end → command ≡ commands.Play
for_play commands.Play s end is = refl
for_play command s end is = absurd is

-- ---- the answer

-- a call that delivers its response, if it has one, has answered
pub answers : {E : Type 0} (asked : Option Command) (from : SourceChange) (out : Outcome) (to : SinkChange) (response : Result Response E) →
    IfOk response (λ r. (due : Due) × IsResponse due r × IsDue asked from due) →
    IfOk response (λ r. (due : Due) → IsResponse due r → IsDelivered due out to) →
    OnErr response ((out.status ≡ code NoMemory) × (out.stage ≡ None) × (to.written_new ≡ to.written) × (out.differs ≡ None)) →
    (ReadsNone asked → IsUnread from) → IsAnswered asked from out to
answers asked from out to (Ok r) due delivered none unread = inr (due.0, due.2, delivered due.0 due.1)
answers asked from out to (Err e) due delivered none unread = inl (none.0, none.1, none.2, unread, none.3)

-- the status of an answer is below those of a write fault and of want of memory
below_faults : (due : Due) → code (status_of due) < 5
below_faults usage = omega arith
below_faults read_fault = omega arith
below_faults (refused r) = omega arith
below_faults (faulty f) = omega arith
below_faults (played s text) = omega arith
below_faults (threaded s end) = omega arith
below_faults (shown text) = omega arith

-- ---- the clauses

-- an answer that no write fault and no want of memory took the place of
record IsGiven (asked : Option Command) (from : SourceChange) (out : Outcome) (to : SinkChange) : Type 0 where
  due : Due
  is : IsDue asked from due
  status : out.status ≡ code (status_of due)
  stage : IsStageOf due out.stage
  written : Grew to.written to.written_new (due_text due)
  differs : IsDifferenceOf due out.differs

module _ (asked : Option Command) (from : SourceChange) (out : Outcome) (to : SinkChange) (answered : IsAnswered asked from out to) where
  given : out.status ≢ 5 → out.status ≢ 6 → IsGiven asked from out to
  given n5 n6 = by_cases answered
    where
      delivered : (due : Due) → IsDue asked from due → IsDelivered due out to → IsGiven asked from out to
      delivered due d (inl v) = record { due = due; is = d; status = v.0; stage = v.1; written = v.2; differs = v.3 }
      delivered due d (inr (inl v)) = absurd (n5 v.0)
      delivered due d (inr (inr v)) = absurd (n6 v.0)

      by_cases : IsAnswered asked from out to → IsGiven asked from out to
      by_cases (inl w) = absurd (n6 w.0)
      by_cases (inr w) = delivered w.0 w.1 w.2

  -- the answer with a status below these two
  given_at : (n : ℕ) → out.status ≡ n → n < 5 → IsGiven asked from out to
  given_at n e h = given (λ five. absurd (omega arith)) (λ six. absurd (omega arith))

  pub status_due : (status : Status) × (out.status ≡ code status)
  status_due = by_cases answered
    where
      delivered : (due : Due) → IsDelivered due out to → (status : Status) × (out.status ≡ code status)
      delivered due (inl v) = (status_of due, v.0)
      delivered due (inr (inl v)) = (WriteFault, v.0)
      delivered due (inr (inr v)) = (NoMemory, v.0)

      by_cases : IsAnswered asked from out to → (status : Status) × (out.status ≡ code status)
      by_cases (inl w) = (NoMemory, w.0)
      by_cases (inr w) = delivered w.0 w.2

  -- the status of the summary of a number's script
  summed_up : (number : ℕ) (due : Due) → due ≡ played (drawn number) (gen_text number) → out.status ≡ code (status_of due) → out.status ≡ 0
  summed_up number due is e = e ∙ ap (λ (x : Due). code (status_of x)) is

  -- usage comes exactly where nothing is asked for
  pub usage_due : Yields out.status ((out.status ≡ 2) ↔ (asked ≡ None))
  usage_due n5 n6 = let g = given n5 n6 in by_command asked g.due g.is g.status
    where
      of_bytes : (command : Command) (due : Due) → IsDueOfBytes command from due → out.status ≡ code (status_of due) → out.status ≢ 2
      of_bytes command read_fault d e = λ two. absurd (omega arith)
      of_bytes command (refused r) d e = λ two. absurd (omega arith)
      of_bytes command (played s text) d e = λ two. absurd (omega arith)
      of_bytes command (threaded s end) d e = λ two. absurd (omega arith)
      of_bytes command due d e = absurd d

      of_stream : (due : Due) → IsDueOfStream from due → out.status ≡ code (status_of due) → out.status ≢ 2
      of_stream read_fault d e = λ two. absurd (omega arith)
      of_stream (faulty f) d e = λ two. absurd (omega arith)
      of_stream (shown text) d e = λ two. absurd (omega arith)
      of_stream due d e = absurd d

      by_command : (what : Option Command) (due : Due) → IsDue what from due → out.status ≡ code (status_of due) →
          (out.status ≡ 2) ↔ (what ≡ None)
      by_command None due d e = (λ _. refl, λ _. e ∙ ap (λ (x : Due). code (status_of x)) d.0)
      by_command (Some (commands.Gen number)) due d e =
          let zero : out.status ≡ 0 = summed_up number due d.0 e in (λ two. absurd (omega arith), λ none. cc)
      by_command (Some commands.Show) due d e = (λ two. absurd (of_stream due d e two), λ none. cc)
      by_command (Some command) due d e = (λ two. absurd (of_bytes command due d e two), λ none. cc)

  -- the text of a given answer is that of its status
  pub usage_written : out.status ≡ 2 → Grew to.written to.written_new usage_text
  usage_written e = let g = given_at 2 e (omega arith) in by_due g.due g.status g.written
    where
      by_due : (due : Due) → out.status ≡ code (status_of due) → Grew to.written to.written_new (due_text due) →
          Grew to.written to.written_new usage_text
      by_due usage is grew = grew
      by_due read_fault is grew = absurd (omega arith)
      by_due (refused r) is grew = absurd (omega arith)
      by_due (faulty f) is grew = absurd (omega arith)
      by_due (played s text) is grew = absurd (omega arith)
      by_due (threaded s end) is grew = absurd (omega arith)
      by_due (shown text) is grew = absurd (omega arith)

  pub read_fault_due : out.status ≡ 4 → HasFault from.faults from.faults_new
  read_fault_due e = let g = given_at 4 e (omega arith) in by_command asked g.due g.is g.status
    where
      of_bytes : (command : Command) (due : Due) → IsDueOfBytes command from due → out.status ≡ code (status_of due) → HasFault from.faults from.faults_new
      of_bytes command read_fault d is = d
      of_bytes command (refused r) d is = absurd (omega arith)
      of_bytes command (played s text) d is = absurd (omega arith)
      of_bytes command (threaded s end) d is = absurd (omega arith)
      of_bytes command due d is = absurd d

      of_stream : (due : Due) → IsDueOfStream from due → out.status ≡ code (status_of due) → HasFault from.faults from.faults_new
      of_stream read_fault d is = d
      of_stream (faulty f) d is = absurd (omega arith)
      of_stream (shown text) d is = absurd (omega arith)
      of_stream due d is = absurd d

      by_command : (what : Option Command) (due : Due) → IsDue what from due → out.status ≡ code (status_of due) → HasFault from.faults from.faults_new
      by_command None due d is =
          let two : code (status_of due) ≡ 2 = ap (λ (x : Due). code (status_of x)) d.0 in absurd (omega arith)
      by_command (Some (commands.Gen number)) due d is =
          let zero : out.status ≡ 0 = summed_up number due d.0 is in absurd (omega arith)
      by_command (Some commands.Show) due d is = of_stream due d is
      by_command (Some command) due d is = of_bytes command due d is

  pub read_fault_written : out.status ≡ 4 → Grew to.written to.written_new read_fault_text
  read_fault_written e = let g = given_at 4 e (omega arith) in by_due g.due g.status g.written
    where
      by_due : (due : Due) → out.status ≡ code (status_of due) → Grew to.written to.written_new (due_text due) →
          Grew to.written to.written_new read_fault_text
      by_due usage is grew = absurd (omega arith)
      by_due read_fault is grew = grew
      by_due (refused r) is grew = absurd (omega arith)
      by_due (faulty f) is grew = absurd (omega arith)
      by_due (played s text) is grew = absurd (omega arith)
      by_due (threaded s end) is grew = absurd (omega arith)
      by_due (shown text) is grew = absurd (omega arith)

  -- of the answers to a script that was read, 3 comes exactly where its bytes are refused
  pub refused_exactly : Yields out.status (out.status ≢ 4 →
      OfScriptRead asked from.left (λ command bytes. (out.status ≡ 3) ↔ IsSome (refusal_for command bytes)))
  refused_exactly n5 n6 n4 = let g = given n5 n6 in by_command asked g.due g.is g.status
    where
      of_bytes : (command : Command) (due : Due) → IsDueOfBytes command from due → out.status ≡ code (status_of due) →
          OfBytesRead command from.left (λ bytes. (out.status ≡ 3) ↔ IsSome (refusal_for command bytes))
      of_bytes command read_fault d e = absurd (n4 e)
      of_bytes command (refused r) d e =
          of_read command _ _ (λ bytes (h : refusal_for command bytes ≡ Some r). (λ _. some_is _ r h, λ _. e)) from.left d.1
      of_bytes command (played s text) d e =
          of_read command _ _ (λ bytes (h : IsRead command s bytes). (λ three. absurd (omega arith), λ some. absurd (none_is_not _ h.0 some)))
          from.left d.1
      of_bytes command (threaded s end) d e =
          of_read command _ _ (λ bytes (h : IsRead command s bytes). (λ three. absurd (omega arith), λ some. absurd (none_is_not _ h.0 some)))
          from.left d.1
      of_bytes command due d e = absurd d

      by_command : (what : Option Command) (due : Due) → IsDue what from due → out.status ≡ code (status_of due) →
          OfScriptRead what from.left (λ command bytes. (out.status ≡ 3) ↔ IsSome (refusal_for command bytes))
      by_command None due d e = tt
      by_command (Some (commands.Gen number)) due d e = tt
      by_command (Some commands.Show) due d e = tt
      by_command (Some command) due d e = of_bytes command due d e

  pub refused_written : out.status ≡ 3 → OfScriptRead asked from.left (λ command bytes.
      IsSomeAnd (refusal_for command bytes) (λ r. Grew to.written to.written_new (refused_text r)))
  refused_written e = let g = given_at 3 e (omega arith) in by_command asked g.due g.is g.status g.written
    where
      of_bytes : (command : Command) (due : Due) → IsDueOfBytes command from due → out.status ≡ code (status_of due) →
          Grew to.written to.written_new (due_text due) →
          OfBytesRead command from.left (λ bytes. IsSomeAnd (refusal_for command bytes) (λ r. Grew to.written to.written_new (refused_text r)))
      of_bytes command read_fault d is grew = absurd (omega arith)
      of_bytes command (refused r) d is grew =
          let P : Option Refusal → Type 0 = λ x. IsSomeAnd x (λ r. Grew to.written to.written_new (refused_text r)) in
          of_read command _ _ (λ bytes (h : refusal_for command bytes ≡ Some r). subst P (sym h) grew) from.left d.1
      of_bytes command (played s text) d is grew = absurd (omega arith)
      of_bytes command (threaded s end) d is grew = absurd (omega arith)
      of_bytes command due d is grew = absurd d

      by_command : (what : Option Command) (due : Due) → IsDue what from due → out.status ≡ code (status_of due) →
          Grew to.written to.written_new (due_text due) →
          OfScriptRead what from.left (λ command bytes. IsSomeAnd (refusal_for command bytes) (λ r. Grew to.written to.written_new (refused_text r)))
      by_command None due d is grew = tt
      by_command (Some (commands.Gen number)) due d is grew = tt
      by_command (Some commands.Show) due d is grew = tt
      by_command (Some command) due d is grew = of_bytes command due d is grew

  -- the same of a stream
  pub faulty_exactly : Yields out.status (out.status ≢ 4 →
      OfStreamRead asked from.left (λ bytes. (out.status ≡ 3) ↔ IsSome (first_fault bytes)))
  faulty_exactly n5 n6 n4 = let g = given n5 n6 in by_command asked g.due g.is g.status
    where
      of_stream : (due : Due) → IsDueOfStream from due → out.status ≡ code (status_of due) →
          OfBytesRead commands.Show from.left (λ bytes. (out.status ≡ 3) ↔ IsSome (first_fault bytes))
      of_stream read_fault d e = absurd (n4 e)
      of_stream (faulty f) d e =
          of_read commands.Show _ _ (λ bytes (h : first_fault bytes ≡ Some f). (λ _. some_is _ f h, λ _. e)) from.left d.1
      of_stream (shown text) d e =
          of_read commands.Show _ _ (λ bytes (h : IsShown text bytes). (λ three. absurd (omega arith), λ some. absurd (none_is_not _ h.0 some)))
          from.left d.1
      of_stream due d e = absurd d

      by_command : (what : Option Command) (due : Due) → IsDue what from due → out.status ≡ code (status_of due) →
          OfStreamRead what from.left (λ bytes. (out.status ≡ 3) ↔ IsSome (first_fault bytes))
      by_command (Some commands.Show) due d e = of_stream due d e
      by_command what due d e = tt

  pub faulty_written : out.status ≡ 3 → OfStreamRead asked from.left (λ bytes.
      IsSomeAnd (first_fault bytes) (λ f. Grew to.written to.written_new (faulty_text f)))
  faulty_written e = let g = given_at 3 e (omega arith) in by_command asked g.due g.is g.status g.written
    where
      of_stream : (due : Due) → IsDueOfStream from due → out.status ≡ code (status_of due) → Grew to.written to.written_new (due_text due) →
          OfBytesRead commands.Show from.left (λ bytes. IsSomeAnd (first_fault bytes) (λ f. Grew to.written to.written_new (faulty_text f)))
      of_stream read_fault d is grew = absurd (omega arith)
      of_stream (faulty f) d is grew =
          let P : Option MirrorFault → Type 0 = λ x. IsSomeAnd x (λ f. Grew to.written to.written_new (faulty_text f)) in
          of_read commands.Show _ _ (λ bytes (h : first_fault bytes ≡ Some f). subst P (sym h) grew) from.left d.1
      of_stream (shown text) d is grew = absurd (omega arith)
      of_stream due d is grew = absurd d

      by_command : (what : Option Command) (due : Due) → IsDue what from due → out.status ≡ code (status_of due) →
          Grew to.written to.written_new (due_text due) →
          OfStreamRead what from.left (λ bytes. IsSomeAnd (first_fault bytes) (λ f. Grew to.written to.written_new (faulty_text f)))
      by_command (Some commands.Show) due d is grew = of_stream due d is grew
      by_command what due d is grew = tt

  pub number_allowed : OfNumber asked (λ number. out.status ≢ 3)
  number_allowed = by_command asked (λ due d. d)
    where
      by_command : (what : Option Command) → ((due : Due) → IsDue asked from due → IsDue what from due) → OfNumber what (λ number. out.status ≢ 3)
      by_command (Some (commands.Gen number)) same = λ e.
          let g = given_at 3 e (omega arith) in
          let zero : out.status ≡ 0 = summed_up number g.due (same g.due g.is).0 g.status in absurd (omega arith)
      by_command what same = tt

  -- a script was read through where it was played or refused
  pub read_through : (out.status ≡ 0) ⊎ (out.status ≡ 3) → OfReader asked (λ command. IsReadThrough command from.left from.left_new)
  read_through played_or_refused =
      let low : out.status < 4 = below played_or_refused in
      let g = given_at out.status refl (omega arith) in
      by_command asked g.due g.is (omega (arith, g.status))
    where
      below : (out.status ≡ 0) ⊎ (out.status ≡ 3) → out.status < 4
      below (inl zero) = omega arith
      below (inr three) = omega arith

      of_bytes : (command : Command) (due : Due) → IsDueOfBytes command from due → code (status_of due) < 4 → IsReadThrough command from.left from.left_new
      of_bytes command read_fault d h = absurd (omega arith)
      of_bytes command (refused r) d h = d.0
      of_bytes command (played s text) d h = d.0
      of_bytes command (threaded s end) d h = d.0
      of_bytes command due d h = absurd d

      of_stream : (due : Due) → IsDueOfStream from due → code (status_of due) < 4 → IsReadThrough commands.Show from.left from.left_new
      of_stream read_fault d h = absurd (omega arith)
      of_stream (faulty f) d h = d.0
      of_stream (shown text) d h = d.0
      of_stream due d h = absurd d

      by_command : (what : Option Command) (due : Due) → IsDue what from due → code (status_of due) < 4 →
          OfReader what (λ command. IsReadThrough command from.left from.left_new)
      by_command None due d h = tt
      by_command (Some (commands.Gen number)) due d h = tt
      by_command (Some commands.Show) due d h = of_stream due d h
      by_command (Some command) due d h = of_bytes command due d h

  -- at status 0 the source was read to its end
  pub read_to_end : out.status ≡ 0 → (ReadsNone asked → ⊥) → IfSome from.left_new (λ rest. rest ≡ [])
  read_to_end e reads = let g = given_at 0 e (omega arith) in by_command asked g.due g.is g.status reads
    where
      of_bytes : (command : Command) (due : Due) → IsDueOfBytes command from due → out.status ≡ code (status_of due) →
          IfSome from.left_new (λ rest. rest ≡ [])
      of_bytes command read_fault d is = absurd (omega arith)
      of_bytes command (refused r) d is = absurd (omega arith)
      of_bytes command (played s text) d is =
          all_of_script command from.left from.left_new (of_read command _ _ (λ bytes (h : IsRead command s bytes). h.0) from.left d.1) d.0
      of_bytes command (threaded s end) d is =
          all_of_script command from.left from.left_new (of_read command _ _ (λ bytes (h : IsRead command s bytes). h.0) from.left d.1) d.0
      of_bytes command due d is = absurd d

      of_stream : (due : Due) → IsDueOfStream from due → out.status ≡ code (status_of due) → IfSome from.left_new (λ rest. rest ≡ [])
      of_stream read_fault d is = absurd (omega arith)
      of_stream (faulty f) d is = absurd (omega arith)
      of_stream (shown text) d is =
          all_of_stream from.left from.left_new (of_read commands.Show _ _ (λ bytes (h : IsShown text bytes). h.0) from.left d.1) d.0
      of_stream due d is = absurd d

      by_command : (what : Option Command) (due : Due) → IsDue what from due → out.status ≡ code (status_of due) → (ReadsNone what → ⊥) →
          IfSome from.left_new (λ rest. rest ≡ [])
      by_command None due d is reads = absurd (reads tt)
      by_command (Some (commands.Gen number)) due d is reads = absurd (reads tt)
      by_command (Some commands.Show) due d is reads = of_stream due d is
      by_command (Some command) due d is reads = of_bytes command due d is

  -- at status 0 the text of the script that was read is written, where one thread played it
  pub script_written : out.status ≡ 0 →
      OfOneThread asked from.left (λ command bytes. Grew to.written to.written_new (text_for command (script_of bytes)))
  script_written e = let g = given_at 0 e (omega arith) in by_command asked g.due g.is g.status g.written
    where
      of_bytes : (command : Command) (due : Due) → command ≢ commands.Play → IsDueOfBytes command from due → out.status ≡ code (status_of due) →
          Grew to.written to.written_new (due_text due) →
          OfBytesRead command from.left (λ bytes. Grew to.written to.written_new (text_for command (script_of bytes)))
      of_bytes command read_fault other d is grew = absurd (omega arith)
      of_bytes command (refused r) other d is grew = absurd (omega arith)
      of_bytes command (played s text) other d is grew =
          let wrote : Grew to.written to.written_new (text_for command s) =
          subst (λ (t : List ℕ). Grew to.written to.written_new t) (written_text command s text d.2).0 grew in
          let P : Script → Type 0 = λ x. Grew to.written to.written_new (text_for command x) in
          of_read command _ _ (λ bytes (h : IsRead command s bytes). subst P h.1 wrote) from.left d.1
      of_bytes command (threaded s end) other d is grew = absurd (other (for_play command s end d.2))
      of_bytes command due other d is grew = absurd d

      by_command : (what : Option Command) (due : Due) → IsDue what from due → out.status ≡ code (status_of due) →
          Grew to.written to.written_new (due_text due) →
          OfOneThread what from.left (λ command bytes. Grew to.written to.written_new (text_for command (script_of bytes)))
      by_command None due d is grew = tt
      by_command (Some (commands.Gen number)) due d is grew = tt
      by_command (Some commands.Show) due d is grew = tt
      by_command (Some commands.Play) due d is grew = tt
      by_command (Some command) due d is grew = of_bytes command due (λ play. cc) d is grew

  -- at status 0 a stream that was written is one that shows the script's dumps
  pub script_read_back : out.status ≡ 0 → OfOneThread asked from.left (λ command bytes. IsReadBack command (script_of bytes))
  script_read_back e = let g = given_at 0 e (omega arith) in by_command asked g.due g.is g.status
    where
      of_bytes : (command : Command) (due : Due) → command ≢ commands.Play → IsDueOfBytes command from due → out.status ≡ code (status_of due) →
          OfBytesRead command from.left (λ bytes. IsReadBack command (script_of bytes))
      of_bytes command read_fault other d is = absurd (omega arith)
      of_bytes command (refused r) other d is = absurd (omega arith)
      of_bytes command (played s text) other d is =
          let back : IsReadBack command s = (written_text command s text d.2).1 in
          of_read command _ _ (λ bytes (h : IsRead command s bytes). subst (λ (x : Script). IsReadBack command x) h.1 back) from.left d.1
      of_bytes command (threaded s end) other d is = absurd (other (for_play command s end d.2))
      of_bytes command due other d is = absurd d

      by_command : (what : Option Command) (due : Due) → IsDue what from due → out.status ≡ code (status_of due) →
          OfOneThread what from.left (λ command bytes. IsReadBack command (script_of bytes))
      by_command None due d is = tt
      by_command (Some (commands.Gen number)) due d is = tt
      by_command (Some commands.Show) due d is = tt
      by_command (Some commands.Play) due d is = tt
      by_command (Some command) due d is = of_bytes command due (λ play. cc) d is

  -- at status 0 the stage has played the script that was read, where one thread did
  pub script_played : out.status ≡ 0 →
      OfOneThread asked from.left (λ command bytes. IsSomeAnd out.stage (λ stage. HasPlayed (script_of bytes) stage))
  script_played e = let g = given_at 0 e (omega arith) in by_command asked g.due g.is g.status g.stage
    where
      of_bytes : (command : Command) (due : Due) → command ≢ commands.Play → IsDueOfBytes command from due → out.status ≡ code (status_of due) →
          IsStageOf due out.stage → OfBytesRead command from.left (λ bytes. IsSomeAnd out.stage (λ stage. HasPlayed (script_of bytes) stage))
      of_bytes command read_fault other d is plays = absurd (omega arith)
      of_bytes command (refused r) other d is plays = absurd (omega arith)
      of_bytes command (played s text) other d is plays =
          let P : Script → Type 0 = λ x. IsSomeAnd out.stage (λ stage. HasPlayed x stage) in
          of_read command _ _ (λ bytes (h : IsRead command s bytes). subst P h.1 plays) from.left d.1
      of_bytes command (threaded s end) other d is plays = absurd (other (for_play command s end d.2))
      of_bytes command due other d is plays = absurd d

      by_command : (what : Option Command) (due : Due) → IsDue what from due → out.status ≡ code (status_of due) → IsStageOf due out.stage →
          OfOneThread what from.left (λ command bytes. IsSomeAnd out.stage (λ stage. HasPlayed (script_of bytes) stage))
      by_command None due d is plays = tt
      by_command (Some (commands.Gen number)) due d is plays = tt
      by_command (Some commands.Show) due d is plays = tt
      by_command (Some commands.Play) due d is plays = tt
      by_command (Some command) due d is plays = of_bytes command due (λ play. cc) d is plays

  -- what a script came to that threads played, by what is handed out and written of it
  abbrev HasInterleavedHere : Script → StageView Widget WidgetCmd → Type 0
  HasInterleavedHere s stage =
      HasInterleaved widgets s.opening s.parts stage × Grew to.written to.written_new (threads_text s stage)

  abbrev HasPlayedAgain : Script → Option (StageView Widget WidgetCmd) → DiffersView Widget WidgetCmd → Type 0
  HasPlayedAgain s stage d =
      HasDifferedIn s d × IsSomeAnd stage (λ stage. HasPlayed s stage) × Grew to.written to.written_new (out_text s ++ again_text s d)

  -- at status 0 the stage has played it, the journal interleaves it, and the journal's text is written
  pub threads_played : out.status ≡ 0 → IsNone out.differs →
      OfThreads asked from.left (λ bytes. IsSomeAnd out.stage (λ stage. HasInterleavedHere (script_of bytes) stage))
  threads_played e none = let g = given_at 0 e (omega arith) in by_command asked g.due g.is g.status g.stage g.written g.differs
    where
      by_threads : (s : Script) (differs : Option (DiffersView Widget WidgetCmd)) (stage : StageView Widget WidgetCmd) (text : List ℕ) →
          IsPlayed s differs stage text → Grew to.written to.written_new text → IsNone differs → HasInterleavedHere s stage
      by_threads s None stage text is grew none =
          (is.played, subst (λ (t : List ℕ). Grew to.written to.written_new t) is.text_is grew)
      by_threads s (Some d) stage text is grew none = absurd (cc)

      of_bytes : (due : Due) → IsDueOfBytes commands.Play from due → out.status ≡ code (status_of due) → IsStageOf due out.stage →
          Grew to.written to.written_new (due_text due) → IsDifferenceOf due out.differs →
          OfBytesRead commands.Play from.left (λ bytes. IsSomeAnd out.stage (λ stage. HasInterleavedHere (script_of bytes) stage))
      of_bytes read_fault d is stage grew differs = absurd (omega arith)
      of_bytes (refused r) d is stage grew differs = absurd (omega arith)
      of_bytes (played s text) d is stage grew differs = absurd d.2
      of_bytes (threaded s end) d is stage grew differs =
          let here : HasInterleavedHere s end.stage =
          by_threads s end.differs end.stage end.text d.2 grew
          (subst (λ (o : Option (DiffersView Widget WidgetCmd)). IsNone o) differs none) in
          let P : Script → Type 0 = λ x. IsSomeAnd out.stage (λ stage. HasInterleavedHere x stage) in
          let some : P s = subst (λ (o : Option (StageView Widget WidgetCmd)). IsSomeAnd o (λ stage. HasInterleavedHere s stage)) (sym stage) here in
          of_read commands.Play _ _ (λ bytes (h : IsRead commands.Play s bytes). subst P h.1 some) from.left d.1
      of_bytes due d is stage grew differs = absurd d

      by_command : (what : Option Command) (due : Due) → IsDue what from due → out.status ≡ code (status_of due) → IsStageOf due out.stage →
          Grew to.written to.written_new (due_text due) → IsDifferenceOf due out.differs →
          OfThreads what from.left (λ bytes. IsSomeAnd out.stage (λ stage. HasInterleavedHere (script_of bytes) stage))
      by_command (Some commands.Play) due d is stage grew differs = of_bytes due d is stage grew differs
      by_command what due d is stage grew differs = tt

  -- or a session found a difference, and all was played again
  pub played_again : out.status ≡ 0 →
      OfThreads asked from.left (λ bytes. IfSome out.differs (λ d. HasPlayedAgain (script_of bytes) out.stage d))
  played_again e = let g = given_at 0 e (omega arith) in by_command asked g.due g.is g.status g.stage g.written g.differs
    where
      by_threads : (s : Script) (differs : Option (DiffersView Widget WidgetCmd)) (stage : StageView Widget WidgetCmd) (text : List ℕ) →
          IsPlayed s differs stage text → Grew to.written to.written_new text → IfSome differs (λ d. HasPlayedAgain s (Some stage) d)
      by_threads s None stage text is grew = tt
      by_threads s (Some d) stage text is grew = (
        is.differs,
        record { opening = is.opening; journal = is.journal },
        subst (λ (t : List ℕ). Grew to.written to.written_new t) is.text_is grew,
      )

      of_bytes : (due : Due) → IsDueOfBytes commands.Play from due → out.status ≡ code (status_of due) → IsStageOf due out.stage →
          Grew to.written to.written_new (due_text due) → IsDifferenceOf due out.differs →
          OfBytesRead commands.Play from.left (λ bytes. IfSome out.differs (λ d. HasPlayedAgain (script_of bytes) out.stage d))
      of_bytes read_fault d is stage grew differs = absurd (omega arith)
      of_bytes (refused r) d is stage grew differs = absurd (omega arith)
      of_bytes (played s text) d is stage grew differs = absurd d.2
      of_bytes (threaded s end) d is stage grew differs =
          let here : IfSome end.differs (λ d. HasPlayedAgain s (Some end.stage) d) =
          by_threads s end.differs end.stage end.text d.2 grew in
          let staged : IfSome end.differs (λ d. HasPlayedAgain s out.stage d) =
          subst (λ (o : Option (StageView Widget WidgetCmd)). IfSome end.differs (λ d. HasPlayedAgain s o d)) (sym stage) here in
          let P : Script → Type 0 = λ x. IfSome out.differs (λ d. HasPlayedAgain x out.stage d) in
          let some : P s =
          subst (λ (o : Option (DiffersView Widget WidgetCmd)). IfSome o (λ d. HasPlayedAgain s out.stage d)) (sym differs) staged in
          of_read commands.Play _ _ (λ bytes (h : IsRead commands.Play s bytes). subst P h.1 some) from.left d.1
      of_bytes due d is stage grew differs = absurd d

      by_command : (what : Option Command) (due : Due) → IsDue what from due → out.status ≡ code (status_of due) → IsStageOf due out.stage →
          Grew to.written to.written_new (due_text due) → IsDifferenceOf due out.differs →
          OfThreads what from.left (λ bytes. IfSome out.differs (λ d. HasPlayedAgain (script_of bytes) out.stage d))
      by_command (Some commands.Play) due d is stage grew differs = of_bytes due d is stage grew differs
      by_command what due d is stage grew differs = tt

  -- in both cases what is written is what the script came to
  pub threads_written : out.status ≡ 0 →
      OfThreads asked from.left (λ bytes. (end : Threaded) × IsThreaded (script_of bytes) end × Grew to.written to.written_new end.text)
  threads_written e = let g = given_at 0 e (omega arith) in by_command asked g.due g.is g.status g.written
    where
      P : Script → Type 0
      P s = (end : Threaded) × IsThreaded s end × Grew to.written to.written_new end.text

      of_bytes : (due : Due) → IsDueOfBytes commands.Play from due → out.status ≡ code (status_of due) →
          Grew to.written to.written_new (due_text due) → OfBytesRead commands.Play from.left (λ bytes. P (script_of bytes))
      of_bytes read_fault d is grew = absurd (omega arith)
      of_bytes (refused r) d is grew = absurd (omega arith)
      of_bytes (played s text) d is grew = absurd d.2
      of_bytes (threaded s end) d is grew =
          let some : P s = (end, d.2, grew) in
          of_read commands.Play _ _ (λ bytes (h : IsRead commands.Play s bytes). subst P h.1 some) from.left d.1
      of_bytes due d is grew = absurd d

      by_command : (what : Option Command) (due : Due) → IsDue what from due → out.status ≡ code (status_of due) →
          Grew to.written to.written_new (due_text due) → OfThreads what from.left (λ bytes. P (script_of bytes))
      by_command (Some commands.Play) due d is grew = of_bytes due d is grew
      by_command what due d is grew = tt

  -- a difference is handed out by `play` alone, at status 0
  pub differs_only : IsSome out.differs → (out.status ≡ 0) × (asked ≡ Some commands.Play)
  differs_only some = by_cases answered
    where
      threads_only : (s : Script) (end : Threaded) (what : Option Command) → IsDue what from (threaded s end) → what ≡ Some commands.Play
      threads_only s end None d = absurd (cc)
      threads_only s end (Some (commands.Gen number)) d = absurd (cc)
      threads_only s end (Some commands.Show) d = absurd d
      threads_only s end (Some commands.Play) d = refl
      threads_only s end (Some command) d = absurd d.2

      delivered : (due : Due) → IsDue asked from due → IsDelivered due out to → (out.status ≡ 0) × (asked ≡ Some commands.Play)
      delivered due d (inr (inl v)) = absurd (none_is_not _ v.4 some)
      delivered due d (inr (inr v)) = absurd (none_is_not _ v.3 some)
      delivered (threaded s end) d (inl v) = (v.0, threads_only s end asked d)
      delivered usage d (inl v) = absurd (none_is_not _ v.3 some)
      delivered read_fault d (inl v) = absurd (none_is_not _ v.3 some)
      delivered (refused r) d (inl v) = absurd (none_is_not _ v.3 some)
      delivered (faulty f) d (inl v) = absurd (none_is_not _ v.3 some)
      delivered (played s text) d (inl v) = absurd (none_is_not _ v.3 some)
      delivered (shown text) d (inl v) = absurd (none_is_not _ v.3 some)

      by_cases : IsAnswered asked from out to → (out.status ≡ 0) × (asked ≡ Some commands.Play)
      by_cases (inl w) = absurd (none_is_not _ w.4 some)
      by_cases (inr w) = delivered w.0 w.1 w.2

  -- at status 0 the screens of the stream that was read are dumped
  pub stream_shown : out.status ≡ 0 → OfStreamRead asked from.left (λ bytes. Grew to.written to.written_new (shown_text bytes))
  stream_shown e = let g = given_at 0 e (omega arith) in by_command asked g.due g.is g.status g.written
    where
      of_stream : (due : Due) → IsDueOfStream from due → out.status ≡ code (status_of due) → Grew to.written to.written_new (due_text due) →
          OfBytesRead commands.Show from.left (λ bytes. Grew to.written to.written_new (shown_text bytes))
      of_stream read_fault d is grew = absurd (omega arith)
      of_stream (faulty f) d is grew = absurd (omega arith)
      of_stream (shown text) d is grew =
          let P : List ℕ → Type 0 = λ t. Grew to.written to.written_new t in
          of_read commands.Show _ _ (λ bytes (h : IsShown text bytes). subst P h.1 grew) from.left d.1
      of_stream due d is grew = absurd d

      by_command : (what : Option Command) (due : Due) → IsDue what from due → out.status ≡ code (status_of due) →
          Grew to.written to.written_new (due_text due) → OfStreamRead what from.left (λ bytes. Grew to.written to.written_new (shown_text bytes))
      by_command (Some commands.Show) due d is grew = of_stream due d is grew
      by_command what due d is grew = tt

  -- at status 0 the summary of the number's script is written, and the stage has played it
  pub number_played : out.status ≡ 0 → OfNumber asked (λ number.
      Grew to.written to.written_new (gen_text number) × IsSomeAnd out.stage (λ stage. HasPlayed (drawn number) stage))
  number_played e = let g = given_at 0 e (omega arith) in by_command asked g.due g.is g.written g.stage
    where
      by_command : (what : Option Command) (due : Due) → IsDue what from due → Grew to.written to.written_new (due_text due) → IsStageOf due out.stage →
          OfNumber what (λ number. Grew to.written to.written_new (gen_text number) × IsSomeAnd out.stage (λ stage. HasPlayed (drawn number) stage))
      by_command (Some (commands.Gen number)) due d grew plays = (
        subst (λ (x : Due). Grew to.written to.written_new (due_text x)) d.0 grew,
        subst (λ (x : Due). IsStageOf x out.stage) d.0 plays,
      )
      by_command what due d grew plays = tt

  -- a stage is handed out exactly at status 0, but not of a stream
  pub stage_exactly : IsSome out.stage ↔ ((out.status ≡ 0) × (asked ≢ Some commands.Show))
  stage_exactly = by_cases answered
    where
      none : out.stage ≡ None → (out.status ≡ 0 → asked ≢ Some commands.Show → ⊥) → IsSome out.stage ↔ ((out.status ≡ 0) × (asked ≢ Some commands.Show))
      none e other = (λ some. absurd (none_is_not _ e some), λ h. absurd (other h.0 h.1))

      -- only a stream is shown
      shows : (text : List ℕ) (what : Option Command) → IsDue what from (shown text) → what ≢ Some commands.Show → ⊥
      shows text None d other = cc
      shows text (Some (commands.Gen number)) d other = cc
      shows text (Some commands.Show) d other = other refl
      shows text (Some command) d other = d

      delivered : (due : Due) → IsDue asked from due → IsDelivered due out to → IsSome out.stage ↔ ((out.status ≡ 0) × (asked ≢ Some commands.Show))
      delivered due d (inr (inl v)) = none v.1 (λ e other. absurd (omega arith))
      delivered due d (inr (inr v)) = none v.1 (λ e other. absurd (omega arith))
      delivered usage d (inl v) = none v.1 (λ e other. absurd (omega arith))
      delivered read_fault d (inl v) = none v.1 (λ e other. absurd (omega arith))
      delivered (refused r) d (inl v) = none v.1 (λ e other. absurd (omega arith))
      delivered (faulty f) d (inl v) = none v.1 (λ e other. absurd (omega arith))
      delivered (played s text) d (inl v) =
          (λ _. (v.0, λ show. subst (λ (what : Option Command). IsDue what from (played s text)) show d), λ _. and_is _ _ v.1)
      delivered (threaded s end) d (inl v) =
          (λ _. (v.0, λ show. subst (λ (what : Option Command). IsDue what from (threaded s end)) show d), λ _. some_is _ _ v.1)
      delivered (shown text) d (inl v) = none v.1 (λ e other. shows text asked d other)

      by_cases : IsAnswered asked from out to → IsSome out.stage ↔ ((out.status ≡ 0) × (asked ≢ Some commands.Show))
      by_cases (inl w) = none w.1 (λ e other. absurd (omega arith))
      by_cases (inr w) = delivered w.0 w.1 w.2

  pub write_fault_due : out.status ≡ 5 → HasFault to.faults to.faults_new
  write_fault_due e = by_cases answered
    where
      delivered : (due : Due) → IsDelivered due out to → HasFault to.faults to.faults_new
      delivered due (inr (inl v)) = v.2
      delivered due (inr (inr v)) = absurd (omega arith)
      delivered due (inl v) = absurd (omega (arith, v.0, below_faults due, e))

      by_cases : IsAnswered asked from out to → HasFault to.faults to.faults_new
      by_cases (inl w) = absurd (omega arith)
      by_cases (inr w) = delivered w.0 w.2

  -- beside a write fault a prefix of what is due is written
  pub prefix_written : out.status ≡ 5 → (due : Due) × IsDue asked from due × GrewByPrefix to.written to.written_new (due_text due)
  prefix_written e = by_cases answered
    where
      delivered : (due : Due) → IsDelivered due out to → GrewByPrefix to.written to.written_new (due_text due)
      delivered due (inr (inl v)) = v.3
      delivered due (inr (inr v)) = absurd (omega arith)
      delivered due (inl v) = absurd (omega (arith, v.0, below_faults due, e))

      by_cases : IsAnswered asked from out to → (due : Due) × IsDue asked from due × GrewByPrefix to.written to.written_new (due_text due)
      by_cases (inl w) = absurd (omega arith)
      by_cases (inr w) = (w.0, w.1, delivered w.0 w.2)

  -- where memory was wanting nothing is written
  pub nothing_written : out.status ≡ 6 → to.written_new ≡ to.written
  nothing_written e = by_cases answered
    where
      delivered : (due : Due) → IsDelivered due out to → to.written_new ≡ to.written
      delivered due (inr (inl v)) = absurd (omega arith)
      delivered due (inr (inr v)) = v.2
      delivered due (inl v) = absurd (omega (arith, v.0, below_faults due, e))

      by_cases : IsAnswered asked from out to → to.written_new ≡ to.written
      by_cases (inl w) = w.2
      by_cases (inr w) = delivered w.0 w.2

  -- what isn't refused is played, where no fault is counted
  pub all_played : IsAllowed asked from.left → (HasFault from.faults from.faults_new → ⊥) →
      (HasFault to.faults to.faults_new → ⊥) → (out.status ≡ 0) ⊎ (out.status ≡ 6)
  all_played allowed reads writes = by_cases answered
    where
      of_bytes : (command : Command) (due : Due) → IsDueOfBytes command from due → out.status ≡ code (status_of due) →
          AreAllowed (refusal_for command) command from.left → (out.status ≡ 0) ⊎ (out.status ≡ 6)
      of_bytes command read_fault d is allowed = absurd (reads d)
      of_bytes command (refused r) d is allowed = absurd (not_both (refusal_for command) command r from.left d.1 allowed)
      of_bytes command (played s text) d is allowed = inl is
      of_bytes command (threaded s end) d is allowed = inl is
      of_bytes command due d is allowed = absurd d

      of_stream : (due : Due) → IsDueOfStream from due → out.status ≡ code (status_of due) → AreAllowed first_fault commands.Show from.left →
          (out.status ≡ 0) ⊎ (out.status ≡ 6)
      of_stream read_fault d is allowed = absurd (reads d)
      of_stream (faulty f) d is allowed = absurd (not_both first_fault commands.Show f from.left d.1 allowed)
      of_stream (shown text) d is allowed = inl is
      of_stream due d is allowed = absurd d

      by_command : (what : Option Command) (due : Due) → IsDue what from due → out.status ≡ code (status_of due) → IsAllowed what from.left →
          (out.status ≡ 0) ⊎ (out.status ≡ 6)
      by_command None due d is allowed = absurd allowed
      by_command (Some (commands.Gen number)) due d is allowed = inl (summed_up number due d.0 is)
      by_command (Some commands.Show) due d is allowed = of_stream due d is allowed
      by_command (Some command) due d is allowed = of_bytes command due d is allowed

      delivered : (due : Due) → IsDue asked from due → IsDelivered due out to → (out.status ≡ 0) ⊎ (out.status ≡ 6)
      delivered due d (inr (inl v)) = absurd (writes v.2)
      delivered due d (inr (inr v)) = inr v.0
      delivered due d (inl v) = by_command asked due d v.0 allowed

      by_cases : IsAnswered asked from out to → (out.status ≡ 0) ⊎ (out.status ≡ 6)
      by_cases (inl w) = inr w.0
      by_cases (inr w) = delivered w.0 w.1 w.2

-- ---- one thread

-- of what one thread is asked for no difference is handed out
pub no_difference : {A : Type 0} (asked : Option Command) (differs : Option A) →
    (IsSome differs → of_one_thread asked ≡ Some commands.Play) → differs ≡ None
no_difference asked None only = refl
no_difference asked (Some d) only = absurd (never asked (only refl))
  where
    never : (asked : Option Command) → of_one_thread asked ≡ Some commands.Play → ⊥
    never None e = cc
    never (Some commands.Play) e = cc
    never (Some command) e = cc
