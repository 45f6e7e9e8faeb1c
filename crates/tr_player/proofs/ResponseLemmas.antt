-- What is due, by the words and by the bytes that were read.
use Rattle.std.proofs.Common.{◌≡◌, ◌≢◌, ℕ, ◌<◌, List, ◌++◌, length, Result, refl, sym, ap, subst, ◌∙◌, arith}
use Rattle.std.specs.Prelude.{Option, Some, None, Ok, Err, IfOk, OnOk, codes, decimal}
use Rattle.std.proofs.lemmas.List.{length_push}
use Rattle.std.proofs.lemmas.Result.{IfOk-weaker}
use mathlib.Core.List.{append_assoc}
use Rattle.tr_base.specs.declared.NoMemory.{NoMemory}
use Rattle.tr_io.specs.declared.streams.Sink.{Ghosts}
use Rattle.tr_io.specs.Streams.{Grew, GrewByPrefix}
use Rattle.tr_arguments.specs.declared.Command.{Command}
use Rattle.tr_arguments.specs.declared.Command.TheVariants as commands
use Rattle.tr_grammar.specs.States.{nothing_yet}
use Rattle.tr_grammar.specs.Texts.{lines_of}
use Rattle.tr_grammar.specs.Scripts.{Refusal, Script, after_all_lines, refusal_of, script_of}
use Rattle.std.specs.List.{filter, flat_map}
use Rattle.tr_mirror.specs.declared.faults.MirrorFault.{MirrorFault}
use Rattle.tr_mirror.specs.Readings.{IsStream, fault_number, first_fault, screens_shown}
use Rattle.tr_dump.specs.Reports.{dump_text}
use Rattle.tr_serial.specs.Reports.{is_dump, reports_of, report_texts}
use Rattle.tr_serial.specs.Screens.{mirror_bytes}
use Rattle.tr_serial.specs.Outputs.{check_text, gen_text, drawn, out_text}
use Rattle.tr_player.specs.Checks.{check_refusal}
use Rattle.tr_threads.specs.declared.plays.Threaded.{Threaded}
use Rattle.tr_player.specs.declared.responses.Response.{Response}
use Rattle.tr_player.specs.declared.responses.Response.TheVariants as responses
use Rattle.tr_player.specs.Responses.{IsDueOfShow, IsDueOfText, IsResponse, due_of_script, refused_or, response_text}
use Rattle.tr_player.specs.Answers.{SourceChange, Due, usage, read_fault, refused, faulty, played, threaded, shown, IsUnread, IsDue, IsReadBack, refused_text, faulty_text, due_text}

-- ---- by the words

-- a number's summary is due where a number is asked for
pub due_for_number : (number : ℕ) (asked : Option Command) (from : SourceChange) → asked ≡ Some (commands.Gen number) → IsUnread from →
    IsDue asked from (played (drawn number) (gen_text number))
due_for_number number asked from e unread =
    subst (λ (c : Option Command). IsDue c from (played (drawn number) (gen_text number))) (sym e) (refl, unread)

-- and the usage where nothing is
pub due_for_none : (asked : Option Command) (from : SourceChange) → asked ≡ None → IsUnread from → IsDue asked from usage
due_for_none asked from e unread = subst (λ (c : Option Command). IsDue c from usage) (sym e) (refl, unread)

-- ---- by the text

-- a text that is a script, which one thread plays
pub due_of_valid : (command : Command) (bytes : List ℕ) (s : Script) → command ≢ commands.Play → refusal_of bytes ≡ None → s ≡ script_of bytes →
    IsReadBack command s → IsDueOfText command bytes (due_of_script command s)
due_of_valid commands.Check bytes s other none is back = by_limits (check_refusal s) refl
  where
    by_limits : (r : Option Refusal) → check_refusal s ≡ r → IsDueOfText commands.Check bytes (refused_or r (played s (check_text s)))
    by_limits None e = (rw none (subst (λ (x : Script). check_refusal x ≡ None) is e), is, (refl, tt))
    by_limits (Some r) e = rw none (subst (λ (x : Script). check_refusal x ≡ Some r) is e)
due_of_valid commands.Play bytes s other none is back = absurd (other refl)
due_of_valid command bytes s other none is back = (none, is, (refl, back))

-- what `mirror` writes, where it is a stream of which the dumps among the reports are shown
pub read_back : (s : Script) (text : List ℕ) → text ≡ mirror_bytes s → IsStream text →
    flat_map dump_text (screens_shown text) ≡ report_texts (filter is_dump (reports_of s)) → out_text s ≡ report_texts (reports_of s) →
    IsReadBack commands.Mirror s
read_back s text is stream dumps reports = (
  subst (λ (t : List ℕ). IsStream t) is stream,
  ap (λ (t : List ℕ). flat_map dump_text (screens_shown t)) (sym is) ∙ dumps,
  reports,
)

-- so it is with what was made of the script
pub due_of_made : (command : Command) (bytes : List ℕ) (s : Script) (result : Result Response NoMemory) → command ≢ commands.Play →
    refusal_of bytes ≡ None → s ≡ script_of bytes →
    IfOk result (λ response. IsResponse (due_of_script command s) response) → OnOk result (IsReadBack command s) →
    IfOk result (λ response. (due : Due) × IsResponse due response × IsDueOfText command bytes due)
due_of_made command bytes s (Ok response) other none is made back = (due_of_script command s, made, due_of_valid command bytes s other none is back)
due_of_made command bytes s (Err e) other none is made back = tt

-- a script is read from a text: it has a part
pub some_parts : (bytes : List ℕ) (s : Script) → s ≡ script_of bytes → 0 < length s.parts
unfolding script_of
some_parts bytes s is =
    omega (
      arith,
      ap (λ (x : Script). length x.parts) is,
      length_push (after_all_lines nothing_yet (lines_of bytes)).ended (after_all_lines nothing_yet (lines_of bytes)).part,
    )

-- a text that is no script
pub due_refused : (command : Command) (bytes : List ℕ) (r : Refusal) → refusal_of bytes ≡ Some r → IsDueOfText command bytes (refused r)
due_refused commands.Check bytes r e = rw e refl
due_refused command bytes r e = e

-- and the response that refuses it, which names the line and the code
pub refused_due : (command : Command) (bytes : List ℕ) (r : Refusal) (line code : ℕ) (result : Result Response NoMemory) → line ≡ r.line → code ≡ r.code →
    refusal_of bytes ≡ Some r → IfOk result (λ response. IsResponse (refused (record { line = line; code = code })) response) →
    IfOk result (λ response. (due : Due) × IsResponse due response × IsDueOfText command bytes due)
refused_due command bytes r line code result same_line same_code cause made =
    let with_line : ℕ → Refusal = λ n. record { line = n; code = code } in
    let with_code : ℕ → Refusal = λ n. record { line = r.line; code = n } in
    let same : record { line = line; code = code } ≡ r = ap with_line same_line ∙ ap with_code same_code in
    IfOk-weaker result (λ (response : Response). IsResponse (refused (record { line = line; code = code })) response)
    (λ (response : Response). (due : Due) × IsResponse due response × IsDueOfText command bytes due)
    (λ response is. (refused r, subst (λ (s : Refusal). IsResponse (refused s) response) same is, due_refused command bytes r cause)) made

-- the same of a text by the bytes that were lent
pub due_of_lent : (command : Command) (lent bytes : List ℕ) (result : Result Response NoMemory) → lent ≡ bytes →
    IfOk result (λ response. (due : Due) × IsResponse due response × IsDueOfText command lent due) →
    IfOk result (λ response. (due : Due) × IsResponse due response × IsDueOfText command bytes due)
due_of_lent command lent bytes result same h =
    subst (λ (text : List ℕ). IfOk result (λ response. (due : Due) × IsResponse due response × IsDueOfText command text due)) same h

-- and bytes that are no stream, with the response that names their fault
pub faulty_due : (bytes : List ℕ) (f : MirrorFault) (result : Result Response NoMemory) → first_fault bytes ≡ Some f →
    IfOk result (λ response. IsResponse (faulty f) response) →
    IfOk result (λ response. (due : Due) × IsResponse due response × IsDueOfShow bytes due)
faulty_due bytes f result cause made =
    IfOk-weaker result (λ (response : Response). IsResponse (faulty f) response)
    (λ (response : Response). (due : Due) × IsResponse due response × IsDueOfShow bytes due) (λ response is. (faulty f, is, cause)) made

-- ---- the text of a refusal

regroup : (a b c d e : List ℕ) → a ++ b ++ c ++ d ++ e ≡ a ++ (b ++ (c ++ (d ++ e)))
regroup a b c d e = simp append_assoc

pub refusal_text : (r : Refusal) → codes "refused: line " ++ (decimal r.line ++ (codes " B" ++ (decimal r.code ++ codes "\n"))) ≡ refused_text r
refusal_text r = sym (regroup (codes "refused: line ") (decimal r.line) (codes " B") (decimal r.code) (codes "\n"))

pub fault_text : (f : MirrorFault) → codes "refused: byte " ++ (decimal f.place ++ (codes " M" ++ (decimal (fault_number f.fault) ++ codes "\n")))
    ≡ faulty_text f
fault_text f = sym (regroup (codes "refused: byte ") (decimal f.place) (codes " M") (decimal (fault_number f.fault)) (codes "\n"))

-- ---- the text of a response

-- it is the one that is due
pub text_due : (due : Due) (response : Response) → IsResponse due response → response_text response ≡ due_text due
text_due usage responses.Usage is = refl
text_due read_fault responses.ReadFault is = refl
text_due (refused r) (responses.Refused text) is = is
text_due (faulty f) (responses.Refused text) is = is
text_due (played s text) (responses.Played p) is = is.0
text_due (threaded s end) (responses.Threaded made) is = ap (λ (x : Threaded). x.text) is
text_due (shown text) (responses.Shown out) is = is
text_due due response is = absurd is

module _ {K : Type 0} (sink : Ghosts K) (before after : K) where
  -- so what a sink took of it is what it took of the text that is due
  pub due_grew : (due : Due) (response : Response) → IsResponse due response → Grew (sink.written before) (sink.written after) (response_text response) →
      Grew (sink.written before) (sink.written after) (due_text due)
  due_grew due response is grew = subst (λ (t : List ℕ). Grew (sink.written before) (sink.written after) t) (text_due due response is) grew

  pub due_prefix : (due : Due) (response : Response) → IsResponse due response →
      GrewByPrefix (sink.written before) (sink.written after) (response_text response) →
      GrewByPrefix (sink.written before) (sink.written after) (due_text due)
  due_prefix due response is grew =
      subst (λ (t : List ℕ). GrewByPrefix (sink.written before) (sink.written after) t) (text_due due response is) grew
