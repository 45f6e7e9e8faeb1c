-- Private contracts alone cite this file.
-- The responses of the code, as the answers that are due.
use Rattle.std.specs.Prelude.{◌≡◌, ⊤, ℕ, List, Option, Some, None}
use Rattle.tr_arguments.specs.declared.Command.{Command}
use Rattle.tr_arguments.specs.declared.Command.TheVariants as commands
use Rattle.tr_grammar.specs.Scripts.{Refusal, Script, script_of}
use Rattle.tr_mirror.specs.Readings.{first_fault}
use Rattle.tr_show.specs.Shows.{shown_text}
use Rattle.tr_serial.specs.Outputs.{out_text, check_text}
use Rattle.tr_serial.specs.Screens.{mirror_bytes}
use Rattle.tr_player.specs.declared.responses.Response.{Response}
use Rattle.tr_player.specs.declared.responses.Response.TheVariants as responses
use Rattle.tr_player.specs.Checks.{check_refusal}
use Rattle.tr_player.specs.Answers.{Due, usage, read_fault, refused, faulty, played, threaded, shown, refusal_for, IsWritten, IsByThreads, usage_text, read_fault_text, refused_text, faulty_text, HasPlayed}

-- the answer to a text: its refusal, or the result of its script
abbrev pub IsDueOfText : Command → List ℕ → Due → Type 0
IsDueOfText command bytes (refused r) = refusal_for command bytes ≡ Some r
IsDueOfText command bytes (played s text) =
    (refusal_for command bytes ≡ None) × (s ≡ script_of bytes) × IsWritten command s text
IsDueOfText command bytes (threaded s end) =
    (refusal_for command bytes ≡ None) × (s ≡ script_of bytes) × IsByThreads command s end
IsDueOfText command bytes due = ⊥

-- the answer to the bytes of a stream: its first fault, or the dumps of its screens
abbrev pub IsDueOfShow : List ℕ → Due → Type 0
IsDueOfShow bytes (faulty f) = first_fault bytes ≡ Some f
IsDueOfShow bytes (shown text) = (first_fault bytes ≡ None) × (text ≡ shown_text bytes)
IsDueOfShow bytes due = ⊥

-- the refusal if there is one, else the answer
abbrev pub refused_or : Option Refusal → Due → Due
refused_or (Some r) due = refused r
refused_or None due = due

-- the answer to a script that one thread plays: its text, unless a check of it is beyond the limits
abbrev pub due_of_script : Command → Script → Due
due_of_script commands.Check s = refused_or (check_refusal s) (played s (check_text s))
due_of_script commands.Mirror s = played s (mirror_bytes s)
due_of_script command s = played s (out_text s)

-- the text of a response
abbrev pub response_text : Response → List ℕ
response_text responses.Usage = usage_text
response_text responses.ReadFault = read_fault_text
response_text (responses.Refused text) = text.items
response_text (responses.Played p) = p.text
response_text (responses.Threaded made) = made.text
response_text (responses.Shown out) = out

-- a response is this answer: its text is the answer's, and a script's stage has played it
abbrev pub IsResponse : Due → Response → Type 0
IsResponse usage responses.Usage = ⊤
IsResponse read_fault responses.ReadFault = ⊤
IsResponse (refused r) (responses.Refused text) = text.items ≡ refused_text r
IsResponse (faulty f) (responses.Refused text) = text.items ≡ faulty_text f
IsResponse (played s text) (responses.Played p) = (p.text ≡ text) × HasPlayed s p.stage
IsResponse (threaded s end) (responses.Threaded made) = made ≡ end
IsResponse (shown text) (responses.Shown out) = out ≡ text
IsResponse due response = ⊥
