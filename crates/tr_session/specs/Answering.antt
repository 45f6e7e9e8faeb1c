-- Private contracts alone cite this file.
-- The parts of an answer.
use Rattle.std.specs.Prelude.{◌≡◌, ⊤, ℕ, Bool, true, false, List, [], Option, Some, None, Result, Ok, Err, if◌then◌else◌}
use Rattle.tr_grammar.specs.declared.Code.{Code}
use Rattle.tr_grammar.specs.declared.Place.TheVariants.{Ended}
use Rattle.tr_grammar.specs.States.{SoFar}
use Rattle.tr_grammar.specs.declared.Meaning.{Meaning}
use Rattle.tr_grammar.specs.declared.Meaning.TheVariants as meanings
use Rattle.tr_session.specs.declared.errors.Lost.{Lost}
use Rattle.tr_session.specs.declared.errors.Unanswered.{Unanswered}
use Rattle.tr_session.specs.declared.errors.Unanswered.TheVariants as unanswered
use Rattle.tr_session.specs.declared.sorts.LineSort.{LineSort}
use Rattle.tr_session.specs.declared.sorts.LineSort.TheVariants as sorts
use Rattle.tr_session.specs.Answers.{Answer, DiffersByScreen, refused, text, no_memory, answer_bytes, due_of_line, after_script_line}
use Rattle.tr_session.specs.Lines.{fault_of_line}
use Rattle.tr_session.specs.Sessions.{SessionView, script_so_far}

-- the sort of a meaning
abbrev pub meaning_sort : Option Meaning → LineSort
meaning_sort (Some (meanings.Step actor step)) = sorts.Step
meaning_sort (Some meanings.Sync) = sorts.Sync
meaning_sort (Some (meanings.Report query)) = sorts.Report
meaning_sort (Some meanings.End) = sorts.End
meaning_sort said = sorts.Nothing

-- a script has a sync between a step and this line
abbrev pub sort_ends_steps : LineSort → Bool
sort_ends_steps sorts.Report = true
sort_ends_steps sorts.End = true
sort_ends_steps t = false

-- whether the last line that isn't silent makes a step, with this line
abbrev pub behind_sort : LineSort → Bool → Bool
behind_sort sorts.Nothing before = before
behind_sort sorts.Step before = true
behind_sort t before = false

-- the line is the end
abbrev pub is_end : LineSort → Bool
is_end sorts.End = true
is_end t = false

-- the reader's script so far, or the same after the end
abbrev pub tried_by : SoFar → Bool → SoFar
tried_by c ended = if ended then record c { place = Ended } else c

-- the fault that a line without an answer has, if memory didn't run out
abbrev pub ClaimsFault : Option Code → Unanswered → Type 0
ClaimsFault fault (unanswered.Fault code) = fault ≡ Some code
ClaimsFault fault unanswered.NoMemory = ⊤
ClaimsFault fault unanswered.Lost = ⊥

-- the reply has the bytes of this answer, or the answer is a refusal; unless memory ran out
abbrev pub RepliesWith : Answer → List ℕ → Result Unit Unanswered → Type 0
RepliesWith answer bytes (Ok done) = bytes ≡ answer_bytes answer
RepliesWith answer bytes (Err (unanswered.Fault code)) = answer ≡ refused code
RepliesWith answer bytes (Err unanswered.NoMemory) = ⊤
RepliesWith answer bytes (Err unanswered.Lost) = ⊥

-- a line of the script was answered, or it has a fault, or memory ran out; only a line without a fault can lose the session
abbrev pub Takes : SessionView → List ℕ → List ℕ → Result Unit Unanswered → SessionView → Type 0
Takes s line bytes (Ok done) t =
    (fault_of_line (script_so_far s) line ≡ None) × (bytes ≡ answer_bytes (due_of_line s line None))
    × (t ≡ after_script_line s line None t.screen)
Takes s line bytes (Err (unanswered.Fault code)) t = (fault_of_line (script_so_far s) line ≡ Some code) × (t ≡ s)
Takes s line bytes (Err unanswered.NoMemory) t = DiffersByScreen s t
Takes s line bytes (Err unanswered.Lost) t = fault_of_line (script_so_far s) line ≡ None

-- the reply has the text of a line that was played: the outcome of its step, its report, or nothing
abbrev pub Tells : LineSort → List ℕ → List ℕ → List ℕ → Result Unit Unanswered → Type 0
Tells sorts.Step outcome report bytes (Ok done) = bytes ≡ answer_bytes (text outcome)
Tells sorts.Sync outcome report bytes (Ok done) = bytes ≡ answer_bytes (text outcome)
Tells sorts.Report outcome report bytes (Ok done) = bytes ≡ answer_bytes (text report)
Tells t outcome report bytes (Ok done) = bytes ≡ answer_bytes (text [])
Tells t outcome report bytes (Err e) = e ≡ unanswered.Lost

-- the reply to a refusal; an answer stays
abbrev pub TellsRefusal : Result Unit Unanswered → List ℕ → List ℕ → Result Unit Lost → Type 0
TellsRefusal (Ok done) old new result = (new ≡ old) × (result ≡ Ok tt)
TellsRefusal (Err (unanswered.Fault code)) old new result = (new ≡ answer_bytes (refused code)) × (result ≡ Ok tt)
TellsRefusal (Err unanswered.NoMemory) old new result = (new ≡ answer_bytes no_memory) × (result ≡ Ok tt)
TellsRefusal (Err unanswered.Lost) old new result = result ≡ Err (record {})
