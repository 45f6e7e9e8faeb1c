use Rattle.std.proofs.Common.{◌≡◌, ℕ, true, false, List, sym, ap, ◌∙◌, subst, Ok, Err, IfOk, arith}
use Rattle.std.proofs.lemmas.Bool.{false≢true}
use Rattle.tr_journal.specs.declared.Actor.TheVariants as actors
use Rattle.tr_grammar.specs.declared.LineRefused.TheVariants as refused
use Rattle.tr_grammar.specs.declared.Meaning.{Meaning}
use Rattle.tr_grammar.specs.declared.Meaning.TheVariants as meanings
use Rattle.tr_grammar.specs.Texts.{is_silent}
use Rattle.tr_grammar.specs.Words.{words_of}
use Rattle.tr_grammar.specs.Faults.{is_foreign}
use Rattle.tr_grammar.specs.Forms.{forms}
use Rattle.tr_words.specs.Answers.{texts}
use Rattle.tr_script.specs.Reading.{Reads}
use Rattle.tr_script.proofs.InputLemmas.{input_is_own}
use Rattle.tr_script.proofs.LineLemmas.{cut_words}
use Rattle.tr_script.proofs.StepLemmas.{IsLoudStep, IsTaken, not_beyond, beyond, far_taken, plain_taken, silent_taken, words_taken, said_taken, answer_is, taken_is, left_is}
use Rattle.tr_script.proofs.lines.take_step.Goals as goal
use Rattle.tr_script.proofs.lines.take_step.Goals.{After-push_said}

pub returns-then-number-gt-MOST_LINES-clause-answer : goal.returns-then-number-gt-MOST_LINES-clause-answer
returns-then-number-gt-MOST_LINES-clause-answer c =
    (far_taken c.args.reader.now c.args.number c.args.bytes.now c.args.steps.now c.requires (beyond c.args.number (omega arith))).answer

pub returns-in_default-clause-answer : goal.returns-in_default-clause-answer
returns-in_default-clause-answer c =
    (plain_taken c.args.reader.now c.args.number c.args.bytes.now c.args.steps.now c.in_default.ensures.value).answer

silent : (c : goal.Then-is_silent) → IsTaken c.args.reader.now c.args.number c.args.bytes.now c.args.steps.now c.args.steps.now true
silent c =
    let few = not_beyond c.args.number (omega arith) in
    let is = ap is_silent (sym c.in-Some.ensures.value.1) ∙ sym c.is_silent.ensures ∙ c.if-is_silent.true in
    silent_taken c.args.reader.now c.args.number c.args.bytes.now c.args.steps.now c.requires few c.in-Some.ensures.value.0 is

pub returns-then-is_silent-clause-answer : goal.returns-then-is_silent-clause-answer
returns-then-is_silent-clause-answer c = (silent c).answer

pub returns-then-is_silent-clause-taken : goal.returns-then-is_silent-clause-taken
returns-then-is_silent-clause-taken c = (silent c).step

taken : (c : goal.After-take_said) →
    IfOk c.take_said.result (IsTaken c.args.reader.now c.args.number c.args.bytes.now c.args.steps.now c.take_said.new.steps)
taken c =
    let reader = c.args.reader.now in
    let bytes = c.args.bytes.now in
    let m = c.in-Ok.meaning in
    let few = not_beyond c.args.number (omega arith) in
    let is_cut : texts c.deref.result.now ≡ words_of bytes =
    cut_words _ _ _ _ c.deref.ensures.value c.in_ok-words_into-in-None.ensures.ok c.in-Some.ensures.value.1 in
    let told : Reads reader forms (texts c.deref.result.now) (Ok m) = c.in-Ok.ensures in
    let read : Reads reader forms (words_of bytes) (Ok m) = subst (λ (ws : List (List ℕ)). Reads reader forms ws (Ok m)) is_cut told in
    let loud : IsLoudStep reader bytes = record {
      place = c.requires;
      plain = c.in-Some.ensures.value.0;
      loud = ap is_silent (sym c.in-Some.ensures.value.1) ∙ sym c.is_silent.ensures ∙ c.if-is_silent.false;
    } in
    said_taken reader c.args.number bytes m c.args.steps.now c.take_said.new.steps c.take_said.result loud few read c.take_said.ensures.foreign
    c.take_said.ensures.own

pub returns-in-Ok-clause-answer : goal.returns-in-Ok-clause-answer
returns-in-Ok-clause-answer c =
    answer_is c.args.reader.now c.args.number c.args.bytes.now c.args.steps.now c.take_said.new.steps c.take_said.result (taken c)

pub returns-in-Ok-clause-taken : goal.returns-in-Ok-clause-taken
returns-in-Ok-clause-taken c =
    taken_is c.args.reader.now c.args.number c.args.bytes.now c.args.steps.now c.take_said.new.steps c.take_said.result (taken c)

pub returns-in-Ok-clause-left : goal.returns-in-Ok-clause-left
returns-in-Ok-clause-left c =
    left_is c.args.reader.now c.args.number c.args.bytes.now c.args.steps.now c.take_said.new.steps c.take_said.result (taken c)

-- an input device's line makes its step
made : (c : After-push_said) →
    IfOk c.push_said.result (IsTaken c.args.reader.now c.args.number c.args.bytes.now c.args.steps.now c.push_said.new.steps)
made c =
    let reader = c.args.reader.now in
    let bytes = c.args.bytes.now in
    let line = c.in-Some.ensures.value in
    let input = c.in-Some-input_of.input in
    let m : Meaning = meanings.Step actors.Desk c.step_of-step.result in
    let few = not_beyond c.args.number (omega arith) in
    let told : Reads reader forms (words_of c.in-Some.line.now) (Ok m) = rw c.step_of-step.ensures c.in-Some-input_of.ensures in
    let read : Reads reader forms (words_of bytes) (Ok m) =
    subst (λ (l : List ℕ). Reads reader forms (words_of l) (Ok m)) line.1 told in
    let own : is_foreign reader m ≡ false = rw c.step_of-step.ensures (input_is_own reader input) in
    let loud : IsLoudStep reader bytes = record {
      place = c.requires;
      plain = line.0;
      loud = ap is_silent (sym line.1) ∙ sym c.is_silent.ensures ∙ c.if-is_silent.false;
    } in
    said_taken reader c.args.number bytes m c.args.steps.now c.push_said.new.steps c.push_said.result loud few read
    (λ foreign. absurd (false≢true (sym own ∙ foreign))) (λ _. c.push_said.ensures.ok)

pub returns-in-Some-input_of-clause-answer : goal.returns-in-Some-input_of-clause-answer
returns-in-Some-input_of-clause-answer c =
    answer_is c.args.reader.now c.args.number c.args.bytes.now c.args.steps.now c.push_said.new.steps c.push_said.result (made c)

pub returns-in-Some-input_of-clause-taken : goal.returns-in-Some-input_of-clause-taken
returns-in-Some-input_of-clause-taken c =
    taken_is c.args.reader.now c.args.number c.args.bytes.now c.args.steps.now c.push_said.new.steps c.push_said.result (made c)

pub returns-in-Err-Fault-clause-answer : goal.returns-in-Err-Fault-clause-answer
returns-in-Err-Fault-clause-answer c =
    let reader = c.args.reader.now in
    let bytes = c.args.bytes.now in
    let e = c.in-Err-Fault.field-0-0 in
    let is_cut : texts c.deref.result.now ≡ words_of bytes =
    cut_words _ _ _ _ c.deref.ensures.value c.in_ok-words_into-in-None.ensures.ok c.in-Some.ensures.value.1 in
    let answer = Err (refused.Fault e) in
    let told : Reads reader forms (texts c.deref.result.now) answer = rw c.in-Err-Fault.field-0-is at c.in-Err-Fault.ensures in
    let read : Reads reader forms (words_of bytes) answer = subst (λ (ws : List (List ℕ)). Reads reader forms ws answer) is_cut told in
    let loud : IsLoudStep reader bytes = record {
      place = c.requires;
      plain = c.in-Some.ensures.value.0;
      loud = ap is_silent (sym c.in-Some.ensures.value.1) ∙ sym c.is_silent.ensures ∙ c.if-is_silent.false;
    } in
    (words_taken reader c.args.number bytes c.args.steps.now e loud read).answer
