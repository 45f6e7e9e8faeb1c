use Rattle.std.proofs.Common.{◌≡◌, ◌≢◌, ◌⊎◌, ◌↔◌, ℕ, refl, sym, ◌∙◌, subst, inl}
use Rattle.std.specs.Prelude.{None, IsSome, IsSomeAnd}
use Rattle.std.specs.Process.{exit_status}
use Rattle.tr_io.specs.Faults.{HasFault}
use Rattle.tr_io.specs.Streams.{Grew}
use Rattle.tr_arguments.specs.Commands.{command_of, texts_of}
use Rattle.tr_grammar.specs.Scripts.{script_of}
use Rattle.tr_serial.specs.Outputs.{gen_text, drawn}
use Rattle.tr_mirror.specs.Readings.{first_fault}
use Rattle.tr_show.specs.Shows.{shown_text}
use Rattle.tr_player.specs.Answers.{HasPlayed, IsAllowed, OfNumber, OfOneThread, OfScriptRead, OfStreamRead, OfThreads, Yields, refusal_for, sink_change, text_for}
use Rattle.tr_player.proofs.CallLemmas.{threads_written}
use Rattle.trestle.specs.Arguments.{heard}
use Rattle.trestle.specs.Runs.{IsPrinted}
use Rattle.trestle.proofs.ArgumentLemmas.{first_of_number, of_any, of_heard}
use Rattle.trestle.proofs.runs.run.Goals as goal

-- ---- with arguments: what the call answers

pub returns-in-Ok-after_name-clause-answered : goal.returns-in-Ok-after_name-clause-answered
returns-in-Ok-after_name-clause-answered g c =
    of_heard _ c.args.all c.in-Ok.all c.deref.result.now c.in-Ok.is (c.deref.ensures.value ∙ c.in-Ok-after_name.ensures)
    (c.trestle_call-outcome.result, sym (c.from.ensures ∙ c.end.ensures), c.trestle_call-outcome.ensures.answered)

pub returns-in-Ok-after_name-clause-usage : goal.returns-in-Ok-after_name-clause-usage
returns-in-Ok-after_name-clause-usage g c =
    let status : exit_status c.from.result ≡ c.trestle_call-outcome.result.status = c.from.ensures ∙ c.end.ensures in
    of_heard (λ words. Yields (exit_status c.from.result) ((exit_status c.from.result ≡ 2) ↔ (command_of words ≡ None))) c.args.all c.in-Ok.all
    c.deref.result.now c.in-Ok.is (c.deref.ensures.value ∙ c.in-Ok-after_name.ensures)
    (subst (λ (n : ℕ). Yields n ((n ≡ 2) ↔ (command_of (texts_of c.deref.result.now) ≡ None))) (sym status) c.trestle_call-outcome.ensures.usage)

pub returns-in-Ok-after_name-clause-refused : goal.returns-in-Ok-after_name-clause-refused
returns-in-Ok-after_name-clause-refused g c =
    let status : exit_status c.from.result ≡ c.trestle_call-outcome.result.status = c.from.ensures ∙ c.end.ensures in
    let left = g.S.Source.left c.args.source.now in
    of_heard (λ words. Yields (exit_status c.from.result) (exit_status c.from.result ≢ 4 → OfScriptRead (command_of words) left
    (λ command bytes. (exit_status c.from.result ≡ 3) ↔ IsSome (refusal_for command bytes)))) c.args.all c.in-Ok.all
    c.deref.result.now c.in-Ok.is (c.deref.ensures.value ∙ c.in-Ok-after_name.ensures)
    (subst (λ (n : ℕ). Yields n (n ≢ 4 → OfScriptRead (command_of (texts_of c.deref.result.now)) left
    (λ command bytes. (n ≡ 3) ↔ IsSome (refusal_for command bytes)))) (sym status) c.trestle_call-outcome.ensures.refused)

pub returns-in-Ok-after_name-clause-output : goal.returns-in-Ok-after_name-clause-output
returns-in-Ok-after_name-clause-output g c =
    let left = g.S.Source.left c.args.source.now in
    let was = g.K.Sink.written c.args.sink.now in
    let now = g.K.Sink.written c.trestle_call-outcome.new.sink in
    of_heard (λ words. exit_status c.from.result ≡ 0 → OfOneThread (command_of words) left
    (λ command bytes. Grew was now (text_for command (script_of bytes)))) c.args.all c.in-Ok.all
    c.deref.result.now c.in-Ok.is (c.deref.ensures.value ∙ c.in-Ok-after_name.ensures)
    (λ e. c.trestle_call-outcome.ensures.output (sym (c.from.ensures ∙ c.end.ensures) ∙ e))

pub returns-in-Ok-after_name-clause-threads : goal.returns-in-Ok-after_name-clause-threads
returns-in-Ok-after_name-clause-threads g c =
    let left = g.S.Source.left c.args.source.now in
    let to = sink_change g.K.Sink c.args.sink.now c.trestle_call-outcome.new.sink in
    of_heard (λ words. exit_status c.from.result ≡ 0 → OfThreads (command_of words) left (λ bytes. IsPrinted (script_of bytes) to)) c.args.all
    c.in-Ok.all c.deref.result.now c.in-Ok.is (c.deref.ensures.value ∙ c.in-Ok-after_name.ensures)
    (λ e. threads_written _ _ _ _ c.trestle_call-outcome.ensures.answered (sym (c.from.ensures ∙ c.end.ensures) ∙ e))

pub returns-in-Ok-after_name-clause-faulty : goal.returns-in-Ok-after_name-clause-faulty
returns-in-Ok-after_name-clause-faulty g c =
    let status : exit_status c.from.result ≡ c.trestle_call-outcome.result.status = c.from.ensures ∙ c.end.ensures in
    let left = g.S.Source.left c.args.source.now in
    of_heard (λ words. Yields (exit_status c.from.result) (exit_status c.from.result ≢ 4 → OfStreamRead (command_of words) left
    (λ bytes. (exit_status c.from.result ≡ 3) ↔ IsSome (first_fault bytes)))) c.args.all c.in-Ok.all
    c.deref.result.now c.in-Ok.is (c.deref.ensures.value ∙ c.in-Ok-after_name.ensures)
    (subst (λ (n : ℕ). Yields n (n ≢ 4 → OfStreamRead (command_of (texts_of c.deref.result.now)) left
    (λ bytes. (n ≡ 3) ↔ IsSome (first_fault bytes)))) (sym status) c.trestle_call-outcome.ensures.faulty)

pub returns-in-Ok-after_name-clause-shown : goal.returns-in-Ok-after_name-clause-shown
returns-in-Ok-after_name-clause-shown g c =
    let left = g.S.Source.left c.args.source.now in
    let was = g.K.Sink.written c.args.sink.now in
    let now = g.K.Sink.written c.trestle_call-outcome.new.sink in
    of_heard (λ words. exit_status c.from.result ≡ 0 → OfStreamRead (command_of words) left
    (λ bytes. Grew was now (shown_text bytes))) c.args.all c.in-Ok.all
    c.deref.result.now c.in-Ok.is (c.deref.ensures.value ∙ c.in-Ok-after_name.ensures)
    (λ e. c.trestle_call-outcome.ensures.shown (sym (c.from.ensures ∙ c.end.ensures) ∙ e))

pub returns-in-Ok-after_name-clause-summed_up : goal.returns-in-Ok-after_name-clause-summed_up
returns-in-Ok-after_name-clause-summed_up g c =
    let was = g.K.Sink.written c.args.sink.now in
    let now = g.K.Sink.written c.trestle_call-outcome.new.sink in
    let writes : ℕ → Type 0 = λ number. Grew was now (gen_text number) in
    let plays : ℕ → Type 0 = λ number. IsSomeAnd c.trestle_call-outcome.result.stage (λ stage. HasPlayed (drawn number) stage) in
    of_heard (λ words. exit_status c.from.result ≡ 0 → OfNumber (command_of words) writes) c.args.all c.in-Ok.all
    c.deref.result.now c.in-Ok.is (c.deref.ensures.value ∙ c.in-Ok-after_name.ensures)
    (λ e. first_of_number (command_of (texts_of c.deref.result.now)) writes plays
    (c.trestle_call-outcome.ensures.summed_up (sym (c.from.ensures ∙ c.end.ensures) ∙ e)))

pub returns-in-Ok-after_name-clause-complete : goal.returns-in-Ok-after_name-clause-complete
returns-in-Ok-after_name-clause-complete g c =
    let left = g.S.Source.left c.args.source.now in
    let reads = HasFault (g.S.Source.faults c.args.source.now) (g.S.Source.faults c.trestle_call-outcome.new.source) in
    let writes = HasFault (g.K.Sink.faults c.args.sink.now) (g.K.Sink.faults c.trestle_call-outcome.new.sink) in
    let ends : ℕ → Type 0 = λ n. (n ≡ 0) ⊎ (n ≡ 6) in
    of_heard (λ words. IsAllowed (command_of words) left → (reads → ⊥) → (writes → ⊥) → ends (exit_status c.from.result)) c.args.all c.in-Ok.all
    c.deref.result.now c.in-Ok.is (c.deref.ensures.value ∙ c.in-Ok-after_name.ensures)
    (λ allowed no_read no_write. subst ends (sym (c.from.ensures ∙ c.end.ensures)) (c.trestle_call-outcome.ensures.complete allowed no_read no_write))

-- ---- memory was wanted for the arguments: nothing is read or written

pub returns-in-Err-after_name-clause-answered : goal.returns-in-Err-after_name-clause-answered
returns-in-Err-after_name-clause-answered g c =
    of_any _ (heard c.args.all) (λ words. (
      record { status = 6; stage = None; differs = None },
      sym (c.from-in-Err-after_name.ensures ∙ c.code.ensures),
      inl (refl, refl, refl, λ _. record { left = refl; faults = refl }, refl),
    ))
