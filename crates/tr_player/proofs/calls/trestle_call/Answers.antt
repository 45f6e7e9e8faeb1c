use Rattle.tr_arguments.specs.Commands.{command_of, texts_of}
use Rattle.tr_player.specs.Answers.{IsAnswered, sink_change, source_change}
use Rattle.tr_player.proofs.CallLemmas.{all_played, answers, differs_only, faulty_exactly, faulty_written, nothing_written, number_allowed, number_played, played_again, prefix_written, read_fault_due, read_fault_written, read_through, read_to_end, refused_exactly, refused_written, script_played, script_read_back, script_written, stage_exactly, status_due, stream_shown, threads_played, usage_due, usage_written, write_fault_due}
use Rattle.tr_player.proofs.calls.trestle_call.Goals as goal

-- all of it at once; each other clause follows
pub returns : goal.returns
returns g c =
    let asked = command_of (texts_of c.args.words.now) in
    let from = source_change g.S.Source c.args.source.now c.response_by_threads-response.new.source in
    let to = sink_change g.K.Sink c.args.sink.now c.answer.new.sink in
    let found = c.response_by_threads-response.ensures in
    let answered : IsAnswered asked from c.answer.result to =
    answers asked from c.answer.result to c.response_by_threads-response.result found.due c.answer.ensures.ok c.answer.ensures.err
    (λ none. let unread = found.unread none in record { left = unread.0; faults = unread.1 }) in
    record {
      statuses = status_due _ _ _ _ answered;
      rising = (found.rising, c.answer.ensures.rising);
      answered = answered;
      usage = usage_due _ _ _ _ answered;
      usage_text = usage_written _ _ _ _ answered;
      unread = found.unread;
      read_fault = read_fault_due _ _ _ _ answered;
      read_fault_text = read_fault_written _ _ _ _ answered;
      refused = refused_exactly _ _ _ _ answered;
      refused_text = refused_written _ _ _ _ answered;
      never_refused = number_allowed _ _ _ _ answered;
      faulty = faulty_exactly _ _ _ _ answered;
      faulty_text = faulty_written _ _ _ _ answered;
      read_through = read_through _ _ _ _ answered;
      read_to_end = read_to_end _ _ _ _ answered;
      output = script_written _ _ _ _ answered;
      stage = script_played _ _ _ _ answered;
      summed_up = number_played _ _ _ _ answered;
      shown = stream_shown _ _ _ _ answered;
      read_back = script_read_back _ _ _ _ answered;
      threads = threads_played _ _ _ _ answered;
      again = played_again _ _ _ _ answered;
      differs = differs_only _ _ _ _ answered;
      has_stage = stage_exactly _ _ _ _ answered;
      write_fault = write_fault_due _ _ _ _ answered;
      prefix = prefix_written _ _ _ _ answered;
      no_memory = nothing_written _ _ _ _ answered;
      complete = all_played _ _ _ _ answered;
    }
