use Rattle.std.proofs.Common.{[], ◌++◌, ◌≤◌, ℕ, List, arith, append-nil}
use Rattle.std.proofs.lemmas.Result.{on_err_weaker}
use Rattle.tr_base.proofs.ResultFacts.{on_err}
use Rattle.tr_output.specs.Pieces.{pieces_text}
use Rattle.tr_output.specs.Sending.{HasStopped}
use Rattle.tr_output.proofs.SendingLemmas.{front_of, sends_twice, stopped_later, stopped_more}
use Rattle.tr_output.proofs.buffers.write_pieces.Goals as goal

pub returns-in_err-put_pieces-clause-err : goal.returns-in_err-put_pieces-clause-err
returns-in_err-put_pieces-clause-err g c =
    on_err c.from_residual.result
    (front_of g.K.Sink c.requires.fresh.bytes (stopped_more g.K.Sink c.args.tail.now c.in_err-put_pieces.ensures.err))

pub returns-in_err-put-clause-err : goal.returns-in_err-put-clause-err
returns-in_err-put-clause-err g c =
    let e = c.in_ok-put_pieces.ensures in
    on_err c.from_residual-in_err-put.result
    (front_of g.K.Sink c.requires.fresh.bytes (stopped_later g.K.Sink e.ok e.rising c.in_err-put.ensures.err))

pub returns-clause-err : goal.returns-clause-err
returns-clause-err g c =
    let text : List ℕ = pieces_text c.args.pixels.now c.args.pieces.now ++ c.args.tail.now in
    let e = c.in_ok-put_pieces.ensures in
    let f = c.in_ok-put.ensures in
    let sent = sends_twice g.K.Sink e.ok f.ok in
    let rising : g.K.Sink.faults c.args.sink.now ≤ g.K.Sink.faults c.put.new.sink = omega (arith, e.rising, f.rising) in
    on_err_weaker c.flush.result
    (λ (stopped : HasStopped g.K.Sink c.put.new.sink c.flush.new.sink c.put.new.bytes.items []). rw (append-nil text) at
    (front_of g.K.Sink c.requires.fresh.bytes (stopped_later g.K.Sink sent rising stopped)))
    c.flush.ensures.err
