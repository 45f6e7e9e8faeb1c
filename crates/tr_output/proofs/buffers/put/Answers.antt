use Rattle.tr_output.proofs.SendingLemmas.{on_ok_both, on_err_both, sends_past, sends_twice, stopped_later, stopped_more, stopped_past}
use Rattle.tr_base.proofs.ResultFacts.{on_err}
use Rattle.tr_output.proofs.buffers.put.Goals as goal

pub returns-in_err-flush-clause-err : goal.returns-in_err-flush-clause-err
returns-in_err-flush-clause-err g c =
    on_err c.from_residual.result (stopped_more g.K.Sink c.args.more.now c.in_err-flush.ensures.err)

pub returns-clause-ok : goal.returns-clause-ok
returns-clause-ok g c =
    let e = c.in_ok-flush.ensures in
    let past = sends_past g.K.Sink c.flush.new.sink c.write_all.new.sink c.flush.new.bytes.items c.args.more.now e.empty in
    on_ok_both c.write_all.result (λ grew room. sends_twice g.K.Sink e.ok (past grew room)) c.write_all.ensures.ok c.write_all.ensures.room

pub returns-clause-err : goal.returns-clause-err
returns-clause-err g c =
    let e = c.in_ok-flush.ensures in
    let past = stopped_past g.K.Sink c.flush.new.sink c.write_all.new.sink c.flush.new.bytes.items c.args.more.now e.empty in
    on_err_both c.write_all.result (λ front failed. stopped_later g.K.Sink e.ok e.rising (past front failed))
    c.write_all.ensures.err
    c.write_all.ensures.failed
