use Rattle.tr_output.proofs.SendingLemmas.{sends_all, stopped_all}
use Rattle.tr_base.proofs.ResultFacts.{on_err}
use Rattle.tr_output.proofs.buffers.flush.Goals as goal

pub returns-clause-ok : goal.returns-clause-ok
returns-clause-ok g c =
    let grew = rw c.deref.ensures.value at c.in_ok-write_all.ensures.ok in
    let room = rw c.deref.ensures.value at c.in_ok-write_all.ensures.room in
    rw c.clear.ensures.items (sends_all g.K.Sink c.args.sink.now c.write_all.new.sink c.args.bytes.now.items grew room)

pub returns-in_err-write_all-clause-err : goal.returns-in_err-write_all-clause-err
returns-in_err-write_all-clause-err g c =
    let front = rw c.deref.ensures.value at c.in_err-write_all.ensures.err in
    on_err c.from_residual.result
    (stopped_all g.K.Sink c.args.sink.now c.write_all.new.sink c.args.bytes.now.items front c.in_err-write_all.ensures.failed)
