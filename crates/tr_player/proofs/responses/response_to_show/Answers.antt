use Rattle.std.proofs.Common.{refl}
use Rattle.tr_player.specs.Answers.{shown}
use Rattle.tr_player.proofs.ResponseLemmas.{faulty_due}
use Rattle.tr_player.proofs.responses.response_to_show.Goals as goal

pub returns-in-Ok : goal.returns-in-Ok
returns-in-Ok c = (shown c.in-Ok.text, refl, (c.in-Ok.ensures.valid, c.in-Ok.ensures.text))

pub returns-in-Err-Fault : goal.returns-in-Err-Fault
returns-in-Err-Fault c =
    let cause = rw c.in-Err-Fault.field-0-is at c.in-Err-Fault.ensures.cause in
    faulty_due c.args.bytes.now c.in-Err-Fault.fault c.stream_refusal.result cause c.stream_refusal.ensures
