use Rattle.std.proofs.Common.{Err, ap, ◌∙◌}
use Rattle.tr_session.specs.declared.errors.Stopped.{Stopped}
use Rattle.tr_session.specs.Calls.{change_of_sink}
use Rattle.tr_session.proofs.WritingLemmas.{adds_after, adds_none}
use Rattle.tr_session.proofs.gathering.add_answer.Goals as goal

pub returns-in-Ok-clause-added : goal.returns-in-Ok-clause-added
returns-in-Ok-clause-added g c =
    adds_after (g.K.Sink.written c.args.sink.now) (g.K.Sink.written c.write_waiting.new.sink) (g.K.Sink.written c.write_reply.new.sink)
    c.args.waiting.now.items c.args.reply.now c.write_waiting.new.waiting.items c.write_reply.result c.in-Ok.ensures.written c.in-Ok.ensures.empty
    c.write_reply.ensures.written

pub returns-in-Err-clause-added : goal.returns-in-Err-clause-added
returns-in-Err-clause-added g c =
    adds_none c.args.waiting.now.items c.args.reply.now c.write_waiting.new.waiting.items c.in-Err.e
    (change_of_sink g.K.Sink c.args.sink.now c.write_waiting.new.sink) (λ lost. c.write_waiting.ensures.memory (c.in-Err.is ∙ ap (λ (e : Stopped). Err e) lost))
    c.in-Err.ensures.written
