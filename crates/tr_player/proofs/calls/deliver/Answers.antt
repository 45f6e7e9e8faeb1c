use Rattle.std.proofs.Common.{Err, ap, ◌∙◌, inl, inr}
use Rattle.tr_output.specs.declared.errors.WriteRefused.{WriteRefused}
use Rattle.tr_player.proofs.ResponseLemmas.{due_grew, due_prefix}
use Rattle.tr_player.proofs.calls.deliver.Goals as goal

pub returns-in-Ok-clause-delivered : goal.returns-in-Ok-clause-delivered
returns-in-Ok-clause-delivered g c = λ due is.
    let done = c.done.ensures in
    let grew = due_grew g.K.Sink c.args.sink.now c.write_to.new.sink due c.args.response is c.in-Ok.ensures.ok in
    inl (done.status due is, done.stage due is, grew, done.differs due is)

pub returns-in-Err-NoMemory-clause-delivered : goal.returns-in-Err-NoMemory-clause-delivered
returns-in-Err-NoMemory-clause-delivered g c = λ due is.
    let undone = c.undone.ensures in
    let refused = c.in-Err-NoMemory.is ∙ ap (λ (e : WriteRefused). Err e) c.in-Err-NoMemory.field-0-is in
    inr (inr (undone.status, undone.stage, c.write_to.ensures.no_memory refused, undone.differs))

pub returns-in-Err-Failed-clause-delivered : goal.returns-in-Err-Failed-clause-delivered
returns-in-Err-Failed-clause-delivered g c = λ due is.
    let undone = c.undone-in-Err-Failed.ensures in
    let refused = c.in-Err-Failed.is ∙ ap (λ (e : WriteRefused). Err e) c.in-Err-Failed.field-0-is in
    let failed = c.write_to.ensures.failed refused in
    let prefix = due_prefix g.K.Sink c.args.sink.now c.write_to.new.sink due c.args.response is failed.1 in
    inr (inl (undone.status, undone.stage, failed.0, prefix, undone.differs))
