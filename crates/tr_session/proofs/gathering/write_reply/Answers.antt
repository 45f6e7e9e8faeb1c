use Rattle.std.proofs.Common.{List, ℕ, Err, ap, subst, ◌∙◌}
use Rattle.tr_session.specs.declared.errors.Stopped.{Stopped}
use Rattle.tr_session.specs.Calls.{change_of_sink}
use Rattle.tr_session.specs.Turns.{Writes}
use Rattle.tr_session.proofs.WritingLemmas.{writes_both, writes_first}
use Rattle.tr_session.proofs.gathering.write_reply.Goals as goal

pub returns-in-Ok-clause-written : goal.returns-in-Ok-clause-written
returns-in-Ok-clause-written g c =
    let x = g.K.Sink.written c.args.sink.now in
    let y = g.K.Sink.written c.reserve.new.self in
    let w = g.K.Sink.written c.write_piece.new.sink in
    let z = g.K.Sink.written c.write_piece-in-Ok.new.sink in
    subst (λ (t : List ℕ). Writes t c.write_piece-in-Ok.result (change_of_sink g.K.Sink c.args.sink.now c.write_piece-in-Ok.new.sink)) c.pieces.ensures
    (writes_both x y w z c.pieces.result.0.now c.pieces.result.1.now c.write_piece-in-Ok.result c.in_ok-reserve.ensures.unchanged c.in-Ok.ensures.written
    c.write_piece-in-Ok.ensures.memory c.write_piece-in-Ok.ensures.written)

pub returns-in-Err-clause-written : goal.returns-in-Err-clause-written
returns-in-Err-clause-written g c =
    let x = g.K.Sink.written c.args.sink.now in
    let y = g.K.Sink.written c.reserve.new.self in
    let z = g.K.Sink.written c.write_piece.new.sink in
    subst (λ (t : List ℕ). Writes t (Err c.in-Err.e) (change_of_sink g.K.Sink c.args.sink.now c.write_piece.new.sink)) c.pieces.ensures
    (writes_first x y z c.pieces.result.0.now c.pieces.result.1.now c.in-Err.e c.in_ok-reserve.ensures.unchanged
    (λ lost. c.write_piece.ensures.memory (c.in-Err.is ∙ ap (λ (e : Stopped). Err e) lost))
    c.in-Err.ensures.written)
