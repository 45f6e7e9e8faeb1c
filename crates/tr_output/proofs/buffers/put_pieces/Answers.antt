use Rattle.std.proofs.Common.{◌≡◌, ◌<◌, length, vec_len, arith, rules}
use Rattle.tr_base.proofs.ResultFacts.{on_err}
use Rattle.tr_output.proofs.PutLemmas.{piece_room, piece_sent, piece_stopped}
use Rattle.tr_output.proofs.buffers.put_pieces.Goals as goal

pub put_piece-requires-clause-room : goal.put_piece-requires-clause-room
put_piece-requires-clause-room g c =
    let piece = c.index-pieces-index in
    let within : c.loop-index.index < length c.args.pieces.now = omega arith in
    let was : length c.args.buffer.now.bytes.items ≡ vec_len c.args.buffer.now.bytes = search rules in
    let now : length c.loop-index.buffer.bytes.items ≡ vec_len c.loop-index.buffer.bytes = search rules in
    let room = piece_room g.K.Sink c.args.pixels.now c.args.pieces.now c.loop-index.index piece.result
    within piece.is c.loop-index.invariant.sends (omega (arith, was, c.requires.room)) in
    omega (arith, room, now)

pub loop-index-preserved : goal.loop-index-preserved
loop-index-preserved g c =
    let piece = c.index-pieces-index in
    let within : c.loop-index.index < length c.args.pieces.now = omega arith in
    let e = c.in_ok-put_piece.ensures in
    record {
      sends = piece_sent g.K.Sink c.args.pixels.now c.args.pieces.now c.loop-index.index piece.result
          within piece.is c.loop-index.invariant.sends e.ok;
      lines = e.lines;
      count = e.count;
      rising = omega (arith, e.rising, c.loop-index.invariant.rising);
    }

pub returns-in_err-put_piece-clause-err : goal.returns-in_err-put_piece-clause-err
returns-in_err-put_piece-clause-err g c =
    let piece = c.index-pieces-index in
    let within : c.loop-index.index < length c.args.pieces.now = omega arith in
    on_err c.from_residual.result
    (piece_stopped g.K.Sink c.args.pixels.now c.args.pieces.now c.loop-index.index piece.result
    within piece.is c.loop-index.invariant.sends c.loop-index.invariant.rising c.in_err-put_piece.ensures.err)
