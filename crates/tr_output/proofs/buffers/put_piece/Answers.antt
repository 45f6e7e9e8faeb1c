use Rattle.std.proofs.Common.{length, refl, arith}
use Rattle.tr_output.proofs.PieceLemmas.{row_long}
use Rattle.tr_output.proofs.buffers.put_piece.Goals as goal

pub put_row-requires-clause-room : goal.put_row-requires-clause-room
put_row-requires-clause-room g c =
    omega (
      arith,
      c.requires.room,
      row_long c.args.pixels.now (length c.args.pixels.now) c.in-Row.start c.in-Row.wide c.args.piece.now c.in-Row.is c.requires.within refl,
    )
