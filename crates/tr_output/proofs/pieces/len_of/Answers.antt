use Rattle.tr_output.proofs.PieceLemmas.{row_long}
use Rattle.tr_output.proofs.pieces.len_of.Goals as goal

pub returns-in-Row : goal.returns-in-Row
returns-in-Row c pixels many =
    row_long pixels c.args.many c.in-Row.start c.in-Row.wide c.args.piece.now c.in-Row.is c.requires many
