use Rattle.std.proofs.Common.{◌≡◌, ◌^◌, ◌-◌, length, min, take, ap, ◌∙◌, arith}
use Rattle.std.proofs.Math.Seq.{take-length}
use Rattle.tr_output.specs.Pieces.{pieces_text}
use Rattle.tr_output.proofs.PieceLemmas.{len_more}
use Rattle.tr_output.proofs.pieces.len_of_all.Goals as goal

pub loop-piece-preserved : goal.loop-piece-preserved
loop-piece-preserved c pixels many =
    let so_far = c.loop-piece.invariant pixels many in
    let one = c.len_of.ensures pixels many in
    let more = len_more pixels c.args.pieces.now c.loop-piece.piece-index c.piece-item.result (2 ^ 64 - 1) c.loop-piece-test.true c.piece-item.is in
    cc

pub returns : goal.returns
returns c pixels many =
    let end : c.loop-piece.piece-index ≡ length c.args.pieces.now = omega arith in
    c.loop-piece.invariant pixels many
    ∙ ap (λ k. min (length (pieces_text pixels (take k c.args.pieces.now))) (2 ^ 64 - 1)) end
    ∙ ap (λ t. min (length (pieces_text pixels t)) (2 ^ 64 - 1)) (take-length c.args.pieces.now)
