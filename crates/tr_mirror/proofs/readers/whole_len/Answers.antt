use Rattle.std.proofs.Common.{◌≤◌, sym, ◌∙◌, arith}
use Rattle.tr_mirror.specs.Headers.{header_len}
use Rattle.tr_mirror.proofs.ReadingLemmas.{record_len-take}
use Rattle.tr_mirror.proofs.readers.whole_len.Goals as goal

pub returns-clause-whole : goal.returns-clause-whole
returns-clause-whole c =
    let len = c.record_len-len.result in
    let behind : header_len c.args.piece.now ≤ len = omega (arith, c.record_len-len.ensures) in
    c.record_len-len.ensures ∙ sym (record_len-take c.args.piece.now len behind (omega arith))
