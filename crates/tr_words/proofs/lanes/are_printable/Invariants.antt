use Rattle.std.proofs.Common.{◌*◌}
use Rattle.tr_words.proofs.LaneLemmas.{PrintableBefore}
use Rattle.tr_words.proofs.lanes.are_printable.Given as goal

abbrev pub invariant-loop-block : goal.invariant-loop-block
invariant-loop-block l = PrintableBefore l.line (l.block * 16)
