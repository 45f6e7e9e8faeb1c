use Rattle.std.proofs.Common.{◌*◌}
use Rattle.memchr.specs.Find.{Nowhere, Passes, is_byte}
use Rattle.tr_words.proofs.lanes.first_space.Given as goal

abbrev pub invariant-loop-block : goal.invariant-loop-block
invariant-loop-block l = Nowhere (Passes (is_byte 32) l.text) 0 (l.block * 16)
