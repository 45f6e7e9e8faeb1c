use Rattle.memchr.specs.Find.{Nowhere, Passes, is_byte}
use Rattle.tr_words.proofs.lanes.near_space.Given as goal

abbrev pub invariant-loop-at : goal.invariant-loop-at
invariant-loop-at l = Nowhere (Passes (is_byte 32) l.text) 0 l.at
