use Rattle.std.proofs.Common.{◌≡◌, take}
use Rattle.tr_stage.proofs.CountLemmas.{count_in}
use Rattle.tr_stage.proofs.counts.count_columns.Given as goal

abbrev pub invariant-loop-rect : goal.invariant-loop-rect
invariant-loop-rect l = l.count ≡ count_in (take l.rect-index l.rects) l.a l.b
