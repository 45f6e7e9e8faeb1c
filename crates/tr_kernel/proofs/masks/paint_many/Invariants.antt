use Rattle.std.proofs.Common.{◌*◌, get_or}
use Rattle.tr_kernel.specs.Steps.{stepped_by}
use Rattle.tr_kernel.proofs.DoneLemmas.{IsDoneTo}
use Rattle.tr_kernel.proofs.masks.paint_many.Given as goal

abbrev pub invariant-loop-chunk : goal.invariant-loop-chunk
invariant-loop-chunk g l = IsDoneTo (λ k. stepped_by l.steps (g.P.Pattern.bit_for l.pattern k) (get_or l.fn.row k 0)) l.fn.row l.row (l.chunk * 16)
