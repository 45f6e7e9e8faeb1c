use Rattle.std.proofs.Common.{get_or}
use Rattle.tr_base.specs.Ops.{resolved}
use Rattle.tr_kernel.proofs.DoneLemmas.{IsDoneTo}
use Rattle.tr_exec.proofs.strokes.resolve_row.Given as goal

abbrev pub invariant-loop-pixel : goal.invariant-loop-pixel
invariant-loop-pixel l = IsDoneTo (λ k. resolved l.kind (get_or l.fn.pixels k 0)) l.fn.pixels l.pixels l.pixel-index
