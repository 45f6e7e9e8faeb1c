use Rattle.std.proofs.Common.{get_or, ap, ◌∙◌, arith}
use Rattle.tr_base.specs.Ops.{resolved}
use Rattle.tr_kernel.proofs.DoneLemmas.{one_done}
use Rattle.tr_exec.proofs.strokes.resolve_row.Goals as goal

pub loop-pixel-preserved : goal.loop-pixel-preserved
loop-pixel-preserved c =
    let f = resolved c.args.kind in
    let old = c.args.pixels.now in
    let i = c.loop-pixel.pixel-index in
    one_done (λ k. f (get_or old k 0)) old c.loop-pixel.pixels i c.loop-pixel.invariant c.resolved.result (omega arith)
    (c.resolved.ensures ∙ ap f (c.loop-pixel.invariant.left i (omega arith)))
