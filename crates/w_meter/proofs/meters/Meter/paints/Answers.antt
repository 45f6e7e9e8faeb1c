use Rattle.std.proofs.Common.{◌≡◌, take, length, ap, ◌∙◌, arith}
use Rattle.std.proofs.Math.Seq.{take-length}
use Rattle.w_meter.specs.MeterLaws.{bar_pushed, no_bars}
use Rattle.w_meter.proofs.meters.Meter.paints.Goals as goal

pub loop-bar-init : goal.loop-bar-init
loop-bar-init c = λ look.
    rw (c.in_ok-push.ensures.ok, c.new-batch.ensures) (no_bars look c.args.size c.args.part.now c.deref-height-items.result.now)

pub loop-bar-preserved : goal.loop-bar-preserved
loop-bar-preserved c = λ look.
    rw (c.in_ok-push-2.ensures.ok, c.bar_rows.ensures.edges)
    (bar_pushed look c.args.size c.args.part.now c.loop-bar.batch c.deref-height-items.result.now c.loop-bar.bar c.requires.part c.loop-bar-test.true
    (c.loop-bar.invariant look))

pub returns : goal.returns
returns c = λ look.
    let heights = c.deref-height-items.result.now in
    let done : c.loop-bar.bar ≡ length heights = omega arith in
    let all : take c.loop-bar.bar heights ≡ c.args.self.now =
    ap (λ n. take n heights) done ∙ take-length heights ∙ c.deref-height-items.ensures.value ∙ c.self.view_is in
    rw all at (c.loop-bar.invariant look)
