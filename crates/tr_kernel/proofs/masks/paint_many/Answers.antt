use Rattle.std.proofs.Common.{◌+◌, ◌-◌, ◌*◌, length, get_or, arith, ◌∙◌}
use Rattle.std.proofs.lemmas.Simd.{get_or-chunk}
use Rattle.tr_kernel.specs.Steps.{stepped_by}
use Rattle.tr_kernel.proofs.LaneLemmas.{lanes_painted}
use Rattle.tr_kernel.proofs.DoneLemmas.{many_done}
use Rattle.tr_kernel.proofs.masks.paint_many.Goals as goal

pub loop-chunk-preserved : goal.loop-chunk-preserved
loop-chunk-preserved g c =
    let old = c.args.row.now in
    let bit = g.P.Pattern.bit_for c.args.pattern.now in
    let at = c.loop-chunk.chunk * 16 in
    let ys = c.lanes.result in
    let long = c.lanes.ensures.lanes in
    let painted =
    lanes_painted c.args.steps bit old c.whole_bits_at-bits.result _ ys at c.lanes.ensures.each
    c.whole_bits_at-bits.ensures.bits
    (λ k lt. get_or-chunk at 16 c.loop-chunk.row k 0 lt ∙ c.loop-chunk.invariant.left (at + k) (omega arith)) in
    many_done (λ k. stepped_by c.args.steps (bit k) (get_or old k 0)) old c.loop-chunk.row at c.loop-chunk.invariant at ys ((c.loop-chunk.chunk + 1) * 16)
    (omega arith) (omega arith) (omega arith) (omega arith) (λ j lt. painted j (omega arith))

pub returns : goal.returns
returns g c =
    let old = c.args.row.now in
    let bit = g.P.Pattern.bit_for c.args.pattern.now in
    let start = length old - 16 in
    let ys = c.lanes-last.result in
    let long = c.lanes-last.ensures.lanes in
    let painted =
    lanes_painted c.args.steps bit old c.bits_at-last_bits.result _ ys start c.lanes-last.ensures.each
    (λ k lt. c.bits_at-last_bits.ensures.bits k lt (c.requires.reached (start + k) (omega arith)))
    (λ k lt. get_or-chunk start 16 old k 0 lt) in
    let whole =
    many_done (λ k. stepped_by c.args.steps (bit k) (get_or old k 0)) old c.loop-chunk.row (c.loop-chunk.chunk * 16) c.loop-chunk.invariant start ys
    (length old)
    (omega arith) (omega arith) (omega arith) (omega arith) (λ j lt. painted j (omega arith)) in
    whole.done
