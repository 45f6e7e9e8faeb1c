use Rattle.std.proofs.Common.{◌≡◌, ℕ, List, ◌+◌, ◌∷◌, [], ◌++◌, take, length, sym, ap, ◌∙◌, arith}
use Rattle.std.proofs.Math.Seq.{take-length}
use Rattle.std.proofs.lemmas.List.{take_more, length-take}
use Rattle.tr_client.proofs.LineLemmas.{cleared_painting, line_pushed}
use Rattle.tr_client.proofs.lines.paint_lines.Goals as goal

pub loop-above-init : goal.loop-above-init
loop-above-init c = λ look. rw (c.reserve.ensures, c.in_ok-batch.ensures) (cleared_painting look c.args.part)

pub loop-above-preserved : goal.loop-above-preserved
loop-above-preserved c = λ look.
    let lines = c.args.lines.now in
    let above = c.loop-above.above in
    let line = c.index-lines-above.result in
    let more : take (above + 1) lines ≡ take above lines ++ line ∷ [] =
    take_more lines above line c.loop-above-test.true ∙ ap (λ (last : List ℕ). take above lines ++ last ∷ []) (sym c.index-lines-above.is) in
    let count : above ≡ length (take above lines) = omega (arith, length-take above lines) in
    rw (more, c.in_ok-push.ensures.ok, c.in_ok-copy.ensures, c.begin_of.ensures.value)
    (line_pushed look c.args.part c.loop-above.batch (take above lines) line above count (c.loop-above.invariant look))

pub returns : goal.returns
returns c = λ look.
    let done : c.loop-above.above ≡ length c.args.lines.now = omega arith in
    rw (← take-length c.args.lines.now, ← done) (c.loop-above.invariant look)
