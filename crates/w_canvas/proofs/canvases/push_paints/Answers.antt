use Rattle.std.proofs.Common.{rules, ◌≡◌, ◌+◌, ◌∷◌, ◌++◌, [], take, length, refl, ap, sym, ◌∙◌}
use Rattle.std.proofs.lemmas.List.{take_more}
use Rattle.std.proofs.Math.Seq.{take-append_seam}
use Rattle.tr_base.specs.Rects.{meet_of}
use Rattle.tr_paint.proofs.NearLemmas.{near-meet}
use Rattle.w_canvas.specs.Canvases.{canvas_paints}
use Rattle.w_canvas.proofs.FigureLemmas.{pushed_more, skipped_more}
use Rattle.w_canvas.proofs.canvases.push_paints.Goals as goal
use Rattle.w_canvas.proofs.canvases.push_paints.Goals.{then-not-is_empty+in_ok-push-2, else-not-is_empty}

pub push-requires-then-not-is_empty : goal.push-requires-then-not-is_empty
push-requires-then-not-is_empty c = rw c.meet-clip.ensures.edges (near-meet _ _ c.requires)

pub loop-figure-preserved : goal.loop-figure-preserved
loop-figure-preserved c =
    let figures = c.args.figures.now in
    let figure = c.figure-item.result in
    let i = c.loop-figure.figure-index in
    let more : take (i + 1) figures ≡ take i figures ++ figure ∷ [] =
    take_more figures i figure c.loop-figure-test.true ∙ ap (λ f. take i figures ++ f ∷ []) (sym c.figure-item.is) in
    let is = c.meet-clip.ensures.edges ∙ ap (meet_of c.args.part.now) c.rect.ensures.value in
    elim c.if-not-is_empty.branch [
      | then-not-is_empty+in_ok-push-2 w ↦
          pushed_more c.args.part.now c.meet-clip.result figures i figure c.args.batch.now c.loop-figure.batch c.if-not-is_empty.batch more is
          c.loop-figure.invariant (w.batch-is ∙ w.in_ok-push-2.ensures.ok)
      | else-not-is_empty w ↦
          skipped_more c.args.part.now c.meet-clip.result figures i figure c.args.batch.now c.if-not-is_empty.batch more is
          (w.if-not-is_empty.ensures.value.0 refl) (w.batch-is ∙ c.loop-figure.invariant)
    ]

pub returns-in_err-push-2-clause-err : goal.returns-in_err-push-2-clause-err
returns-in_err-push-2-clause-err c =
    let so_far = canvas_paints c.args.part.now (take c.loop-figure.figure-index c.args.figures.now) in
    let kept : take (length c.args.batch.now) c.push-then-not-is_empty.new.self ≡ c.args.batch.now =
    ap (take (length c.args.batch.now)) (c.in_err-push-2.ensures.err ∙ c.loop-figure.invariant) ∙ take-append_seam c.args.batch.now so_far in
    search rules
