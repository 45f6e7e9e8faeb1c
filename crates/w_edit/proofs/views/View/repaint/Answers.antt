use Rattle.std.proofs.Common.{◌≡◌, ℕ, ◌+◌, List, ◌∷◌, [], ◌++◌, map, sym, ap, ◌∙◌, append_assoc, arith}
use Rattle.std.proofs.lemmas.List.{append-nil}
use Rattle.std.proofs.lemmas.Grind.{flat_map-append}
use Rattle.std.proofs.lemmas.List.FromFn.{map-range_with_len_more}
use Rattle.std.specs.List.{range_with_len}
use Rattle.tr_base.specs.declared.Size.{Size}
use Rattle.tr_base.specs.declared.Op.TheVariants.{Bg}
use Rattle.tr_base.specs.Rects.{whole_of}
use Rattle.tr_paint.specs.declared.Paint.{Paint}
use Rattle.tr_paint.specs.declared.Paint.TheVariants.{Tint}
use Rattle.tr_paint.specs.Batches.{batch_of, kept}
use Rattle.w_edit.specs.Contents.{Contents}
use Rattle.w_edit.specs.Pictures.{written}
use Rattle.w_edit.proofs.views.View.repaint.Goals as goal

-- one line more is written
one_more : (size : Size) (y : Contents) (old : List Paint) (first : Paint) (n : ℕ) →
    (old ++ batch_of (first ∷ map (written size y) (range_with_len 0 n))) ++ kept (written size y n)
    ≡ old ++ batch_of (first ∷ map (written size y) (range_with_len 0 (n + 1)))
one_more size y old first n =
    append_assoc old (batch_of (first ∷ map (written size y) (range_with_len 0 n))) (kept (written size y n))
    ∙ ap (λ (cs : List Paint). old ++ cs) (append_assoc (kept first) _ _)
    ∙ ap (λ (cs : List Paint). old ++ (kept first ++ cs))
    (sym (ap (λ cs. batch_of cs) (map-range_with_len_more (written size y) 0 n n (omega arith))
    ∙ flat_map-append kept (map (written size y) (range_with_len 0 n)) (written size y n ∷ [])
    ∙ ap (λ cs. batch_of (map (written size y) (range_with_len 0 n)) ++ cs) (append-nil (kept (written size y n)))))

pub loop-above-preserved : goal.loop-above-preserved
loop-above-preserved c =
    let size = c.args.size in
    let self = c.args.self.now in
    let above = c.loop-above.above in
    c.in_ok-push-2.ensures.ok
    ∙ rw (c.in_ok-written.ensures.paint, c.loop-above.invariant)
    (one_more size self c.args.batch.now (Tint (whole_of size) Bg) above)
