use Rattle.std.proofs.Common.{◌≡◌, ◌++◌, ◌∷◌, [], List, true, cond, refl, sym, ap, ◌∙◌}
use Rattle.tr_paint.specs.declared.paints.Paint.{Paint}
use Rattle.tr_paint.specs.declared.paints.Paint.TheVariants.{Tint}
use Rattle.tr_paint.specs.Paints.{has_area}
use Rattle.tr_paint.specs.Batches as spec
use Rattle.tr_paint.proofs.SumLemmas.{batch-append, full-area, no_scroll-one}
use Rattle.tr_paint.proofs.batches.Batch.push_tint.Goals as goal

pub invariant_of-self-2 : goal.invariant_of-self-2
invariant_of-self-2 c =
    let paint : Paint = Tint c.args.clip.now c.args.op.now in
    let some : has_area paint ≡ true =
    full-area paint c.args.clip.now refl c.has_points_of.ensures.rect (c.if-not-has_points_of.ensures.some refl) in
    rw (c.if-not-repeat_tint.ensures.some refl) (record {
      batch = batch-append _ _ c.self.invariant.batch (record { near = c.requires; some = some }, tt);
      known = c.add_within.ensures _ paint refl refl refl (no_scroll-one _ paint tt) c.self.invariant.known;
    })

pub returns-clause-ok : goal.returns-clause-ok
returns-clause-ok c =
    let paint : Paint = Tint c.args.clip.now c.args.op.now in
    let some : has_area paint ≡ true =
    full-area paint c.args.clip.now refl c.has_points_of.ensures.rect (c.if-not-has_points_of.ensures.some refl) in
    let one : spec.kept paint ≡ paint ∷ [] = ap (λ b. cond b (paint ∷ []) []) some in
    c.if-not-repeat_tint.ensures.some refl
    ∙ ap (λ (cs : List Paint). cs ++ paint ∷ []) c.self.view_is
    ∙ ap (λ (cs : List Paint). c.args.self.now ++ cs) (sym one)
