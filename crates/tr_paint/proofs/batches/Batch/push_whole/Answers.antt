use Rattle.std.proofs.Common.{◌≡◌, true, cond, [], ◌∷◌, ◌++◌, List, ap, sym, ◌∙◌}
use Rattle.tr_base.proofs.RectLemmas.{false-true}
use Rattle.tr_paint.specs.declared.paints.Paint.{Paint}
use Rattle.tr_paint.specs.Paints.{has_area}
use Rattle.tr_paint.specs.Batches as spec
use Rattle.tr_paint.proofs.SumLemmas.{batch-append, full-area}
use Rattle.tr_paint.proofs.batches.Batch.push_whole.Goals as goal

pub invariant_of-self-2 : goal.invariant_of-self-2
invariant_of-self-2 c =
    let some : has_area c.args.paint ≡ true =
    full-area c.args.paint c.area-area.result c.area-area.ensures.value c.is_empty.ensures.invariant (λ e. false-true (c.if-is_empty.ensures.value.1 e)) in
    rw c.in_ok-push_whole.ensures.ok (record {
      batch = batch-append _ _ c.self.invariant.batch (record { near = c.requires.near; some = some }, tt);
      known = rw c.view.ensures at (c.add.ensures _ c.self.invariant.known);
    })

pub returns-clause-ok : goal.returns-clause-ok
returns-clause-ok c =
    let paint = c.args.paint in
    let some : has_area paint ≡ true =
    full-area paint c.area-area.result c.area-area.ensures.value c.is_empty.ensures.invariant (λ e. false-true (c.if-is_empty.ensures.value.1 e)) in
    let one : spec.kept paint ≡ paint ∷ [] = ap (λ b. cond b (paint ∷ []) []) some in
    c.in_ok-push_whole.ensures.ok
    ∙ ap (λ (cs : List Paint). cs ++ paint ∷ []) c.self.view_is
    ∙ ap (λ (cs : List Paint). c.args.self.now ++ cs) (sym one)
