use Rattle.std.proofs.Common.{◌≡◌, true, refl}
use Rattle.tr_base.proofs.RectLemmas.{false-true}
use Rattle.tr_paint.specs.declared.paints.Paint.{Paint}
use Rattle.tr_paint.specs.declared.paints.Paint.TheVariants.{Text}
use Rattle.tr_paint.specs.Paints.{has_area}
use Rattle.tr_paint.proofs.SumLemmas.{batch-append, full-area}
use Rattle.tr_paint.proofs.batches.Batch.push_new_text.Goals as goal

pub invariant_of-self-2 : goal.invariant_of-self-2
invariant_of-self-2 c =
    let paint : Paint = Text c.args.ops.now c.args.clip.now c.args.at c.args.text in
    let some : has_area paint ≡ true =
    full-area paint c.part_in_cells-area.result c.part_in_cells-area.ensures c.is_empty.ensures.invariant (λ e. false-true (c.if-is_empty.ensures.value.1 e)) in
    rw c.in_ok-push_text.ensures.ok (record {
      batch = batch-append _ _ c.self.invariant.batch (record { near = (c.requires.clip, c.requires.at); some = some }, tt);
      known = c.add_still.ensures _ paint c.part_in_cells-area.ensures refl refl tt c.self.invariant.known;
    })
