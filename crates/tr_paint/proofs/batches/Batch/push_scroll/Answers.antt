use Rattle.std.proofs.Common.{◌≡◌, true, refl}
use Rattle.tr_paint.specs.declared.paints.Paint.{Paint}
use Rattle.tr_paint.specs.declared.paints.Paint.TheVariants.{Scroll}
use Rattle.tr_paint.specs.Paints.{has_area}
use Rattle.tr_paint.proofs.SumLemmas.{batch-append, full-area}
use Rattle.tr_paint.proofs.batches.Batch.push_scroll.Goals as goal

pub invariant_of-self-2 : goal.invariant_of-self-2
invariant_of-self-2 c =
    let paint : Paint = Scroll c.args.clip.now c.args.delta in
    let some : has_area paint ≡ true =
    full-area paint c.args.clip.now refl c.has_points_of.ensures.rect (c.if-not-has_points_of.ensures.some refl) in
    rw (c.if-not-repeat_scroll.ensures.some refl) (record {
      batch = batch-append _ _ c.self.invariant.batch (record { near = (c.requires.clip, c.requires.delta); some = some }, tt);
      known =
          c.add_within.ensures _ paint refl refl refl (rw (c.if-not-has_scrolls_like.ensures refl) (refl, refl)) c.self.invariant.known;
    })
