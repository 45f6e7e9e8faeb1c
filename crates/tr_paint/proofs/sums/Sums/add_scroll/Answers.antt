use Rattle.std.proofs.Common.{[], ◌∷◌, refl, ◌∙◌}
use Rattle.tr_paint.specs.declared.paints.Paint.{Paint}
use Rattle.tr_paint.specs.declared.paints.Paint.TheVariants.{Scroll}
use Rattle.tr_paint.specs.declared.sums.Scrolls.{Scrolls}
use Rattle.tr_paint.specs.declared.sums.Scrolls.TheVariants.{Alike}
use Rattle.tr_paint.proofs.SumLemmas.{hull-append, hull-one, cost-append, cost-one, spoils-still, scrolls-append, scrolls-one}
use Rattle.tr_paint.proofs.sums.Sums.add_scroll.Goals as goal

pub returns : goal.returns
returns c = λ front some.
    let paint : Paint = Scroll c.args.clip.now c.args.delta in
    let scroll : Scrolls = Alike c.args.clip.now c.args.delta in
    record {
      hull =
          hull-append _ _ _ front (paint ∷ []) c.hull-self.ensures.first c.hull-self.ensures.second c.hull-self.ensures.least some.hull
          (hull-one paint);
      cost =
          c.saturating_add-self.ensures
          ∙ cost-append _ _ front (paint ∷ []) some.cost (cost-one paint _ (cc c.saturating_mul.ensures));
      spoils = some.spoils ∙ spoils-still paint front refl;
      scrolls =
          scrolls-append _ scroll _ front (paint ∷ []) c.both_scrolls-self.ensures.some c.both_scrolls-self.ensures.others some.scrolls
          (scrolls-one scroll paint (refl, refl));
      near = c.both_scrolls-self.ensures.near some.near (c.requires.clip, c.requires.delta);
    }
