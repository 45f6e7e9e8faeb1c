use Rattle.std.proofs.Common.{List, ◌+◌, length, ap, ◌∙◌}
use Rattle.std.proofs.lemmas.List.{length_push}
use Rattle.tr_base.specs.Rects.{Edges}
use Rattle.tr_surface.proofs.GoodLemmas.{none_more}
use Rattle.tr_surface.proofs.surfaces.empty_regions.Goals as goal

pub loop-n-preserved : goal.loop-n-preserved
loop-n-preserved c = record {
  count = ap (λ (rs : List (List Edges)). length rs) c.in-Ok.ensures.items
      ∙ length_push c.loop-n.regions.items c.empty.result ∙ ap (λ k. k + 1) c.loop-n.invariant.count;
  empty = λ n. none_more c.loop-n.regions.items c.push.new.self.items c.empty.result n c.in-Ok.ensures.items c.empty.ensures (c.loop-n.invariant.empty n);
}
