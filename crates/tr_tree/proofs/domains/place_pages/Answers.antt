use Rattle.std.proofs.Common.{◌∙◌, arith}
use Rattle.std.proofs.lemmas.List.{take_more_set}
use Rattle.std.proofs.Math.ListN.{length-set}
use Rattle.tr_base.proofs.LayoutLemmas.{places_by_more}
use Rattle.tr_stack.specs.Stacks.{page_place}
use Rattle.tr_tree.proofs.domains.place_pages.Goals as goal

pub loop-i-preserved : goal.loop-i-preserved
loop-i-preserved c = record {
  count = length-set c.loop-i.places c.loop-i.i c.page_child.result ∙ c.loop-i.invariant.count;
  so_far = take_more_set c.loop-i.places c.loop-i.i c.page_child.result (omega arith)
      ∙ places_by_more (page_place c.args.rect c.args.per c.args.page) _ _ _ c.loop-i.invariant.so_far c.page_child.ensures.place;
}
