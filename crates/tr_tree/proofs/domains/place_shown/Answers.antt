use Rattle.std.proofs.Common.{◌∙◌, arith}
use Rattle.std.proofs.lemmas.List.{take_more_set}
use Rattle.std.proofs.Math.ListN.{length-set}
use Rattle.tr_base.proofs.LayoutLemmas.{places_by_more}
use Rattle.tr_stack.specs.Stacks.{t_place}
use Rattle.tr_tree.proofs.domains.place_shown.Goals as goal

pub loop-i-preserved : goal.loop-i-preserved
loop-i-preserved c = record {
  count = length-set c.loop-i.places c.loop-i.i c.t_child.result ∙ c.loop-i.invariant.count;
  so_far = take_more_set c.loop-i.places c.loop-i.i c.t_child.result (omega arith)
      ∙ places_by_more (t_place c.args.rect c.args.shown) _ _ _ c.loop-i.invariant.so_far c.t_child.ensures.place;
}
