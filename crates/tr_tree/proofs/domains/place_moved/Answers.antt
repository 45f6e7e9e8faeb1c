use Rattle.std.proofs.Common.{◌∙◌, arith}
use Rattle.std.proofs.lemmas.List.{take_more_set}
use Rattle.std.proofs.lemmas.List.Elements.{All-push, All-same}
use Rattle.std.proofs.Math.ListN.{length-set}
use Rattle.tr_base.specs.Rects.{Edges}
use Rattle.tr_base.specs.Layouts.{farthest, preferred_place, IsNear}
use Rattle.tr_tree.proofs.PlaceLemmas.{moved_more}
use Rattle.tr_tree.proofs.domains.place_moved.Goals as goal

pub loop-i-preserved : goal.loop-i-preserved
loop-i-preserved c =
    let r = c.preferred_place.result in
    let i = c.loop-i.i in
    let more = take_more_set c.loop-i.places i r (omega (arith, c.requires.room)) in
    record {
      count = length-set c.loop-i.places i r ∙ c.loop-i.invariant.count;
      so_far = more
          ∙ moved_more (preferred_place c.args.rect c.args.by) c.args.shapes.now _ i c.index-shapes-i.result r c.loop-i-test.true c.index-shapes-i.is
          c.preferred_place.ensures.place c.loop-i.invariant.so_far;
      near = All-same (λ (child : Edges). IsNear farthest child c.args.rect) _ _ more
          (All-push (λ (child : Edges). IsNear farthest child c.args.rect) _ r c.loop-i.invariant.near c.preferred_place.ensures.near);
    }
